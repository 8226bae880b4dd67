-- `frame::rebuild::rebuild_at` meets its contract: both planes by the record behind luma's. Assumes nothing.
use mathlib.Core.Path.{sym, ap, ◌∙◌}
use native.Mathlib.Omega.{arith}
use lib.ListN.{length}
use Rattle.record.specs.Records.{qp_in}
use Rattle.macroblock.proofs.Contents.{content_legal}
use Rattle.macroblock_chroma.specs.Fine.{FineChroma}
use Rattle.macroblock_chroma.proofs.Contents.{fine_chroma}
use Rattle.plane.specs.Decode.{luma_in, chroma_in, chroma_place}
use Rattle.plane.proofs.Walking.{luma_passed, tests_colour}
use Rattle.frame.proofs.rebuild.rebuild_at.Goals as goal

pub rebuild_chroma-requires-clause-among : goal.rebuild_chroma-requires-clause-among
rebuild_chroma-requires-clause-among c =
    let a = c.args in
    let p = c.requires.among in
    let b = c.behind_luma-behind.ensures in
    let passed = luma_passed a.layout a.file.now a.start a.m p.2 in
    let legal = content_legal a.layout a.m (luma_in a.file.now a.start a.m) passed in
    -- what the tests of macroblock m's records give
    let fine =
    fine_chroma a.layout a.m (qp_in (luma_in a.file.now a.start a.m)) (chroma_place a.file.now a.start a.m) (chroma_in a.file.now a.start a.m)
    (sym (tests_colour a.layout a.file.now a.start a.m (sym p.1.told) passed) ∙ p.2) in (
      p.0,
      omega (arith, b.qp_is, legal),
      ap length b.part ∙ b.long,
      coe 0 1 (i. FineChroma a.layout a.m (sym b.qp_is i) (sym b.part i)) fine,
    )
