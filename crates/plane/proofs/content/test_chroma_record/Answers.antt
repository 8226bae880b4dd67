-- `plane::content::test_chroma_record` meets its contract: the record behind luma's, with luma's QP. Assumes nothing.
use mathlib.Core.Path.{sym, ap, ◌∙◌}
use native.Mathlib.Omega.{arith}
use lib.ListN.{length}
use Rattle.lists.specs.Chain.{chain}
use Rattle.macroblock.proofs.Contents.{content_legal}
use Rattle.macroblock_chroma.specs.Content.{content_tests_chroma}
use Rattle.plane.specs.Decode.{luma_in}
use Rattle.plane.proofs.Walking.{tests_colour}
use Rattle.plane.proofs.content.test_chroma_record.Goals as goal

pub test_chroma-requires : goal.test_chroma-requires
test_chroma-requires c =
    let a = c.args in
    let b = c.behind_luma-behind.ensures in
    let legal = content_legal a.layout a.m (luma_in a.file.now a.start a.m) c.requires.m_value in
    (c.requires.among.0, omega (arith, b.qp_is, legal), ap length b.part ∙ b.long)

pub returns : goal.returns
returns c =
    let a = c.args in
    let b = c.behind_luma-behind.ensures in
    c.test_chroma.ensures
    ∙ (λ i. chain (content_tests_chroma a.layout a.m (b.qp_is i) (b.place_is i) (b.part i)))
    ∙ sym (tests_colour a.layout a.file.now a.start a.m (sym c.requires.among.1.told) c.requires.m_value)
