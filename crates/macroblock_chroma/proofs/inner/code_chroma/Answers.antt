-- `macroblock_chroma::inner::code_chroma` meets its contract: both quantizers, one mode, both planes coded, then the record. Assumes nothing.
use mathlib.Core.Path.{◌≡◌, refl, sym, ap, subst, ◌∙◌}
use mathlib.Core.List.{List, ◌++◌}
use Prim.Native.Nat.{ℕ}
use borrow.Author.Rules.{rules}
use lib.IntN.{ℤ, pos}
use lib.ListN.{length, get_or}
use mir.Syntax.{w8, w16, w32}
use mir.Val.{SFits}
use mir.ValLaws.{to_z-of_z}
use Rattle.lists.specs.Parts.{over}
use Rattle.lists.proofs.Bytes.{bytes_known}
use Rattle.quantizer.proofs.Offsets.{plane_legal}
use Rattle.picture.specs.Both.{Both, pair}
use Rattle.macroblock_chroma.specs.Code.{coded_step_chroma}
use Rattle.macroblock_chroma.specs.Content.{quantizers_of}
use Rattle.macroblock_chroma.proofs.CodedRecord.{cb_own, cr_own, length_both, both_fit, written_chroma}
use Rattle.macroblock_chroma.proofs.Making.{levels_made, coded_made}
use Rattle.macroblock_chroma.proofs.Offsets.{PlanesQuantized, offset_fits, offsets_handed, both_legal, both_there}
use Rattle.macroblock_chroma.proofs.inner.code_chroma.Goals as goal
use Rattle.macroblock_chroma.proofs.inner.code_chroma.Goals.{After-both_quantizers, After-unwrap-both, After-code_both}

-- both quantizers are those of the offsets,
handed_at : (c : After-both_quantizers) → c.both_quantizers.result ≡ quantizers_of c.args.qp c.args.cb_offset c.args.cr_offset
handed_at c = offsets_handed _ _ _ c.both_quantizers.ensures c.ranges.cb_offset c.ranges.cr_offset refl refl

planes_at : (c : After-unwrap-both) → PlanesQuantized c.args.qp c.args.cb_offset c.args.cr_offset c.unwrap-both.result.cb c.unwrap-both.result.cr
planes_at c = both_legal _ _ _ (handed_at (goal.at.After-unwrap-both c).After-both_quantizers) c.unwrap-both.ensures

-- an offset in its range is never refused,
pub unwrap-both-requires : goal.unwrap-both-requires
unwrap-both-requires c = both_there _ _ _ (handed_at (goal.at.unwrap-both-requires c).After-both_quantizers) c.requires.among.2 c.requires.among.3

-- and the levels that the call leaves are those of the coder's record
levels_at : (c : After-code_both)
    → c.code_both.new.levels
    ≡ cb_own c.args.layout c.args.qp c.args.cb_offset c.args.cr_offset (pair c.args.cb.now c.args.cr.now) c.args.m (pair c.args.cb_out.now c.args.cr_out.now)
    ++ cr_own c.args.layout c.args.qp c.args.cb_offset c.args.cr_offset (pair c.args.cb.now c.args.cr.now) c.args.m (pair c.args.cb_out.now c.args.cr_out.now)
levels_at c =
    let a = c.args in
    let planes = planes_at (goal.at.After-code_both c).After-unwrap-both in
    let p = c.predict_both-mode.ensures in
    let x = levels_made a.layout a.m a.cb.now a.cb_out.now _ p.chosen planes.cbs.is p.cb_shown in
    let y = levels_made a.layout a.m a.cr.now a.cr_out.now _ p.chosen planes.crs.is p.cr_shown in
    c.code_both.ensures.levels_after ∙ (λ i. x i ++ y i)

-- ---- both planes

pub code_both-requires-clause-among : goal.code_both-requires-clause-among
code_both-requires-clause-among c =
    let a = c.args in
    let planes = planes_at (goal.at.code_both-requires-clause-among c).After-unwrap-both in
    (c.requires.among.0, plane_legal _ _ planes.cbs, plane_legal _ _ planes.crs, c.requires.cb_len.0, c.requires.cb_len.1)

pub write_chroma-requires-clause-in_chroma_in_bounds : goal.write_chroma-requires-clause-in_chroma_in_bounds
write_chroma-requires-clause-in_chroma_in_bounds c =
    let a = c.args in
    let cb_handed = to_z-of_z w32 a.cb_offset c.ranges.cb_offset in
    let cr_handed = to_z-of_z w32 a.cr_offset c.ranges.cr_offset in (
      c.requires.cb_len.2,
      subst (λ (z : ℤ). SFits w8 z) (sym cb_handed) (offset_fits a.cb_offset c.requires.among.2),
      subst (λ (z : ℤ). SFits w8 z) (sym cr_handed) (offset_fits a.cr_offset c.requires.among.3),
    )

pub write_chroma-requires-clause-levels_len : goal.write_chroma-requires-clause-levels_len
write_chroma-requires-clause-levels_len c =
    let a = c.args in
    let original : Both = pair a.cb.now a.cr.now in
    let before : Both = pair a.cb_out.now a.cr_out.now in
    let levels = levels_at (goal.at.write_chroma-requires-clause-levels_len c).After-code_both in (
      ap length levels ∙ length_both a.layout a.qp a.cb_offset a.cr_offset original a.m before,
      λ k. subst (λ (l : List ℤ). SFits w16 (get_or l k (pos 0))) (sym levels)
          (both_fit a.layout a.qp a.cb_offset a.cr_offset original a.m before
          (record { cbs = bytes_known a.cb.now c.type_inv.cb; crs = bytes_known a.cr.now c.type_inv.cr })
          (record { cbs = bytes_known a.cb_out.now (search rules); crs = bytes_known a.cr_out.now (search rules) }) k),
    )

pub returns-clause-file_after : goal.returns-clause-file_after
returns-clause-file_after c =
    let a = c.args in
    let cb_handed = to_z-of_z w32 a.cb_offset c.ranges.cb_offset in
    let cr_handed = to_z-of_z w32 a.cr_offset c.ranges.cr_offset in
    let original : Both = pair a.cb.now a.cr.now in
    let before : Both = pair a.cb_out.now a.cr_out.now in
    let levels = levels_at (goal.at.returns-clause-file_after c).After-code_both in
    let written = written_chroma a.layout a.qp a.cb_offset a.cr_offset original a.m before cb_handed cr_handed c.predict_both-mode.ensures.chosen levels in
    c.write_chroma.ensures.file_after ∙ ap (λ (r : List ℕ). over r a.file.now) written

pub returns-clause-cr_out_after : goal.returns-clause-cr_out_after
unfolding coded_step_chroma
returns-clause-cr_out_after c =
    let a = c.args in
    let planes = planes_at (goal.at.returns-clause-cr_out_after c).After-unwrap-both in
    let p = c.predict_both-mode.ensures in
    let x = coded_made a.layout a.m a.cb.now a.cb_out.now _ p.chosen planes.cbs.is p.cb_shown c.code_both.ensures.cb_out_after in
    let y = coded_made a.layout a.m a.cr.now a.cr_out.now _ p.chosen planes.crs.is p.cr_shown c.code_both.ensures.cr_out_after in
    (λ i. pair (x i) (y i))
