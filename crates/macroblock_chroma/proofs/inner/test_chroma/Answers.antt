-- `macroblock_chroma::inner::test_chroma` meets its contract: one return for each verdict of the chain. Assumes nothing.
use mathlib.Core.Path.{◌≡◌, sym, ap, subst, ◌∙◌}
use mathlib.Core.Bool.{◌&&◌}
use native.Mathlib.Omega.{arith}
use borrow.Author.Rules.{rules}
use lib.ListN.{take, drop}
use Rattle.std.specs.Prelude.{Some, None}
use Rattle.std.proofs.lemmas.Result.{err_from_is_err_and}
use Rattle.lists.specs.Chain.{stop}
use Rattle.lists.proofs.Every.{both_true}
use Rattle.whole.specs.Bounds.{Each}
use Rattle.refusal.specs.declared.Refusal.TheVariants as refusal
use Rattle.quantizer.proofs.Offsets.{plane_legal}
use Rattle.chroma.specs.Rules.{permitted}
use Rattle.record.specs.Records.{cb_offset_in, cr_offset_in, chroma_mode_in}
use Rattle.picture.specs.Whole.{flags_round}
use Rattle.picture.proofs.Round.{flags_any_side}
use Rattle.macroblock_chroma.specs.Content.{quantizers_of, cb_levels_in, cr_levels_in, cb_quantizer, cr_quantizer}
use Rattle.macroblock_chroma.specs.Fine.{in_range}
use Rattle.macroblock_chroma.proofs.Contents.{both_small, offset_outside, mode_lacking_chroma, range_far_chroma, content_fine_chroma}
use Rattle.macroblock_chroma.proofs.Offsets.{PlanesQuantized, offsets_handed, both_legal, both_refused}
use Rattle.macroblock_chroma.proofs.inner.test_chroma.Goals as goal
use Rattle.macroblock_chroma.proofs.inner.test_chroma.Goals.{After-both_quantizers, In_ok-both, After-permitted, After-both_in_range}

-- both quantizers are those of the record's offsets
handed_at : (c : After-both_quantizers) → c.both_quantizers.result ≡ quantizers_of c.args.qp (cb_offset_in c.args.part.now) (cr_offset_in c.args.part.now)
handed_at c = offsets_handed _ _ _ c.both_quantizers.ensures (search rules) (search rules) c.cb_offset-cb_offset.ensures c.cr_offset-cr_offset.ensures

planes_at : (c : In_ok-both) → PlanesQuantized c.args.qp (cb_offset_in c.args.part.now) (cr_offset_in c.args.part.now) c.in_ok-both.both.cb c.in_ok-both.both.cr
planes_at c =
    let there : c.both_quantizers.result ≡ Some c.in_ok-both.both = grind arith in
    both_legal _ _ _ (handed_at (goal.at.In_ok-both c).After-both_quantizers) there

-- the mode was tested by the macroblock's own flags
tested_at : (c : After-permitted) → c.permitted.result ≡ permitted (flags_round 8 c.args.layout c.args.m) (chroma_mode_in c.args.part.now)
tested_at c =
    let near = c.requires.0 in
    let flags = c.flags_round-flags.ensures ∙ flags_any_side 16 8 (omega arith) (omega arith) c.args.layout near.sound.some near.sound.rows c.args.m near.macroblock in
    c.permitted.ensures ∙ (λ i. permitted (flags i) (c.chroma_mode.ensures i))

-- and the ranges by the record's own levels
ranged_at : (c : After-both_in_range)
    → c.both_in_range.result
    ≡ (in_range (cb_quantizer c.args.qp c.args.part.now) (cb_levels_in c.args.part.now) && in_range (cr_quantizer c.args.qp c.args.part.now) (cr_levels_in c.args.part.now))
unfolding cb_levels_in cr_levels_in
ranged_at c =
    let planes = planes_at (goal.at.After-both_in_range c).In_ok-both in
    let e = c.both_levels.ensures in
    c.both_in_range.ensures ∙ (λ i. in_range (planes.cbs.is i) (take 64 (e i)) && in_range (planes.crs.is i) (drop 64 (e i)))

pub returns-in_err-both : goal.returns-in_err-both
returns-in_err-both c =
    let none : c.both_quantizers.result ≡ None = grind arith in
    let told : c.in_err-both.field-0.0 ≡ refusal.Quantizer c.args.place = grind arith in
    let p = err_from_is_err_and c.from_residual.result c.from_residual.ensures.1 in
    let handed = handed_at (goal.at.returns-in_err-both c).After-both_quantizers in
    rw (p.1, p.2) (ap stop told ∙ sym (offset_outside _ _ _ _ c.args.part.now (both_refused c.args.qp _ _ handed none)))

pub returns-then-not-permitted : goal.returns-then-not-permitted
returns-then-not-permitted c =
    let planes = planes_at (goal.at.returns-then-not-permitted c).In_ok-both in
    let tested = tested_at (goal.at.returns-then-not-permitted c).After-permitted in
    sym (mode_lacking_chroma _ _ _ _ c.args.part.now planes.cbs.allowed planes.crs.allowed (sym tested ∙ c.if-not-permitted.true))

pub both_in_range-requires : goal.both_in_range-requires
both_in_range-requires c =
    let planes = planes_at (goal.at.both_in_range-requires c).In_ok-both in
    (plane_legal _ _ planes.cbs, plane_legal _ _ planes.crs, search rules, subst (Each 32768) (sym c.both_levels.ensures) (both_small c.args.part.now))

pub returns-then-not-both_in_range : goal.returns-then-not-both_in_range
unfolding cb_levels_in cr_levels_in
returns-then-not-both_in_range c =
    let planes = planes_at (goal.at.returns-then-not-both_in_range c).In_ok-both in
    let tested = tested_at (goal.at.returns-then-not-both_in_range c).After-permitted in
    let ranged = ranged_at (goal.at.returns-then-not-both_in_range c).After-both_in_range in
    sym (range_far_chroma _ _ _ _ c.args.part.now planes.cbs.allowed planes.crs.allowed (sym tested ∙ c.if-not-permitted.false) (sym ranged ∙ c.if-not-both_in_range.true))

pub returns : goal.returns
unfolding cb_levels_in cr_levels_in
returns c =
    let planes = planes_at (goal.at.returns c).In_ok-both in
    let tested = tested_at (goal.at.returns c).After-permitted in
    let ranged = ranged_at (goal.at.returns c).After-both_in_range in
    let b = both_true (in_range _ _) (in_range _ _) (sym ranged ∙ c.if-not-both_in_range.false) in
    sym (content_fine_chroma (record { cb_offset = planes.cbs.allowed; cr_offset = planes.crs.allowed; mode = sym tested ∙ c.if-not-permitted.false; cb_range = b.0; cr_range = b.1 }) c.args.place)
