-- `macroblock::inner::code_macroblock` meets its contract: both candidates, and the record and the samples of the one that is taken. Assumes nothing.
use mathlib.Core.Path.{◌≡◌, refl, sym, ap, subst, ◌∙◌}
use mathlib.Core.List.{List}
use Prim.Native.Nat.{ℕ, ◌<◌}
use native.Mathlib.Omega.{arith}
use borrow.Author.Rules.{rules}
use lib.IntN.{ℤ, pos}
use lib.ListN.{length, get_or}
use mir.Syntax.{w8, w16}
use mir.Val.{Fits, SFits}
use Rattle.lists.proofs.Bytes.{bytes_known}
use Rattle.whole.specs.Bounds.{Each}
use Rattle.choice.specs.declared.inner.Standing.{Standing}
use Rattle.residual_whole.specs.Rebuilt.{whole_samples, dc_fits, first_ac}
use Rattle.picture.specs.declared.Layout.{Layout}
use Rattle.picture.specs.Whole.{with_whole}
use Rattle.macroblock4.specs.Code.{blocks_from}
use Rattle.macroblock4.proofs.Coding.{modes_small}
use Rattle.macroblock4.proofs.CodedRecord.{levels_fit4}
use Rattle.macroblock4.proofs.RecordFrom.{length_blocks_from}
use Rattle.macroblock16.specs.Code.{Candidate}
use Rattle.macroblock16.proofs.CodedRecord.{Ready, ready16, stored16}
use Rattle.macroblock.proofs.Candidates.{wins_whole, wins_fours, whole_done, fours_done, candidate_before, not_below, sixteen_over}
use Rattle.macroblock.proofs.inner.code_macroblock.Goals as goal
use Rattle.macroblock.proofs.inner.code_macroblock.Goals.{After-code_below-whole, Then-together-fours, Else-together-fours}

-- the candidate of 16x16, where 4x4 costs something
candidate_at : (c : After-code_below-whole) → 0 < c.code_candidate4-fours.result.sad
    → Candidate c.args.layout c.args.m c.args.quantizer.qp c.args.plane.now c.args.rebuilt.now c.code_below-whole.result c.code_below-whole.new.levels c.code_below-whole.new.prediction
candidate_at c some =
    let a = c.args in
    let among = c.requires.among.0 in
    candidate_before a.layout among.sound.some a.m among.macroblock a.quantizer.qp a.plane.now a.rebuilt.now c.requires.in_fours_in_bounds.1
    c.code_candidate4-fours.ensures.rebuilt_after (c.code_below-whole.ensures.candidate some)

-- ---- where 16x16 is taken

-- what is known there of its candidate x, and that the winner's levels are its levels
record Taken (l : Layout) (m qp : ℕ) (original before : List ℕ) (found : Standing) (sixteen levels : List ℤ) (shown : List ℕ) (apart : ℕ) : Type 0 where
  below : found.cost < apart
  coded : Candidate l m qp original before found sixteen shown
  ready : Ready qp sixteen shown
  is : levels ≡ sixteen

taken_at : (c : Then-together-fours)
    → Taken c.args.layout c.args.m c.args.quantizer.qp c.args.plane.now c.args.rebuilt.now c.code_below-whole.result c.code_below-whole.new.levels c.winner-levels.result.now
    c.code_below-whole.new.prediction c.code_candidate4-fours.result.sad
taken_at c =
    let cost = c.from-together.ensures in
    let own : (k : ℕ) → Fits w8 (get_or c.args.rebuilt.now k 0) = search rules in
    let below = rw cost at c.if-together-fours.true in
    let x = candidate_at (goal.at.Then-together-fours c).After-code_below-whole (omega (arith, below)) in
    let r = ready16 x c.requires.among.1 (bytes_known _ c.type_inv.plane) (bytes_known _ own) in
    record {
      below = below;
      coded = x;
      ready = r;
      is = rw cost at c.winner-levels.ensures.result_value ∙ wins_whole _ c.code_below-whole.new.levels r.long below;
    }

pub store_macroblock16-requires : goal.store_macroblock16-requires
store_macroblock16-requires c =
    let q = c.requires.among in
    let t = taken_at (goal.at.store_macroblock16-requires c).Then-together-fours in
    let r = t.ready in
    record {
      among = (q.0, q.1, r.samples, ap length t.is ∙ r.long, search rules);
      each = (subst (Each 32768) (sym t.is) r.small, ap (dc_fits 16 c.args.quantizer.qp) t.is ∙ r.dc, ap (first_ac 16 c.args.quantizer.qp) t.is ∙ r.ac);
    }

pub write_whole-requires-clause-levels_len : goal.write_whole-requires-clause-levels_len
write_whole-requires-clause-levels_len c =
    let t = taken_at (goal.at.write_whole-requires-clause-levels_len c).Then-together-fours in
    (ap length t.is ∙ t.ready.long, λ k. subst (λ (l : List ℤ). SFits w16 (get_or l k (pos 0))) (sym t.is) (t.ready.fits k))

pub returns-then-together-fours : goal.returns-then-together-fours
returns-then-together-fours c =
    let a = c.args in
    let among = c.requires.among.0 in
    let b = c.code_candidate4-fours.ensures in
    let t = taken_at (goal.at.returns-then-together-fours c).Then-together-fours in
    let x = t.coded in
    let shown = c.code_below-whole.new.prediction in
    let block = whole_samples 16 a.quantizer.qp shown c.winner-levels.result.now in
    let stored = sixteen_over a.layout among.sound.some a.m among.macroblock a.quantizer.qp a.plane.now a.rebuilt.now c.requires.in_fours_in_bounds.1 block
    (c.store_macroblock16.ensures ∙ ap (with_whole 16 a.layout a.m block) b.rebuilt_after) in
    let step = stored16 x (stored ∙ ap (λ (levels : List ℤ). with_whole 16 a.layout a.m (whole_samples 16 a.quantizer.qp shown levels) a.rebuilt.now) t.is) in
    let d = whole_done a.layout a.quantizer.qp a.plane.now a.m a.rebuilt.now b.sad_value x.sad a.file.now t.below c.number-qp.ensures x.mode (t.is ∙ x.coded)
    (c.write_whole.ensures.value, c.write_whole.ensures.file_after) step in
    record { value = d.0; file_after = d.1.0; rebuilt_after = d.1.1 }

-- ---- where 4x4 is

-- the winner's levels are those of its blocks
kept_at : (c : Else-together-fours) → c.winner-levels.result.now ≡ blocks_from c.args.layout c.args.quantizer.qp c.args.plane.now c.args.m c.args.rebuilt.now
kept_at c =
    let a = c.args in
    let four = c.code_candidate4-fours.ensures.levels_after in
    c.winner-levels.ensures.result_value
    ∙ wins_fours _ _ (ap length four ∙ length_blocks_from a.layout a.quantizer.qp a.plane.now a.m a.rebuilt.now) c.if-together-fours.false ∙ four

pub write_fours-requires : goal.write_fours-requires
write_fours-requires c =
    let a = c.args in
    let own : (k : ℕ) → Fits w8 (get_or a.rebuilt.now k 0) = search rules in
    let b = c.code_candidate4-fours.ensures in
    let e = kept_at (goal.at.write_fours-requires c).Else-together-fours in
    record {
      in_fours_in_bounds = (c.requires.in_fours_in_bounds.0, λ k. rw b.modes_value (modes_small a.layout a.quantizer.qp a.plane.now a.m a.rebuilt.now k));
      levels_len = (
        ap length e ∙ length_blocks_from a.layout a.quantizer.qp a.plane.now a.m a.rebuilt.now,
        λ k. subst (λ (l : List ℤ). SFits w16 (get_or l k (pos 0))) (sym e)
            (levels_fit4 a.layout a.quantizer.qp c.requires.among.1 a.plane.now (bytes_known _ c.type_inv.plane) a.m a.rebuilt.now (bytes_known _ own) k),
      );
    }

pub returns-else-together-fours : goal.returns-else-together-fours
returns-else-together-fours c =
    let a = c.args in
    let b = c.code_candidate4-fours.ensures in
    let e = kept_at (goal.at.returns-else-together-fours c).Else-together-fours in
    let least = not_below _ (λ some. (candidate_at (goal.at.returns-else-together-fours c).After-code_below-whole some).sad) (rw c.from-together.ensures at c.if-together-fours.false) in
    let d = fours_done a.layout a.quantizer.qp a.plane.now a.m a.rebuilt.now b.sad_value refl a.file.now least
    c.number-qp.ensures b.modes_value e (c.write_fours.ensures.value, c.write_fours.ensures.file_after) b.rebuilt_after in
    record { value = d.0; file_after = d.1.0; rebuilt_after = d.1.1 }
