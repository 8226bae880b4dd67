-- `quantizer::chroma_quantizer` meets its contract: the luma quantizer is built first, and what is built last is the clipped sum, folded.
-- Assumes nothing.
use mathlib.Core.Bool.{Bool, true}
use mathlib.Core.Path.{◌≡◌, refl, sym, ap, ◌∙◌}
use mathlib.Core.List.{[], ◌∷◌}
use Prim.Native.Nat.{ℕ, ◌≤◌}
use lib.IntN.{ℤ, pos, negsuc, ◌+ℤ◌}
use mir.Syntax.{w32}
use mir.Val.{SFits, to_z, of_z}
use mir.ValLaws.{to_z-of_z}
use Rattle.lists.proofs.Chain.{holds_new, written_passed}
use Rattle.refusal.proofs.Same.{says_same, says}
use Rattle.whole.specs.Bounds.{Each}
use Rattle.whole.specs.Clip.{clip}
use Rattle.whole.specs.Range.{inside}
use Rattle.whole.proofs.Bound.{within_less}
use Rattle.whole.proofs.Order.{clip_le}
use Rattle.whole.proofs.Range.{inside_within}
use Rattle.whole.proofs.Steps.{inp, add, safe, exact}
use Rattle.quantizer.specs.Chroma.{folded_of}
use Rattle.quantizer.specs.Range.{highest}
use Rattle.quantizer.proofs.Chroma.{folded_legal, chroma_legal}
use Rattle.quantizer.proofs.Range.{built_legal, legal}
use Rattle.quantizer.proofs.chroma_quantizer.Goals as goal

module _ (qp : ℕ) (offset : ℤ) (luma : qp ≤ highest) {held : Bool} (tested : held ≡ inside (negsuc 11) (pos 12) (to_z w32 (of_z w32 offset))) (fits : SFits w32 offset) (holds : held ≡ true) where
  -- the test of the offset as the call made it is that of the number
  accepted : inside (negsuc 11) (pos 12) offset ≡ true
  accepted = ap (inside (negsuc 11) (pos 12)) (sym (to_z-of_z w32 offset fits)) ∙ sym tested ∙ holds

  -- so the sum of a byte and it is small
  small : Each 51 (pos qp ∷ offset ∷ [])
  small = (record { size = luma }, (within_less (inside_within (negsuc 11) (pos 12) 12 tt tt offset accepted) tt, tt))

pub overflow_add-from : goal.overflow_add-from
overflow_add-from c =
    let a = c.args in
    let luma = (built_legal a.qp c.in_ok-new.ensures refl).1 in
    let few = small a.qp a.offset luma c.inside.ensures c.ranges.offset c.if-not-inside.false in
    rw c.from.ensures (safe w32 51 (pos a.qp ∷ a.offset ∷ []) few (add (inp 0) (inp 1)) tt)

pub folded-requires : goal.folded-requires
folded-requires c = rw c.clip-moved.ensures (clip_le 51 _)

pub returns : goal.returns
returns c =
    let a = c.args in
    let luma = (built_legal a.qp c.in_ok-new.ensures refl).1 in
    let inside = accepted a.qp a.offset luma c.inside.ensures c.ranges.offset c.if-not-inside.false in
    let few = small a.qp a.offset luma c.inside.ensures c.ranges.offset c.if-not-inside.false in
    let clipped = c.clip-moved.ensures ∙ ap (clip 51) (rw c.from.ensures (exact w32 51 (pos a.qp ∷ a.offset ∷ []) few (add (inp 0) (inp 1)) tt)) in
    let folded = c.folded.ensures ∙ ap folded_of clipped in
    let e = chroma_legal a.qp a.offset luma inside in
    let q = legal c.folded.result (rw folded (folded_legal (clip 51 (pos a.qp +ℤ a.offset)) (clip_le 51 _))) in
    let b = c.new-2.ensures in
    record { says = says (says_same b.says ∙ q ∙ sym e); value = written_passed 0 e (holds_new 0 q b.value ∙ folded) }
