-- What a caller learns from the quantizer of a plane of chroma.
--     chroma_of_legal                  it is a quantizer's number
--     PlaneQuantizer, chroma_built, plane_legal     of a quantizer that came back: it is that of the offset, which is in its range
--     chroma_built_refused             where none did, the offset is out of its range
-- Assumes nothing.
use mathlib.Core.Path.{◌≡◌, refl, sym, ap, subst, ◌∙◌}
use mathlib.Core.Bool.{Bool, true, false}
use Prim.Native.Nat.{ℕ, ◌≤◌}
use native.Mathlib.Omega.{arith}
use lib.IntN.{ℤ, pos, ◌+ℤ◌}
use Rattle.lists.specs.Chain.{pass, chain}
use Rattle.lists.proofs.Chain.{chain_exactly_if, holds_new, pass_not_stop}
use Rattle.refusal.specs.declared.Refusal.{Refusal}
use Rattle.refusal.proofs.Same.{says_same}
use Rattle.whole.specs.Clip.{clip}
use Rattle.whole.specs.Notation.{minus}
use Rattle.whole.specs.Range.{inside}
use Rattle.whole.proofs.Order.{clip_le}
use Rattle.quantizer.specs.Chroma.{chroma_of, chroma_tests, ChromaBuilds}
use Rattle.quantizer.specs.Range.{highest, qp_of}
use Rattle.quantizer.specs.declared.Quantizer.{Quantizer}
use Rattle.quantizer.proofs.Chroma.{folded_legal, chroma_legal}
use Rattle.std.specs.Prelude.{Err, Ok, Result}
use Rattle.refusal.specs.Number.{said}

module _ (qp : ℕ) (offset : ℤ) where
  pub chroma_of_legal : chroma_of qp offset ≤ highest
  chroma_of_legal = folded_legal (clip highest (pos qp +ℤ offset)) (clip_le 51 _)

  -- what the quantizer of a plane is
  pub record PlaneQuantizer (q : Quantizer) : Type 0 where
    pub is : q.qp ≡ chroma_of qp offset
    pub allowed : inside (minus 12) (pos 12) offset ≡ true

  -- `handed` is the offset as the call took it
  pub chroma_built : {handed : ℤ} {b : Result Quantizer Refusal} {q : Quantizer} → ChromaBuilds qp handed b → handed ≡ offset → b ≡ Ok q → PlaneQuantizer q
  chroma_built {handed} {b} {q} builds same e =
      let p = subst (λ (z : ℤ). ChromaBuilds qp z b) same builds in
      let v : chain (chroma_tests qp offset) ≡ pass = sym (says_same p.says) ∙ ap said e in
      record {
        is = sym (ap qp_of e) ∙ holds_new 0 v p.value;
        allowed = ((chain_exactly_if (chroma_tests qp offset)).passes.0 v).1.0;
      }

  pub chroma_built_refused : {handed : ℤ} {b : Result Quantizer Refusal} {r : Refusal} → qp ≤ highest → ChromaBuilds qp handed b → handed ≡ offset → b ≡ Err r → inside (minus 12) (pos 12) offset ≡ false
  chroma_built_refused {handed} {b} {r} legal builds same e = by (inside (minus 12) (pos 12) offset) refl
    where
      by : (t : Bool) → inside (minus 12) (pos 12) offset ≡ t → inside (minus 12) (pos 12) offset ≡ false
      by true t =
          let p = subst (λ (z : ℤ). ChromaBuilds qp z b) same builds in
          absurd (pass_not_stop (sym (chroma_legal qp offset legal t) ∙ sym (says_same p.says) ∙ ap said e))
      by false t = t

  -- a legal quantizer
  pub plane_legal : {q : Quantizer} → PlaneQuantizer q → q.qp ≤ highest
  plane_legal p = omega (arith, p.is, chroma_of_legal)
