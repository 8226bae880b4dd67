-- The offsets of chroma's quantizers, and what a caller learns from both quantizers.
--     offset_fits                                 an offset in its range is a signed byte
--     cb_refuses, cr_refuses, both_made           both quantizers by what comes of each offset
--     PlanesQuantized, both_legal                 of quantizers that came back: each is that of its offset, which is in its range
--     offsets_handed                              what came back, of the offsets as the call took them
--     both_refused, both_there                    where none did, an offset is out of its range, and of offsets in their range they do
-- Assumes nothing.
use mathlib.Core.Path.{◌≡◌, refl, sym, ap, ◌∙◌}
use mathlib.Core.Bool.{Bool, true, false, cond, ◌&&◌}
use Prim.Native.Nat.{ℕ}
use native.Mathlib.Omega.{arith}
use lib.IntN.{ℤ, pos}
use mir.Syntax.{w8, w32}
use mir.Val.{SFits, to_z, of_z}
use mir.ValLaws.{to_z-of_z}
use Rattle.lists.proofs.Every.{both_true}
use Rattle.whole.specs.Notation.{minus}
use Rattle.whole.specs.Range.{inside}
use Rattle.whole.proofs.Bound.{here, fits}
use Rattle.whole.proofs.Range.{inside_within}
use Rattle.quantizer.specs.Chroma.{chroma_of}
use Rattle.quantizer.specs.declared.Quantizer.{Quantizer}
use Rattle.quantizer.proofs.Offsets.{PlaneQuantizer}
use Rattle.macroblock_chroma.specs.Content.{both_of, quantizers_of}
use Rattle.macroblock_chroma.specs.declared.Quantizers.{Quantizers}
use Rattle.std.specs.Option.{IsSome}
use Rattle.std.specs.Prelude.{Option, None}

pub offset_fits : (offset : ℤ) → inside (minus 12) (pos 12) offset ≡ true → SFits w8 offset
offset_fits offset e = fits (here (inside_within (minus 12) (pos 12) 12 tt tt offset e)) tt

-- ---- both quantizers

legal_not_refused : {first second : Quantizer} → both_of first second ≡ None → ⊥
legal_not_refused e = let z : ◌≡◌ {A = ℕ} 0 1 = cc in omega arith

same_first : {first second other another : Quantizer} → both_of first second ≡ both_of other another → other ≡ first
same_first {first} {second} {other} {another} e =
    let p : ◌≡◌ {A = Quantizers} (record { cb = first; cr = second }) (record { cb = other; cr = another }) = cc in
    sym (ap (λ (x : Quantizers). x.cb) p)

same_second : {first second other another : Quantizer} → both_of first second ≡ both_of other another → another ≡ second
same_second {first} {second} {other} {another} e =
    let p : ◌≡◌ {A = Quantizers} (record { cb = first; cr = second }) (record { cb = other; cr = another }) = cc in
    sym (ap (λ (x : Quantizers). x.cr) p)

-- as they are made
module _ (qp : ℕ) (cb cr : ℤ) where
  pub cb_refuses : inside (minus 12) (pos 12) cb ≡ false → quantizers_of qp cb cr ≡ None
  unfolding quantizers_of
  cb_refuses e = rw e

  pub cr_refuses : inside (minus 12) (pos 12) cb ≡ true → inside (minus 12) (pos 12) cr ≡ false → quantizers_of qp cb cr ≡ None
  unfolding quantizers_of
  cr_refuses a e = rw (a, e)

  pub both_made : {first second : Quantizer} → PlaneQuantizer qp cb first → PlaneQuantizer qp cr second → quantizers_of qp cb cr ≡ both_of first second
  unfolding quantizers_of
  both_made {first} {second} f s = rw (f.allowed, s.allowed) (λ i. both_of (record { qp = sym f.is i }) (record { qp = sym s.is i }))

-- and as a caller has them
module _ (qp : ℕ) (cb cr : ℤ) where
  -- what both quantizers are
  pub record PlanesQuantized (first second : Quantizer) : Type 0 where
    pub cbs : PlaneQuantizer qp cb first
    pub crs : PlaneQuantizer qp cr second

  -- the offsets are as the call took them: its arguments are words, and these are of numbers that fit
  pub offsets_handed : {r : Option Quantizers} {first second : ℤ} → r ≡ quantizers_of qp (to_z w32 (of_z w32 first)) (to_z w32 (of_z w32 second))
      → SFits w32 first → SFits w32 second → first ≡ cb → second ≡ cr → r ≡ quantizers_of qp cb cr
  offsets_handed {r} {first} {second} is f s is-cb is-cr = is ∙ (λ i. quantizers_of qp ((to_z-of_z w32 first f ∙ is-cb) i) ((to_z-of_z w32 second s ∙ is-cr) i))

  module _ {r : Option Quantizers} (is : r ≡ quantizers_of qp cb cr) where
    pub both_legal : {first second : Quantizer} → r ≡ both_of first second → PlanesQuantized first second
    unfolding quantizers_of
    both_legal {first} {second} e = by (inside (minus 12) (pos 12) cb && inside (minus 12) (pos 12) cr) refl (sym is ∙ e)
      where
        by : (b : Bool) → (inside (minus 12) (pos 12) cb && inside (minus 12) (pos 12) cr) ≡ b
            → cond b (both_of (record { qp = chroma_of qp cb }) (record { qp = chroma_of qp cr })) None ≡ both_of first second → PlanesQuantized first second
        by true b q =
            let both = both_true (inside (minus 12) (pos 12) cb) (inside (minus 12) (pos 12) cr) b in
            record {
              cbs = record { is = ap (λ (x : Quantizer). x.qp) (same_first q); allowed = both.0 };
              crs = record { is = ap (λ (x : Quantizer). x.qp) (same_second q); allowed = both.1 };
            }
        by false b q = absurd (legal_not_refused (sym q))

    pub both_refused : r ≡ None → (inside (minus 12) (pos 12) cb && inside (minus 12) (pos 12) cr) ≡ false
    unfolding quantizers_of
    both_refused e = by (inside (minus 12) (pos 12) cb && inside (minus 12) (pos 12) cr) (sym is ∙ e)
      where
        by : (b : Bool) → cond b (both_of (record { qp = chroma_of qp cb }) (record { qp = chroma_of qp cr })) None ≡ None → b ≡ false
        by true q = absurd (legal_not_refused q)
        by false q = refl

    pub both_there : inside (minus 12) (pos 12) cb ≡ true → inside (minus 12) (pos 12) cr ≡ true → IsSome r
    unfolding quantizers_of
    both_there a b = rw (is, a, b)
