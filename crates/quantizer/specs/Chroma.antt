-- The chroma quantizer (01, "Transform, quantizer, rescaling"; the standard's clause 8.5.8). Assumes nothing.
use Rattle.std.specs.Prelude.{◌≡◌, cond, List, [], ◌∷◌, ℕ, ◌-◌, ltb, ℤ, pos, ◌+ℤ◌, get_or}
use Rattle.lists.specs.Chain.{Test, test, chain, written}
use Rattle.quantizer.specs.declared.Quantizer.{Quantizer}
use Rattle.refusal.specs.Number.{Says, said}
use Rattle.refusal.specs.declared.Refusal.{Refusal}
use Rattle.refusal.specs.declared.Refusal.TheVariants as refusal
use Rattle.whole.specs.Clip.{clip}
use Rattle.whole.specs.Notation.{minus}
use Rattle.whole.specs.Range.{inside}
use Rattle.quantizer.specs.Range.{highest, quantizer_test, qp_of}
use Rattle.std.specs.Prelude.{Result}

-- "30 to 51 give 29,30,31,32,32,33,34,34,35,35,36,36,37,37,37,38,38,38,39,39,39,39"
abbrev pub chroma_table : List ℕ
chroma_table = 29 ∷ 30 ∷ 31 ∷ 32 ∷ 32 ∷ 33 ∷ 34 ∷ 34 ∷ 35 ∷ 35 ∷ 36 ∷ 36 ∷ 37 ∷ 37 ∷ 37 ∷ 38 ∷ 38 ∷ 38 ∷ 39 ∷ 39 ∷ 39 ∷ 39 ∷ []

-- "below 30 it stands; 30 to 51 give" the table
abbrev pub folded_of : ℕ → ℕ
folded_of q = cond (ltb q 30) q (get_or chroma_table (q - 30) 0)

-- "QP plus an offset of -12 to 12, clipped to 0..51"
abbrev pub chroma_of : ℕ → ℤ → ℕ
chroma_of qp offset = folded_of (clip highest (pos qp +ℤ offset))

-- QUANTIZER, place 0, exactly if "QP above 51, or offset out of range"
abbrev pub chroma_tests : ℕ → ℤ → List (Test Refusal)
chroma_tests qp offset = quantizer_test 0 qp ∷ test (inside (minus 12) (pos 12) offset) (refusal.Quantizer 0) ∷ []

-- the chroma quantizer, or the refusal
pub record ChromaBuilds (qp : ℕ) (offset : ℤ) (b : Result Quantizer Refusal) : Type 0 where
  pub says : Says (said b) (chain (chroma_tests qp offset))
  pub value : qp_of b ≡ written (chain (chroma_tests qp offset)) (chroma_of qp offset) 0
