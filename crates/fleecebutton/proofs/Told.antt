-- What a word tells a caller.
--     number_told     the low byte is the number of the paper's table, 0 on success
--     place_told      above it a refusal has its place, up to 2^56
--     value_told_law      above it a success has its value
--     done_exactly_if, refused_word     the low byte is 0 exactly if all tests pass; the word of the first test that fails
--     RefusedBy, word_refused           and back: a word whose low byte is not 0 has number and place of the first test that fails
--     passed_word, done_word            a word whose low byte is 0: the tests passed; and back
--     seven_unsent                      no word has the number 7
-- Assumes nothing.
use mathlib.Core.Path.{◌≡◌, refl, sym, ap, ◌∙◌}
use mathlib.Core.List.{List}
use mathlib.Core.Logic.{◌↔◌}
use Prim.Native.Nat.{ℕ, ◌+◌, ◌*◌, ◌/◌, ◌%◌, ◌<◌}
use native.Mathlib.Omega.{arith}
use Rattle.lists.specs.Chain.{Test, Verdict, pass, stop, chain, AllPass, RefusedWith}
use Rattle.lists.proofs.Chain.{chain_exactly_if}
use Rattle.refusal.specs.Number.{number, number_of, place_of}
use Rattle.refusal.specs.declared.Refusal.{Refusal}
use Rattle.refusal.specs.declared.Refusal.TheVariants.{Length, Size, Flags, Quantizer, Mode, Residual, Level, Range, Form, Mark, Number, Sum, Differs}
use Rattle.refusal.proofs.Same.{seven_unused}
use Rattle.fleecebutton.specs.Word.{places, word_of}

-- a refusal's number is a byte, and not that of success
number_small : (r : Refusal) → (number_of r < 256) × (0 < number_of r)
number_small Length = (omega arith, omega arith)
number_small Size = (omega arith, omega arith)
number_small (Flags k) = (omega arith, omega arith)
number_small (Quantizer k) = (omega arith, omega arith)
number_small (Mode k) = (omega arith, omega arith)
number_small (Residual k) = (omega arith, omega arith)
number_small (Level k) = (omega arith, omega arith)
number_small (Range k) = (omega arith, omega arith)
number_small (Form k) = (omega arith, omega arith)
number_small (Mark k) = (omega arith, omega arith)
number_small (Number k) = (omega arith, omega arith)
number_small (Sum k) = (omega arith, omega arith)
number_small (Differs k) = (omega arith, omega arith)

pub number_told : (v : Verdict Refusal) (value : ℕ) → word_of v value % 256 ≡ number v
number_told pass value = omega arith
number_told (stop r) value = omega (arith, (number_small r).0)

pub place_told : (r : Refusal) (value : ℕ) → word_of (stop r) value / 256 ≡ place_of r % places
place_told r value = omega (arith, (number_small r).0)

pub value_told_law : (value : ℕ) → word_of pass value / 256 ≡ value
value_told_law value = omega arith

-- a word whose low byte is 0 is that of a success
done : (v : Verdict Refusal) (value : ℕ) → word_of v value % 256 ≡ 0 → v ≡ pass
done pass value e = refl
done (stop r) value e = absurd (omega (arith, number_told (stop r) value, (number_small r).1))

pub done_exactly_if : (ts : List (Test Refusal)) (value : ℕ) → (word_of (chain ts) value % 256 ≡ 0) ↔ AllPass ts
done_exactly_if ts value = (
  λ e. (chain_exactly_if ts).passes.0 (done (chain ts) value e),
  λ h. ap (λ (v : Verdict Refusal). word_of v value % 256) ((chain_exactly_if ts).passes.1 h) ∙ number_told pass value,
)

pub refused_word : (ts : List (Test Refusal)) (value : ℕ) (r : Refusal) → RefusedWith ts r → word_of (chain ts) value ≡ number_of r + 256 * (place_of r % places)
refused_word ts value r h = ap (λ (v : Verdict Refusal). word_of v value) (((chain_exactly_if ts).refuses r).1 h)

-- and back: a word whose low byte is not 0 tells of the first test that fails
pub record RefusedBy (ts : List (Test Refusal)) (w : ℕ) : Type 0 where
  pub refusal : Refusal
  pub is : RefusedWith ts refusal
  pub number : w % 256 ≡ number_of refusal
  pub place : w / 256 ≡ place_of refusal % places

pub word_refused : (ts : List (Test Refusal)) (value : ℕ) → (word_of (chain ts) value % 256 ≡ 0 → ⊥) → RefusedBy ts (word_of (chain ts) value)
word_refused ts value bad = by (chain ts) refl
  where
    by : (v : Verdict Refusal) → chain ts ≡ v → RefusedBy ts (word_of (chain ts) value)
    by pass e = absurd (bad (ap (λ (v : Verdict Refusal). word_of v value % 256) e ∙ number_told pass value))
    by (stop r) e = record {
      refusal = r;
      is = ((chain_exactly_if ts).refuses r).0 e;
      number = ap (λ (v : Verdict Refusal). word_of v value % 256) e ∙ number_told (stop r) value;
      place = ap (λ (v : Verdict Refusal). word_of v value / 256) e ∙ place_told r value;
    }

pub passed_word : (ts : List (Test Refusal)) (value : ℕ) {w : ℕ} → w ≡ word_of (chain ts) value → w % 256 ≡ 0 → chain ts ≡ pass
passed_word ts value is d = done (chain ts) value (ap (λ (u : ℕ). u % 256) (sym is) ∙ d)

pub done_word : (ts : List (Test Refusal)) (value : ℕ) {w : ℕ} → w ≡ word_of (chain ts) value → chain ts ≡ pass → w % 256 ≡ 0
done_word ts value e v = ap (λ (u : ℕ). u % 256) e ∙ (done_exactly_if ts value).1 ((chain_exactly_if ts).passes.0 v)

-- 7 is retired: no exported function sends it
pub seven_unsent : (v : Verdict Refusal) (value : ℕ) → word_of v value % 256 ≡ 7 → ⊥
seven_unsent v value e = seven_unused v (sym (number_told v value) ∙ e)
