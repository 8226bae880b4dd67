-- The laws that each theorem of demand 1 is an instance of: over any tests.
--     answers     a word made of the tests answers as the table says
--     valued      the word of a success is 256 times its value
--     kept        an output that is written by the tests keeps its content where they refuse
--     made        and holds what is made where they pass
--     sent        so of a function with one output
--     sent_made, sent_gives     its output where it succeeds, and its word
--     same_word   two successes with one value have one word
-- Assumes nothing.
use mathlib.Core.Path.{◌≡◌, refl, sym, ap, subst, ◌∙◌}
use mathlib.Core.List.{List}
use Prim.Native.Nat.{ℕ, ◌*◌, ◌/◌, ◌%◌}
use native.Mathlib.Omega.{arith}
use Rattle.lists.specs.Chain.{Test, Verdict, pass, stop, chain, written, RefusedWith}
use Rattle.lists.proofs.Chain.{chain_exactly_if, holds_new}
use Rattle.refusal.specs.declared.Refusal.{Refusal}
use Rattle.fleecebutton.specs.Word.{word_of, Sends}
use Rattle.fleecebutton.proofs.Told.{done_exactly_if, number_told, place_told, word_refused, passed_word}
use Rattle.stamp.specs.Answers.{Succeeds, value_told, Tells, Answers, KeepsIfRefused}

module _ (ts : List (Test Refusal)) (value : ℕ) where
  tells : (r : Refusal) → RefusedWith ts r → Tells (word_of (chain ts) value) r
  tells r h =
      let v = ((chain_exactly_if ts).refuses r).1 h in
      record {
        number = ap (λ (v : Verdict Refusal). word_of v value % 256) v ∙ number_told (stop r) value;
        place = ap (λ (v : Verdict Refusal). word_of v value / 256) v ∙ place_told r value;
      }

  pub answers : {w : ℕ} → w ≡ word_of (chain ts) value → Answers ts w
  answers e =
      subst (λ (w : ℕ). Answers ts w) (sym e)
      (record {
        done = done_exactly_if ts value;
        refused = tells;
        otherwise = λ bad.
            let b = word_refused ts value bad in
            (b.refusal, b.is, record { number = b.number; place = b.place });
      })

  pub valued : {w : ℕ} → w ≡ word_of (chain ts) value → Succeeds w → w ≡ 256 * value
  valued e d = e ∙ ap (λ (v : Verdict Refusal). word_of v value) (passed_word ts value e d)

  pub made : {A : Type 0} {w : ℕ} {after : A} (new before : A) → w ≡ word_of (chain ts) value → after ≡ written (chain ts) new before → Succeeds w → after ≡ new
  made new before e wrote d = holds_new before (passed_word ts value e d) wrote

  pub kept : {A : Type 0} {w : ℕ} {before after : A} (made : A) → w ≡ word_of (chain ts) value → after ≡ written (chain ts) made before → KeepsIfRefused w before after
  kept {A} {w} {before} made e wrote bad = wrote ∙ by (chain ts) refl
    where
      by : (v : Verdict Refusal) → chain ts ≡ v → written v made before ≡ before
      by pass p = absurd (bad (ap (λ (u : ℕ). u % 256) (e ∙ ap (λ (v : Verdict Refusal). word_of v value) p) ∙ number_told pass value))
      by (stop r) p = refl

pub sent : {A : Type 0} {ts : List (Test Refusal)} {value : ℕ} {made before : A} {w : ℕ} {after : A} → Sends ts value made before w after → Answers ts w × KeepsIfRefused w before after
sent {A} {ts} {value} {made} s = (answers ts value s.word, kept ts value made s.word s.wrote)

module _ {A : Type 0} {ts : List (Test Refusal)} {value : ℕ} {made before : A} {w : ℕ} {after : A} (s : Sends ts value made before w after) (d : Succeeds w) where
  pub sent_made : after ≡ made
  sent_made = holds_new before (passed_word ts value s.word d) s.wrote

pub sent_gives : {A : Type 0} {ts : List (Test Refusal)} {value : ℕ} {new before : A} {w : ℕ} {after : A} → Sends ts value new before w after → Succeeds w → (w ≡ 256 * value) × (after ≡ new)
sent_gives {A} {ts} {value} s d = (valued ts value s.word d, sent_made s d)

pub same_word : {w w' : ℕ} → Succeeds w → Succeeds w' → value_told w ≡ value_told w' → w ≡ w'
same_word d d' e = omega (arith, d, d', e)
