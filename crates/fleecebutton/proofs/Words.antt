-- From the promise of an entry point to that of its exported function.
--     says_sent, sent       where no value comes back
--     value_sent          where a value comes back, which counts on success only
--     choice_sent, head_sent     a mode and its SAD; width and height
--     mapped                     what is told of an answer whose success is mapped to a number
-- Assumes nothing.
use mathlib.Core.Path.{◌≡◌, refl, ap, ◌∙◌}
use mathlib.Core.List.{List}
use Prim.Native.Nat.{ℕ}
use Rattle.lists.specs.Chain.{Test, Verdict, pass, stop, chain, written}
use Rattle.std.specs.Prelude.{Err, IsOkAnd, MatchResult, Ok, Result}
use Rattle.refusal.specs.Number.{Says, said, value_back}
use Rattle.refusal.specs.declared.Refusal.{Refusal}
use Rattle.refusal.proofs.Same.{says_same}
use Rattle.intra4.specs.Choice.{Best, nothing}
use Rattle.fleecebutton.specs.Word.{word_of, choice_value, head_value, Sends}

-- the word is of what the tests come to
pub says_sent : (value : ℕ) {v v' : Verdict Refusal} {w : ℕ} → Says v v' → w ≡ word_of v value → w ≡ word_of v' value
says_sent value s h = h ∙ ap (λ (u : Verdict Refusal). word_of u value) (says_same s)

pub sent : {A : Type 0} (ts : List (Test Refusal)) (made before : A) {v : Verdict Refusal} {w : ℕ} {after : A}
    → Says v (chain ts)
    → after ≡ written (chain ts) made before
    → w ≡ word_of v 0
    → Sends ts 0 made before w after
sent ts made before s e h = record { word = says_sent 0 s h; wrote = e }

-- a value counts on success only
value_passed : {B : Type 0} (f : B → ℕ) (v : Verdict Refusal) (new old : B) → word_of v (f (written v new old)) ≡ word_of v (f new)
value_passed f pass new old = refl
value_passed f (stop r) new old = refl

pub value_sent : {B : Type 0} (f : B → ℕ) (v' : Verdict Refusal) (new old : B) {v : Verdict Refusal} {given : B} {w : ℕ}
    → Says v v'
    → given ≡ written v' new old
    → w ≡ word_of v (f given)
    → w ≡ word_of v' (f new)
value_sent f v' new old {v} {given} s e h = says_sent (f given) s h ∙ ap (λ b. word_of v' (f b)) e ∙ value_passed f v' new old

pub choice_sent : (v' : Verdict Refusal) (best : Best) {v : Verdict Refusal} {given : Best} {w : ℕ}
    → Says v v'
    → given ≡ written v' best nothing
    → w ≡ word_of v (choice_value given)
    → w ≡ word_of v' (choice_value best)
choice_sent v' best s e h = value_sent choice_value v' best nothing s e h

head_passed : (v : Verdict Refusal) (width height rows : ℕ)
    → word_of v (head_value (written v width 0) (written v height 0) (written v rows 0)) ≡ word_of v (head_value width height rows)
head_passed pass width height rows = refl
head_passed (stop r) width height rows = refl

pub head_sent : (v' : Verdict Refusal) (width height rows : ℕ) {v : Verdict Refusal} {x y z w : ℕ}
    → Says v v'
    → x ≡ written v' width 0
    → y ≡ written v' height 0
    → z ≡ written v' rows 0
    → w ≡ word_of v (head_value x y z)
    → w ≡ word_of v' (head_value width height rows)
head_sent v' width height rows {v} {x} {y} {z} s e g f h =
    says_sent (head_value x y z) s h ∙ (λ i. word_of v' (head_value (e i) (g i) (f i))) ∙ head_passed v' width height rows

-- the word tells of a mapped answer what is read of the answer itself: `read` finds 0 in a refusal
pub record Mapped {T : Type 0} (read : Result T Refusal → ℕ) (r : Result T Refusal) (s : Result ℕ Refusal) : Type 0 where
  pub tells : value_back s ≡ read r
  pub says : said s ≡ said r

pub mapped : {T : Type 0} {post : T → ℕ → Type 0} (read : Result T Refusal → ℕ) (r : Result T Refusal) (s : Result ℕ Refusal)
    → MatchResult r (λ x. IsOkAnd s (post x)) (λ e. s ≡ Err e)
    → ((x : T) (n : ℕ) → post x n → n ≡ read (Ok x))
    → ((e : Refusal) → 0 ≡ read (Err e))
    → Mapped read r s
mapped read (Ok x) (Ok n) p made none = record { tells = made x n p; says = refl }
mapped read (Ok x) (Err e) p made none = absurd p
mapped read (Err e) s p made none = rw p (record { tells = none e; says = refl })

-- the word of the mapped answer
pub word_mapped : {T : Type 0} {read : Result T Refusal → ℕ} {r : Result T Refusal} {s : Result ℕ Refusal} {w : ℕ}
    → Mapped read r s
    → w ≡ word_of (said s) (value_back s)
    → w ≡ word_of (said r) (read r)
word_mapped m h = h ∙ (λ i. word_of (m.says i) (m.tells i))
