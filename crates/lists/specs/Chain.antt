-- "Tests run in the table's order" (01, "What is sent back, and in which order it is tested"). Assumes nothing.
use Rattle.std.specs.Prelude.{◌≡◌, Bool, true, false, cond, List, [], ◌∷◌, ◌⊎◌, ◌↔◌, ℕ, eqb}

-- a test, and what is sent back where it fails
pub record Test (R : Type 0) : Type 0 where
  pub passes : Bool
  pub refusal : R

abbrev pub test : {R : Type 0} → Bool → R → Test R
test passes refusal = record { passes = passes; refusal = refusal }

-- "first index": the test of a scan over n passes if the first offence found is the end; else what is sent back names its place
abbrev pub scan_test : {R : Type 0} → (n found : ℕ) → (ℕ → R) → Test R
scan_test n found refusalAt = test (eqb found n) (refusalAt found)

-- what a chain of tests comes to
pub data Verdict (R : Type 0) : Type 0 where
  pass : Verdict R
  stop : R → Verdict R

-- the tests in their order: the first that fails decides
abbrev pub chain : {R : Type 0} → List (Test R) → Verdict R
chain [] = pass
chain (t ∷ ts) = cond t.passes (chain ts) (stop t.refusal)

-- what an output holds at exit: the new content if all tests pass, else what it held
abbrev pub written : {R A : Type 0} → Verdict R → A → A → A
written pass new old = new
written (stop r) new old = old

-- ---- the words of "refused exactly if"

-- every test passes
abbrev pub AllPass : {R : Type 0} → List (Test R) → Type 0
AllPass [] = Unit {0}
AllPass (t ∷ ts) = (t.passes ≡ true) × AllPass ts

-- some test fails, all before it pass, and r is its refusal
abbrev pub RefusedWith : {R : Type 0} → List (Test R) → R → Type 0
RefusedWith [] r = ⊥
RefusedWith (t ∷ ts) r = ((t.passes ≡ false) × (r ≡ t.refusal)) ⊎ ((t.passes ≡ true) × RefusedWith ts r)

-- a verdict is what the tests come to: pass exactly if all pass, a refusal exactly if its test fails and all before it pass
pub record ExactlyIf {R : Type 0} (ts : List (Test R)) (v : Verdict R) : Type 0 where
  pub passes : (v ≡ pass) ↔ AllPass ts
  pub refuses : (r : R) → (v ≡ stop r) ↔ RefusedWith ts r
