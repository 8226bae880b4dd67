-- `transform::inner::inverse_line` meets its contract: four reads, the inverse's code, reflected, and four stores.
-- Assumes nothing.
use mathlib.Core.List.{List, [], ◌∷◌}
use mathlib.Core.Path.{◌≡◌, sym, ap, subst, ◌∙◌}
use Prim.Native.Nat.{ℕ, ◌+◌, ◌*◌, ◌<◌}
use native.Mathlib.Omega.{arith}
use lib.Dec.{T}
use lib.IntN.{ℤ, pos}
use lib.ListN.{get_or}
use mir.Syntax.{w32}
use mir.Val.{SFits}
use Rattle.lists.specs.Stores.{stores}
use Rattle.whole.specs.Bounds.{Within, Each}
use Rattle.whole.proofs.Steps.{Code, add, sub, safe, raw, ok}
use Rattle.whole.proofs.Lists.{gather, ideals, reads, raws_of, exacts}
use Rattle.transform.specs.Quads.{wide}
use Rattle.transform.specs.Inverse.{back}
use Rattle.transform.proofs.Rows.{even_sum, even_difference, odd_difference, odd_sum, inverse_line}
use Rattle.transform.proofs.inner.inverse_line.Goals as goal

-- the four places as the code adds them up
abbrev places : (at step : ℕ) → List ℕ
places at step = at ∷ (at + step) ∷ (at + step + step) ∷ (at + step + step + step) ∷ []

-- the numbers of v stored there, the first n
abbrev stored_at : ℕ → List ℕ → List ℤ → List ℤ → List ℤ
stored_at n is v x = stores n (λ j. get_or is j 0) (λ j. get_or v j (pos 0)) x

module _ (at step : ℕ) (x : List ℤ) where
  places_same : places at step ≡ (at + step * 0) ∷ (at + step * 1) ∷ (at + step * 2) ∷ (at + step * 3) ∷ []
  places_same = λ t. first t ∷ second t ∷ third t ∷ last t ∷ []
    where
      first : at ≡ at + step * 0
      first = omega arith

      second : at + step ≡ at + step * 1
      second = omega arith

      third : at + step + step ≡ at + step * 2
      third = omega arith

      last : at + step + step + step ≡ at + step * 3
      last = omega arith

  read_within : ((j : ℕ) → j < 4 → Within wide (get_or x (at + step * j) (pos 0))) → Each wide (gather (places at step) x)
  read_within h =
      subst (λ (is : List ℕ). Each wide (gather is x)) (sym places_same) (h 0 (omega arith), (h 1 (omega arith), (h 2 (omega arith), (h 3 (omega arith), tt))))

  stored_back : stored_at 4 (places at step) (ideals (gather (places at step) x) inverse_line) x ≡ stores 4 (λ j. at + step * j) (back (λ j. get_or x (at + step * j) (pos 0))) x
  unfolding stores
  stored_back = ap (λ (is : List ℕ). stored_at 4 is (ideals (gather is x) inverse_line) x) places_same

module _ (x : List ℤ) (at step : ℕ) (small : (j : ℕ) → j < 4 → Within wide (get_or x (at + step * j) (pos 0))) where
  -- the numbers that are read
  abbrev old : List ℤ
  old = gather (places at step) x

  each : Each wide old
  each = read_within at step x small

  fit : (z : Code) → T (ok w32 wide z) → SFits w32 (raw w32 old z)
  fit z t = safe w32 wide old each z t

  -- and those that are stored
  stored : stored_at 4 (places at step) (reads w32 (raws_of w32 old inverse_line)) x ≡ stores 4 (λ j. at + step * j) (back (λ j. get_or x (at + step * j) (pos 0))) x
  stored = ap (λ (v : List ℤ). stored_at 4 (places at step) v x) (exacts w32 wide old each inverse_line tt) ∙ stored_back at step x

pub overflow_add-e : goal.overflow_add-e
overflow_add-e c = fit c.args.x.now c.args.at c.args.step c.requires.2 even_sum tt

pub overflow_sub-g : goal.overflow_sub-g
overflow_sub-g c = fit c.args.x.now c.args.at c.args.step c.requires.2 even_difference tt

pub overflow_add-m : goal.overflow_add-m
overflow_add-m c = fit c.args.x.now c.args.at c.args.step c.requires.2 odd_sum tt

pub overflow_add-x : goal.overflow_add-x
overflow_add-x c = fit c.args.x.now c.args.at c.args.step c.requires.2 (add even_sum odd_sum) tt

pub overflow_add-x-2 : goal.overflow_add-x-2
overflow_add-x-2 c = fit c.args.x.now c.args.at c.args.step c.requires.2 (add even_difference odd_difference) tt

pub overflow_sub-x : goal.overflow_sub-x
overflow_sub-x c = fit c.args.x.now c.args.at c.args.step c.requires.2 (sub even_difference odd_difference) tt

pub overflow_sub-x-2 : goal.overflow_sub-x-2
overflow_sub-x-2 c = fit c.args.x.now c.args.at c.args.step c.requires.2 (sub even_sum odd_sum) tt

pub returns : goal.returns
unfolding stores
returns c = stored c.args.x.now c.args.at c.args.step c.requires.2
