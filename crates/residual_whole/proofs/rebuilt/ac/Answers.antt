-- `residual_whole::rebuilt::ac` meets its contract: place 0 is 0, and each other is read by the table of steps. Assumes nothing.
use borrow.Author.Rules.{rules}
use mathlib.Core.Path.{◌≡◌, sym, ap, ◌∙◌}
use mathlib.Core.List.{List, ◌∷◌}
use mathlib.Core.Logic.{⊎_elim}
use Prim.Native.Nat.{ℕ, ◌+◌, ◌-◌, ◌*◌, ◌/◌, ◌<◌, zero-le}
use native.Mathlib.Nat.{eq-or-lt_of_le}
use lib.IntN.{ℤ, pos}
use lib.ListN.{get_or}
use Rattle.lists.proofs.Made.{made_tab}
use Rattle.quantizer.specs.Tables.{step_of}
use Rattle.quantizer.proofs.Tables.{zigzag_permutes}
use Rattle.residual.specs.Order.{in_places}
use Rattle.residual_whole.specs.Rebuilt.{ac_in}
use Rattle.residual_whole.proofs.Blocks.{square}
use Rattle.residual_whole.proofs.Samples.{ac_step, step_some}
use Rattle.residual_whole.proofs.rebuilt.ac.Goals as goal
use Rattle.residual_whole.proofs.rebuilt.ac.Goals.{After-steps-steps}

-- the level of a raster place
abbrev level_in : ℕ → List ℤ → ℕ → ℕ → ℤ
level_in s levels b place = get_or (pos 0 ∷ ac_in s levels b) (step_of place) (pos 0)

-- behind place 0: the step of a place, as it is read from the table, which is below 16
read : (c : After-steps-steps) (k : ℕ) → k < 16 → 0 < k
    → get_or c.args.levels.now (c.args.s * c.args.s / 16 + 15 * c.args.b - 1 + get_or c.steps-steps.result k 0) (pos 0) ≡ level_in c.args.s c.args.levels.now c.args.b k
read c k h l =
    let a = c.args in
    let e : get_or c.steps-steps.result k 0 ≡ step_of k = ap (λ (t : List ℕ). get_or t k 0) c.steps-steps.ensures in
    let below : get_or c.steps-steps.result k 0 < 16 = rw e (zigzag_permutes k h).step in
    ac_step a.s (square a.s c.requires.0).many a.levels.now a.b (get_or c.steps-steps.result k 0) (rw e (step_some k l h)) below
    ∙ ap (λ (j : ℕ). get_or (pos 0 ∷ ac_in a.s a.levels.now a.b) j (pos 0)) e

pub returns : goal.returns
unfolding in_places
returns c =
    let a = c.args in
    let steps = goal.at.returns c in
    made_tab _ _ _ 16 (level_in a.s a.levels.now a.b)
    (λ k y q h p.
    let first : k ≡ 0 → y ≡ pos 0 = λ e. search rules in
    let further : 0 < k → y ≡ get_or a.levels.now (a.s * a.s / 16 + 15 * a.b - 1 + get_or c.steps-steps.result k 0) (pos 0) = λ l. search rules in (
      search rules,
      ⊎_elim (λ (z : 0 ≡ k). first (sym z) ∙ ap (level_in a.s a.levels.now a.b) z) (λ (l : 0 < k). further l ∙ read steps.After-steps-steps k h l) (eq-or-lt_of_le zero-le),
    )) c.from_fn.ensures.items
