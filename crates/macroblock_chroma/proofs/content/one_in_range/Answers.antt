-- `macroblock_chroma::content::one_in_range` meets its contract: the DC values, then the AC. Assumes nothing.
use mathlib.Core.Path.{sym, ◌∙◌}
use mathlib.Core.Bool.{not}
use mathlib.Core.List.{List}
use Prim.Native.Nat.{ℕ, ◌≤◌}
use lib.IntN.{ℤ}
use Rattle.lists.proofs.First.{first_le, found_ends}
use Rattle.residual_whole.specs.Rebuilt.{ac_fits, first_ac}
use Rattle.macroblock_chroma.specs.Fine.{in_range}
use Rattle.macroblock_chroma.proofs.content.one_in_range.Goals as goal

ac_le : (qp : ℕ) (levels : List ℤ) → first_ac 8 qp levels ≤ 4
unfolding first_ac
ac_le qp levels = first_le (λ b. not (ac_fits 8 qp levels b)) 4

pub returns-then-dc_fits : goal.returns-then-dc_fits
unfolding in_range
returns-then-dc_fits c =
    let e = sym c.dc_fits.ensures ∙ c.if-dc_fits.true in
    rw e (found_ends 4 (first_ac 8 c.args.quantizer.qp c.args.levels.now) (ac_le c.args.quantizer.qp c.args.levels.now) c.first_ac.ensures c.is_none.ensures)
