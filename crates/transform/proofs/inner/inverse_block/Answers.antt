-- `transform::inner::inverse_block` meets its contract: each row written over, then each column, then each number.
-- Assumes nothing.
use borrow.Author.Rules.{rules}
use mathlib.Core.Path.{◌≡◌, ap, ◌∙◌}
use mathlib.Core.List.{List}
use Prim.Native.Nat.{ℕ, ◌*◌, ◌≤◌}
use native.Mathlib.Omega.{arith}
use lib.IntN.{ℤ}
use lib.ListN.{length}
use Rattle.lists.specs.Tab.{tab}
use Rattle.lists.proofs.Stores.{Apart, striding_more}
use Rattle.whole.specs.Bounds.{Each}
use Rattle.whole.proofs.Lists.{each_less}
use Rattle.transform.specs.Quads.{by_row, line, wide}
use Rattle.transform.specs.Inverse.{back, rounded}
use Rattle.transform.specs.Matrix.{each_column, raster, entries}
use Rattle.transform.proofs.Lines.{ByRows, ByColumns, rows_done, columns_done, rows_columns, columns_each, line_within}
use Rattle.transform.proofs.Rows.{back_local, back_grows}
use Rattle.transform.proofs.Sides.{kept, rounded_inverse}
use Rattle.transform.proofs.Squares.{by_row_each}
use Rattle.transform.proofs.inner.inverse_block.Goals as goal

-- ---- no two rows share a place, and no two columns

rows_apart : Apart 4 4 (λ k. 4 * k) 1
rows_apart k i j l a b c d e = (omega arith, omega arith)

columns_apart : Apart 4 4 (λ k. k) 4
columns_apart k i j l a b c d e = (omega arith, omega arith)

-- ---- what the array holds: after the rows, after the columns

module _ {d x : List ℤ} {row : ℕ} (each : Each 32768 d) (long : length d ≡ 16) (done : ByRows 4 back d x row) (last : 4 ≤ row) where
  by_rows : x ≡ by_row 4 back d
  by_rows = rows_done 4 back _ _ _ last long done

  rows_long : length x ≡ 16
  rows_long = done.long ∙ long

  rows_within : Each 131072 x
  rows_within = kept 131072 by_rows (by_row_each 4 back 32768 131072 (back_grows 32768 131072 tt tt) _ each)

module _ {x y : List ℤ} {column : ℕ} (each : Each 131072 x) (long : length x ≡ 16) (done : ByColumns 4 back x y column) (last : 4 ≤ column) where
  by_columns : y ≡ entries 4 (each_column back (raster 4 x))
  by_columns = columns_done 4 back _ _ _ last long done

  columns_long : length y ≡ 16
  columns_long = done.long ∙ long

  columns_wide : Each wide y
  columns_wide =
      each_less 524288 wide y (kept 524288 by_columns (columns_each 4 back 131072 524288 (back_grows 131072 524288 tt tt) x each)) tt

-- ---- the goals

pub inverse_line-requires : goal.inverse_line-requires
inverse_line-requires c =
    let i = c.loop-row.invariant in
    let long : length c.args.d ≡ 16 = search rules in
    (i.long ∙ long, omega arith, line_within 4 (λ k. 4 * k) 1 back wide (each_less 32768 wide c.args.d c.requires tt) i (search rules))

pub loop-row-preserved : goal.loop-row-preserved
loop-row-preserved c =
    let long : length c.args.d ≡ 16 = search rules in
    striding_more _ _ _ _ _ _ rows_apart back_local c.loop-row.invariant (search rules) (λ j l. omega arith) c.inverse_line.ensures

pub inverse_line-requires-in-loop-column : goal.inverse_line-requires-in-loop-column
inverse_line-requires-in-loop-column c =
    let i = c.loop-column.invariant in
    let d : length c.args.d ≡ 16 = search rules in
    let last : 4 ≤ c.loop-row.row = omega arith in
    let each = rows_within c.requires d c.loop-row.invariant last in
    (i.long ∙ rows_long c.requires d c.loop-row.invariant last, omega arith, line_within 4 (λ k. k) 4 back wide (each_less 131072 wide c.loop-row.x each tt) i (search rules))

pub loop-column-preserved : goal.loop-column-preserved
loop-column-preserved c =
    let d : length c.args.d ≡ 16 = search rules in
    let last : 4 ≤ c.loop-row.row = omega arith in
    let long = rows_long c.requires d c.loop-row.invariant last in
    striding_more _ _ _ _ _ _ columns_apart back_local c.loop-column.invariant (search rules) (λ j l. omega (arith, long)) c.inverse_line-in-loop-column.ensures

pub round_all-requires : goal.round_all-requires
round_all-requires c =
    let d : length c.args.d ≡ 16 = search rules in
    let last : 4 ≤ c.loop-row.row = omega arith in
    columns_wide (rows_within c.requires d c.loop-row.invariant last) (rows_long c.requires d c.loop-row.invariant last) c.loop-column.invariant (omega arith)

pub returns : goal.returns
returns c =
    let d : length c.args.d ≡ 16 = search rules in
    let last : 4 ≤ c.loop-row.row = omega arith in
    let end : 4 ≤ c.loop-column.column = omega arith in
    let each = rows_within c.requires d c.loop-row.invariant last in
    let long = rows_long c.requires d c.loop-row.invariant last in
    rounded_inverse c.args.d
    (c.round_all.ensures ∙ ap (λ (n : ℕ). tab n (λ place. rounded (line c.loop-column.x place))) (columns_long each long c.loop-column.invariant end))
    (by_columns each long c.loop-column.invariant end ∙ ap (λ (l : List ℤ). entries 4 (each_column back (raster 4 l))) (by_rows c.requires d c.loop-row.invariant last) ∙ rows_columns 4 back back_local c.args.d)
