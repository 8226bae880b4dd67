-- `transform::inner::hadamard4` meets its contract: each row through H, which is symmetric, then each column. Assumes nothing.
use mathlib.Core.Path.{sym, ◌∙◌}
use Rattle.transform.specs.Hadamard.{H4}
use Rattle.transform.specs.Quads.{through}
use Rattle.transform.proofs.Rows.{four_rows}
use Rattle.transform.proofs.Sides.{rows_fit, columns_fit, both_ways, hadamard_around, H4_symmetric}
use Rattle.transform.proofs.inner.hadamard4.Goals as goal

pub each_row-rows-requires : goal.each_row-rows-requires
each_row-rows-requires c = rows_fit H4 tt c.args.w c.requires _ c.in_rows.ensures

pub each_row-requires : goal.each_row-requires
each_row-requires c =
    let e = c.each_row-rows.ensures in
    let rows = four_rows (through 4 H4) c.in_rows.result c.each_row-rows.result e.0.1 e.1.1 e.2.1 e.3.1 in
    columns_fit H4 tt c.args.w c.requires _ c.in_rows.ensures _ rows _ c.turned.ensures.held

pub returns : goal.returns
returns c =
    let e = c.each_row-rows.ensures in
    let rows = four_rows (through 4 H4) c.in_rows.result c.each_row-rows.result e.0.1 e.1.1 e.2.1 e.3.1 in
    let f = c.each_row.ensures in
    let columns = four_rows (through 4 H4) c.turned.result c.each_row.result f.0.1 f.1.1 f.2.1 f.3.1 in
    c.in_raster.ensures ∙ both_ways H4 tt c.args.w c.requires _ c.in_rows.ensures _ rows _ c.turned.ensures.held _ _ columns c.turned-2.ensures.held
    ∙ sym (hadamard_around 4 H4 H4_symmetric c.args.w)
