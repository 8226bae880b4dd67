-- `record::inner::record_length` meets its contract: the length of the mark's kind. Assumes nothing.
use mathlib.Core.Path.{◌∙◌, sym, ap}
use Rattle.std.proofs.Common.{arith}
use Rattle.record.specs.Kinds.{known_by}
use Rattle.record.proofs.Marks.{longest_known}
use Rattle.record.proofs.inner.record_length.Goals as goal

pub map_or-requires : goal.map_or-requires
map_or-requires c kind is =
    let h = longest_known c.args.mark kind (sym c.of_mark.ensures ∙ ap known_by is) in
    grind arith
