-- `macroblock_chroma::code::code_one` meets its contract: read, coded, stored. Assumes nothing.
use mathlib.Core.Path.{◌≡◌, sym, ap, subst, ◌∙◌}
use mathlib.Core.List.{List}
use Prim.Native.Nat.{ℕ}
use Rattle.lists.proofs.Bytes.{bytes_known}
use Rattle.whole.proofs.Lists.{each_less}
use Rattle.residual_whole.specs.Coded.{whole_levels}
use Rattle.picture.specs.Plane.{stride}
use Rattle.picture.specs.Whole.{whole_column, whole_row, whole_of}
use Rattle.picture.proofs.Bytes.{block_bytes}
use Rattle.macroblock_chroma.proofs.CodedRecord.{ReadyChroma, ready_chroma}
use Rattle.macroblock_chroma.proofs.code.code_one.Goals as goal

pub store_one-requires-clause-each : goal.store_one-requires-clause-each
store_one-requires-clause-each c =
    let a = c.args in
    let is : c.levels.new.levels ≡ whole_levels 8 a.quantizer.qp (whole_of 8 a.layout a.m a.original.now) a.prediction.now =
    c.levels.ensures ∙ ap (λ (s : List ℕ). whole_levels 8 a.quantizer.qp s a.prediction.now) c.read_whole.ensures in
    -- they can be stored, as both planes hold bytes
    let ready : ReadyChroma a.quantizer.qp c.levels.new.levels =
    subst (ReadyChroma a.quantizer.qp) (sym is)
    (ready_chroma a.quantizer.qp c.requires.among.1 (whole_of 8 a.layout a.m a.original.now) a.prediction.now
    (block_bytes 8 (stride 8 a.layout) (whole_column 8 a.layout a.m) (whole_row 8 a.layout a.m) a.original.now (bytes_known a.original.now c.type_inv.original))
    (bytes_known a.prediction.now c.type_inv.prediction)) in
    (each_less 6528 32768 c.levels.new.levels ready.small tt, ready.range)
