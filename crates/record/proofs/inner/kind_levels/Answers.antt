use mathlib.Core.Path.{◌∙◌, refl}
use native.Mathlib.Omega.{arith}
use mir.Syntax.{w32}
use mir.ValLaws.{to_z-of_z}
use Rattle.lists.proofs.Tab.{filling_none, filling_more, filling_done}
use Rattle.record.specs.Records.{all_levels_in}
use Rattle.record.proofs.inner.kind_levels.Goals as goal

pub loop-i-init : goal.loop-i-init
loop-i-init c = filling_none _ _ refl

pub loop-i-preserved : goal.loop-i-preserved
loop-i-preserved c = filling_more _ _ c.loop-i.invariant (omega arith) (to_z-of_z w32 _ (record { sfits = c.level_at.type_inv }) ∙ c.level_at.ensures)

pub returns : goal.returns
unfolding all_levels_in
returns c = rw (← c.requires.1) (filling_done _ _ c.loop-i.invariant (omega arith))
