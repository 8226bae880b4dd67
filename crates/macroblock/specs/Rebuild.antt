-- A macroblock rebuilt by its record, of either kind (01, "Plane and record file"; 02, Req 01). Assumes nothing.
use Rattle.std.specs.Prelude.{cond, List, ℕ}
use Rattle.record.specs.Records.{is_whole}
use Rattle.picture.specs.declared.Layout.{Layout}
use Rattle.macroblock4.specs.Rebuild.{rebuilt_step4}
use Rattle.macroblock16.specs.Rebuild.{rebuilt_step16}

-- the step of macroblock m by its record
unfoldable pub rebuilt_step : Layout → (m : ℕ) → (part : List ℕ) → (plane : List ℕ) → List ℕ
rebuilt_step l m part plane = cond (is_whole part) (rebuilt_step16 l m part plane) (rebuilt_step4 l m part plane)
