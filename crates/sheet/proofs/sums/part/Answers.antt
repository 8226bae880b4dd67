-- `sheet::sums::part` meets its contract: an absent macroblock is left out. Assumes nothing.
use native.Mathlib.Omega.{arith}
use Rattle.sheet.proofs.Places.{macroblock_lies}
use Rattle.sheet.proofs.sums.part.Goals as goal

pub macroblock-requires : goal.macroblock-requires
macroblock-requires c =
    (omega (arith, c.requires.0.sound.wide), rw c.first_place.ensures (macroblock_lies c.requires.0 c.requires.1))
