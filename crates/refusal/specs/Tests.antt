-- The tests of the table that functions of several crates share (01, "What is sent back, and in which order it is tested"). Assumes nothing.
use Rattle.std.specs.Prelude.{ℕ, eqb, leb}
use Rattle.lists.specs.Chain.{Test, test}
use Rattle.refusal.specs.declared.Refusal.{Refusal}
use Rattle.refusal.specs.declared.Refusal.TheVariants.{Length, Flags}

-- LENGTH: "a lent slice hasn't the stated length"
abbrev pub length_test : (stated long : ℕ) → Test Refusal
length_test stated long = test (eqb long stated) Length

-- FLAGS: "flags byte above 15"
abbrev pub flags_test : ℕ → Test Refusal
flags_test flags = test (leb flags 15) (Flags 0)
