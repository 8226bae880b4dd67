-- "exchanging rows and columns" (02, Req 12) of a block. Assumes nothing.
use Rattle.std.specs.Prelude.{List, ℕ, ℤ, pos}
use Rattle.lists.specs.Tab.{turned}

-- of its sixteen residuals, coefficients or levels,
abbrev pub turned_block : List ℤ → List ℤ
turned_block l = turned (pos 0) 4 l

-- and of its sixteen samples
abbrev pub turned_samples : List ℕ → List ℕ
turned_samples l = turned 0 4 l
