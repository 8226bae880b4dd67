-- Inputs at which a faulty definition would answer otherwise: what the must-fail edits of specs/ run into. Assumes nothing.
use mathlib.Core.Path.{◌≡◌, refl}
use lib.ListN.{replicate}
use Rattle.lists.specs.Chain.{chain}
use Rattle.lists.specs.Tab.{tab, grid}
use Rattle.lists.specs.Total.{total}
use Rattle.refusal.specs.Number.{number}
use Rattle.intra4.specs.Samples.{bit_of, mask}
use Rattle.intra4.specs.Rules.{samples, none, predicted, permitted}
use Rattle.intra4.specs.Entry.{predict_tests, choose_tests}

-- flags 16 and mode 9 are both bad: FLAGS, which is tested first, is sent back
pub flags_before_mode : number (chain (predict_tests (replicate 13 0) 16 9 (replicate 16 0))) ≡ 10
unfolding permitted
flags_before_mode = refl

-- a short slice and bad flags: LENGTH, which is tested first, is sent back
pub length_before_flags : number (chain (choose_tests (replicate 12 0) 16 (replicate 16 0) (replicate 16 0))) ≡ 1
length_before_flags = refl

-- nothing is present: DC is 128, whatever was lent, and every other mode is missing
pub nothing_is_128 : predicted (mask (replicate 13 0) 0) 2 ≡ samples (replicate 16 128)
unfolding predicted bit_of grid tab
nothing_is_128 = refl

-- I to L are missing: a mode that needs them has no prediction
pub no_left_no_horizontal : predicted (mask (replicate 13 77) 1) 1 ≡ none
unfolding predicted bit_of
no_left_no_horizontal = refl

-- A-D and I-L are present and M is missing: the modes that need M have no prediction
pub no_corner : predicted (mask (replicate 13 77) 3) 4 ≡ none
unfolding predicted bit_of
no_corner = refl

-- A-D are present alone: DC is their mean
pub mean_of_four : predicted (mask (replicate 13 77) 1) 2 ≡ samples (replicate 16 77)
unfolding predicted bit_of total grid tab
mean_of_four = refl
