-- What `code_block` sends back and writes (01, "What is sent back, and in which order it is tested"). Assumes nothing.
use Rattle.std.specs.Prelude.{◌≡◌, List, [], ◌∷◌, ℕ, ℤ, length}
use Rattle.lists.specs.Chain.{Test, chain, written}
use Rattle.whole.specs.Bounds.{Each}
use Rattle.refusal.specs.Number.{Says, said}
use Rattle.refusal.specs.Tests.{length_test, flags_test}
use Rattle.refusal.specs.declared.Refusal.{Refusal}
use Rattle.intra4.specs.Samples.{Round, mask}
use Rattle.quantizer.specs.Range.{quantizer_test}
use Rattle.intra4.specs.Choice.{nothing, at, chosen}
use Rattle.intra4.specs.Entry.{best_in}
use Rattle.intra4.specs.declared.Chosen.{Chosen}
use Rattle.block.specs.Block.{coded_levels, coded_samples}
use Rattle.block.specs.declared.inner.Block.{Block}
use Rattle.std.specs.Prelude.{Result}

-- LENGTH: thirteen neighbours, sixteen samples, levels and rebuilt samples; then FLAGS, then QUANTIZER
abbrev pub code_tests : (qp flags : ℕ) (neighbours samples : List ℕ) (levels : List ℤ) (rebuilt : List ℕ) → List (Test Refusal)
code_tests qp flags neighbours samples levels rebuilt =
    length_test 13 (length neighbours) ∷ length_test 16 (length samples) ∷ length_test 16 (length levels) ∷ length_test 16 (length rebuilt)
    ∷ flags_test flags ∷ quantizer_test 0 qp ∷ []

-- what `code_block` makes of the outputs l and o as they were: l' and o'
pub record Codes (qp flags : ℕ) (neighbours samples : List ℕ) (l : List ℤ) (o : List ℕ) (r : Result Chosen Refusal) (l' : List ℤ) (o' : List ℕ) : Type 0 where
  pub says : Says (said r) (chain (code_tests qp flags neighbours samples l o))
  pub best : best_in r ≡ written (chain (code_tests qp flags neighbours samples l o)) (chosen (mask neighbours flags) samples) nothing
  pub levels : l' ≡ written (chain (code_tests qp flags neighbours samples l o)) (coded_levels qp (mask neighbours flags) samples) l
  pub rebuilt : o' ≡ written (chain (code_tests qp flags neighbours samples l o)) (coded_samples qp (mask neighbours flags) samples) o

-- ---- for the other crates: a block coded by value, and that its levels fit the 16 bits that a record has for each
pub record Carries (qp : ℕ) (round : Round) (samples : List ℕ) (r : Block) : Type 0 where
  pub best : at r.mode r.sad ≡ chosen round samples
  pub small : Each 32767 r.levels
  pub levels : r.levels ≡ coded_levels qp round samples
  pub rebuilt : r.rebuilt ≡ coded_samples qp round samples
