-- A record carries its own macroblock: of two planes that agree in macroblock m, from one rebuilt plane before it.
--     step_own4, sads_own4, record_own4     its step, the sum of its SADs and its record are the same
-- Assumes nothing.
use mathlib.Core.Path.{◌≡◌, sym, ap, ◌∙◌}
use mathlib.Core.List.{List}
use Prim.Native.Nat.{ℕ, ◌<◌, ◌≤◌}
use native.Mathlib.Omega.{arith}
use Rattle.lists.proofs.Total.{total_same}
use Rattle.choice.specs.Choice.{sad_of}
use Rattle.intra4.specs.Choice.{chosen}
use Rattle.block.specs.Block.{coded_mode, coded_levels, coded_samples}
use Rattle.picture.specs.declared.Layout.{Layout}
use Rattle.picture.specs.Order.{block_count}
use Rattle.picture.specs.Plane.{block_of, gathered, first_turns}
use Rattle.picture.proofs.Start.{by_one, turns_follow}
use Rattle.macroblock4.specs.Code.{round_of, mode_from, levels_from, samples_from, seen, sad_from, sads_from, record_from4, coded_step4}
use Rattle.macroblock4.proofs.RecordFrom.{same_record}

module _ (l : Layout) (qp : ℕ) (p q : List ℕ) (m : ℕ) (same : (b : ℕ) → b < 16 → block_of 4 l m b p ≡ block_of 4 l m b q) (before : List ℕ) where
  turns_own : (n : ℕ) → n ≤ 16 → first_turns 4 (samples_from l qp p) l m n before ≡ first_turns 4 (samples_from l qp q) l m n before
  unfolding samples_from
  turns_own n h =
      turns_follow 4 (samples_from l qp p) (samples_from l qp q) l m n before
      (λ j b k is. ap (coded_samples qp (round_of l m b (gathered 4 l m b (first_turns 4 (samples_from l qp q) l m j before)))) (same b (omega (arith, by_one j ∙ sym is))))

  pub step_own4 : coded_step4 l qp p m before ≡ coded_step4 l qp q m before
  unfolding coded_step4 block_count
  step_own4 = turns_own 16 (omega arith)

  seen_own : (b : ℕ) → b < 16 → seen l qp p m before b ≡ seen l qp q m before b
  unfolding seen
  seen_own b h = ap (gathered 4 l m b) (turns_own b (omega arith))

  mode_own : (b : ℕ) → b < 16 → mode_from l p m b (seen l qp p m before b) ≡ mode_from l q m b (seen l qp q m before b)
  unfolding mode_from
  mode_own b h = λ i. coded_mode (round_of l m b (seen_own b h i)) (same b h i)

  levels_own : (b : ℕ) → b < 16 → levels_from l qp p m b (seen l qp p m before b) ≡ levels_from l qp q m b (seen l qp q m before b)
  unfolding levels_from
  levels_own b h = λ i. coded_levels qp (round_of l m b (seen_own b h i)) (same b h i)

  pub sads_own4 : sads_from l qp p m before ≡ sads_from l qp q m before
  unfolding sads_from sad_from
  sads_own4 = total_same 16 _ _ (λ b h i. sad_of (chosen (round_of l m b (seen_own b h i)) (same b h i)))

  pub record_own4 : record_from4 l qp p m before ≡ record_from4 l qp q m before
  record_own4 = same_record l qp m p q before before mode_own levels_own
