-- What the tests of a record's content come to, and what a fine content gives.
--     levels_small16                   levels read from a file have 16 bits
--     dc_far, ac_far, content_fine16   the verdicts behind a legal number and a permitted mode
--     Fine16, fine16                   what is known of a record whose content is fine
-- Assumes nothing.
use mathlib.Core.Path.{◌≡◌, sym, ap, ◌∙◌}
use mathlib.Core.Bool.{true, false, not}
use mathlib.Core.List.{List}
use Prim.Native.Nat.{ℕ, ◌+◌, ◌*◌, ◌<◌, ◌≤◌}
use native.Mathlib.Omega.{arith}
use borrow.Author.Tests.{eq-eqb, ne_eqb, eqb-true}
use Rattle.lists.specs.Chain.{pass, stop, chain}
use Rattle.lists.proofs.Chain.{chain_exactly_if}
use Rattle.lists.proofs.First.{first_le}
use Rattle.refusal.specs.declared.Refusal.TheVariants as refusal
use Rattle.whole.specs.Bounds.{Each}
use Rattle.whole.proofs.Bound.{sixteen_bits}
use Rattle.whole.proofs.Lists.{each_tab}
use Rattle.quantizer.specs.Range.{highest}
use Rattle.quantizer.proofs.Range.{number_passes, number_legal}
use Rattle.sides.specs.Rules.{permitted}
use Rattle.residual_whole.specs.Rebuilt.{dc_fits, ac_fits, first_ac}
use Rattle.record.specs.Kinds.{in_whole}
use Rattle.octets.specs.Numbers.{number_at}
use Rattle.record.specs.Records.{qp_in, whole_mode_in, level_with, all_levels_in}
use Rattle.picture.specs.declared.Layout.{Layout}
use Rattle.picture.specs.Whole.{flags_round}
use Rattle.macroblock16.specs.Content.{whole_levels_in, content_tests16}

pub levels_small16 : (part : List ℕ) → Each 32768 (whole_levels_in part)
unfolding all_levels_in
levels_small16 part = each_tab 32768 256 (λ i. level_with in_whole i part) (λ i h. sixteen_bits (number_at (in_whole.front + 2 * i) part))

module _ (l : Layout) (m : ℕ) (part : List ℕ) where
  ac_le : first_ac 16 (qp_in part) (whole_levels_in part) ≤ 16
  unfolding first_ac
  ac_le = first_le (λ b. not (ac_fits 16 (qp_in part) (whole_levels_in part) b)) 16

  module _ (legal : qp_in part ≤ highest) where
    module _ (allowed : permitted (flags_round 16 l m) (whole_mode_in part) ≡ true) where
      pub dc_far : dc_fits 16 (qp_in part) (whole_levels_in part) ≡ false → chain (content_tests16 l m part) ≡ stop (refusal.Range (16 * m))
      dc_far e = simp (number_passes (16 * m) (qp_in part) legal, allowed, e)

      module _ (dc : dc_fits 16 (qp_in part) (whole_levels_in part) ≡ true) where
        -- the refusal that the code sends back, of the block that it found
        pub ac_far : {b : ℕ} → b ≡ first_ac 16 (qp_in part) (whole_levels_in part) → b < 16 → stop (refusal.Range (16 * m + b)) ≡ chain (content_tests16 l m part)
        ac_far {b} is h =
            let n : (first_ac 16 (qp_in part) (whole_levels_in part) ≡ 16 → ⊥) = λ e. omega arith in
            ap (λ (k : ℕ). stop (refusal.Range (16 * m + k))) is
            ∙ sym (simp (number_passes (16 * m) (qp_in part) legal, allowed, dc, ne_eqb (first_ac 16 (qp_in part) (whole_levels_in part)) 16 n))

        pub content_fine16 : 16 ≤ first_ac 16 (qp_in part) (whole_levels_in part) → chain (content_tests16 l m part) ≡ pass
        content_fine16 h =
            let e : first_ac 16 (qp_in part) (whole_levels_in part) ≡ 16 = omega (arith, ac_le) in
            simp (number_passes (16 * m) (qp_in part) legal, allowed, dc, eq-eqb (first_ac 16 (qp_in part) (whole_levels_in part)) 16 e)

  -- what is known of a record whose content is fine
  pub record Fine16 : Type 0 where
    pub legal : qp_in part ≤ highest
    pub allowed : permitted (flags_round 16 l m) (whole_mode_in part) ≡ true
    pub dc : dc_fits 16 (qp_in part) (whole_levels_in part) ≡ true
    pub ac : first_ac 16 (qp_in part) (whole_levels_in part) ≡ 16

  pub fine16 : chain (content_tests16 l m part) ≡ pass → Fine16
  fine16 e =
      let a = (chain_exactly_if (content_tests16 l m part)).passes.0 e in
      record {
        legal = number_legal (16 * m) (qp_in part) a.0;
        allowed = a.1.0;
        dc = a.1.1.0;
        ac = eqb-true (first_ac 16 (qp_in part) (whole_levels_in part)) 16 a.1.1.1.0;
      }
