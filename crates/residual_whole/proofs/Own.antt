-- The coder's own levels of a macroblock, for either side: they fit 16 bits, and a decoder accepts them (02, Req 01: "Demand 2 covers both
-- kinds"; Req 05: "demand 2 hold for the chroma planes too").
--     own_dc, own_ac             the DC and the AC levels are read back from their places in the record
--     own_dc_values              the values that own DC levels come back as: none lies outside 16 bits
--     own_levels_accepted        any legal quantizer, samples and prediction of bytes: levels within 6528, and RANGE finds none
-- Assumes nothing.
use mathlib.Core.Path.{◌≡◌, refl, ap, ◌∙◌}
use mathlib.Core.Bool.{true, not}
use mathlib.Core.List.{List, ◌++◌}
use Prim.Native.Nat.{ℕ, ◌+◌, ◌*◌, ◌<◌, ◌≤◌}
use native.Mathlib.Omega.{arith}
use borrow.Author.Tests.{eq-eqb}
use lib.IntN.{ℤ, pos}
use lib.ListN.{length, get_or, take, drop, length-append}
use lib.Seq.{take_at, drop-append-add}
use mir.Syntax.{w16}
use mir.Val.{SFits}
use Rattle.lists.specs.Bytes.{Bytes}
use Rattle.lists.specs.Parts.{parts}
use Rattle.lists.proofs.First.{first_none}
use Rattle.lists.proofs.Parts.{length_parts, parts_at}
use Rattle.whole.specs.Bounds.{Each}
use Rattle.whole.specs.Range.{inside}
use Rattle.whole.proofs.Bound.{here, fits}
use Rattle.whole.proofs.Lists.{each_less, each_drop, each_append, each_parts}
use Rattle.whole.proofs.Steps.{each_at}
use Rattle.quantizer.specs.Range.{highest}
use Rattle.residual.specs.Entry.{first_wide}
use Rattle.residual.specs.Levels.{levels_of}
use Rattle.residual.specs.Order.{in_zigzag}
use Rattle.residual.specs.Rebuild.{rescaled_with_dc}
use Rattle.residual.proofs.Entry.{wide_none}
use Rattle.residual.proofs.Own.{own_levels_in_range, ac_fit}
use Rattle.dc.specs.Dc.{luma_levels, luma_values, chroma_levels, chroma_values}
use Rattle.dc.specs.Path.{ac_of}
use Rattle.dc.proofs.Levels.{dc_levels_length, dc_levels_each}
use Rattle.dc.proofs.Values.{dc_values_length}
use Rattle.dc.proofs.Own.{own_dc_in_range, own_chroma_dc_in_range}
use Rattle.residual_whole.specs.Area.{Sided, blocks_of}
use Rattle.residual_whole.specs.Coded.{residual_in, whole_dc, dc_levels, whole_levels}
use Rattle.residual_whole.specs.Rebuilt.{ac_in, dc_values, values_in, dc_fits, ac_numbers, ac_fits, first_ac}
use Rattle.residual_whole.proofs.Blocks.{square, by_side, side_count}
use Rattle.residual_whole.proofs.Levels.{residual_within, dc_within, length_dc, length_ac}

-- own DC levels come back in range: luma's values within 25088, chroma's within 19968
pub own_dc_values : (s : ℕ) → Sided s → (qp : ℕ) → qp ≤ highest → (dc : List ℤ) → length dc ≡ blocks_of s → Each 4080 dc → Each 32767 (dc_values (blocks_of s) qp (dc_levels (blocks_of s) qp dc))
unfolding dc_values dc_levels
own_dc_values s side qp legal dc long small =
    by_side
    (λ n. length dc ≡ blocks_of n → Each 32767 (dc_values (blocks_of n) qp (dc_levels (blocks_of n) qp dc)))
    (λ e. each_less 25088 32767 (luma_values qp (luma_levels qp dc)) (own_dc_in_range qp legal dc e small) tt)
    (λ e. each_less 19968 32767 (chroma_values qp (chroma_levels qp dc)) (own_chroma_dc_in_range qp legal dc e small) tt)
    s side long

-- ---- the levels read back

module _ (s : ℕ) (side : Sided s) (qp : ℕ) (samples prediction : List ℕ) where
  abbrev own : List ℤ
  own = whole_levels s qp samples prediction

  abbrev dc_own : List ℤ
  dc_own = dc_levels (blocks_of s) qp (whole_dc s samples prediction)

  abbrev ac_own : ℕ → List ℤ
  ac_own b = ac_of qp (residual_in s samples prediction b)

  length_dc_own : length dc_own ≡ blocks_of s
  length_dc_own = dc_levels_length (blocks_of s) (side_count s side) qp (whole_dc s samples prediction)

  pub own_dc : take (blocks_of s) own ≡ dc_own
  unfolding whole_levels
  own_dc = take_at dc_own (parts (blocks_of s) ac_own) (blocks_of s) length_dc_own

  pub own_ac : (b : ℕ) → b < blocks_of s → ac_in s own b ≡ ac_own b
  unfolding ac_in whole_levels
  own_ac b h =
      let e : blocks_of s + 15 * b ≡ length dc_own + 15 * b = omega (arith, length_dc_own) in
      ap (λ (k : ℕ). take 15 (drop k (dc_own ++ parts (blocks_of s) ac_own))) e
      ∙ ap (take 15) (drop-append-add dc_own (parts (blocks_of s) ac_own) (15 * b))
      ∙ parts_at 15 ac_own (blocks_of s) b (λ k l. length_ac qp (residual_in s samples prediction k)) h

  pub length_own : length own ≡ s * s
  unfolding whole_levels
  length_own =
      omega (
        arith,
        length-append dc_own (parts (blocks_of s) ac_own),
        length_dc_own,
        length_parts 15 ac_own (blocks_of s) (λ k l. length_ac qp (residual_in s samples prediction k)),
        (square s side).levels,
      )

  module _ (legal : qp ≤ highest) (bytes : Bytes samples) (near : Bytes prediction) where
    own_small : Each 6528 own
    unfolding whole_levels
    own_small =
        each_append 6528 dc_own (parts (blocks_of s) ac_own)
        (dc_levels_each (blocks_of s) qp (whole_dc s samples prediction) (dc_within s samples prediction side bytes near))
        (each_parts 6528 (blocks_of s) ac_own
        (λ b h.
        let l = levels_of qp (residual_in s samples prediction b) in
        each_drop 6528 1 l (each_less 1632 6528 l (own_levels_in_range qp legal (residual_in s samples prediction b) (residual_within s samples prediction side bytes near b)).levels tt)))

    own_dc_fine : dc_fits s qp own ≡ true
    unfolding dc_fits values_in
    own_dc_fine =
        eq-eqb (first_wide (values_in s qp own)) (blocks_of s)
        (ap (λ (l : List ℤ). first_wide (dc_values (blocks_of s) qp l)) own_dc
        ∙ wide_none (dc_values (blocks_of s) qp dc_own) (own_dc_values s side qp legal (whole_dc s samples prediction) (length_dc s samples prediction) (dc_within s samples prediction side bytes near))
        ∙ dc_values_length (blocks_of s) (side_count s side) qp dc_own)

    own_ac_fine : first_ac s qp own ≡ blocks_of s
    unfolding first_ac ac_fits ac_numbers inside
    own_ac_fine =
        first_none (λ b. not (ac_fits s qp own b)) (blocks_of s)
        (λ b h.
        ap not
        (eq-eqb (first_wide (in_zigzag (ac_numbers s qp own b))) 16
        (ap (λ (ac : List ℤ). first_wide (in_zigzag (rescaled_with_dc qp (pos 0) ac))) (own_ac b h)
        ∙ ac_fit qp legal (residual_in s samples prediction b) (residual_within s samples prediction side bytes near b) (pos 0) refl)))

    pub record OwnLevels : Type 0 where
      -- as many levels as samples, which fit the 16 bits that a record has for each
      pub long : length (whole_levels s qp samples prediction) ≡ s * s
      pub small : Each 6528 (whole_levels s qp samples prediction)
      pub fits : (k : ℕ) → SFits w16 (get_or (whole_levels s qp samples prediction) k (pos 0))
      -- they rescale into 16 bits, so a decoder's RANGE finds none
      pub dc_fine : dc_fits s qp (whole_levels s qp samples prediction) ≡ true
      pub ac_fine : first_ac s qp (whole_levels s qp samples prediction) ≡ blocks_of s

    pub own_levels_accepted : OwnLevels
    own_levels_accepted = record {
      long = length_own;
      small = own_small;
      fits = λ k. fits (here (each_at 6528 own own_small k)) tt;
      dc_fine = own_dc_fine;
      ac_fine = own_ac_fine;
    }
