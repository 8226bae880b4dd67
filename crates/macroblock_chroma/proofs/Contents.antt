-- What the tests of a chroma record's content come to, and what a fine content gives.
--     both_small                         levels read from a file have 16 bits
--     offset_outside, mode_lacking_chroma, range_far_chroma     the refusals
--     fine_chroma, content_fine_chroma   the tests pass exactly if the content is fine, at whatever place
--     chroma_kind                        the refusals are those of content
-- Assumes nothing.
use mathlib.Core.Path.{◌≡◌, refl, sym}
use mathlib.Core.Bool.{Bool, true, false, ◌&&◌}
use mathlib.Core.List.{List, [], ◌∷◌, ◌++◌}
use Prim.Native.Nat.{ℕ, ◌+◌, ◌*◌}
use lib.Dec.{eqb}
use lib.IntN.{pos}
use Rattle.lists.specs.Chain.{Test, test, pass, stop, chain}
use Rattle.lists.proofs.Chain.{chain_exactly_if}
use Rattle.lists.proofs.Every.{both_true}
use Rattle.refusal.specs.declared.Refusal.{Refusal}
use Rattle.refusal.specs.declared.Refusal.TheVariants as refusal
use Rattle.refusal.specs.Faults.{is_content}
use Rattle.refusal.proofs.Faults.{false_not_true, all_of}
use Rattle.whole.specs.Bounds.{Each}
use Rattle.whole.specs.Notation.{minus}
use Rattle.whole.specs.Range.{inside}
use Rattle.whole.proofs.Bound.{sixteen_bits}
use Rattle.whole.proofs.Lists.{each_tab}
use Rattle.chroma.specs.Rules.{permitted}
use Rattle.residual_whole.specs.Rebuilt.{dc_fits, first_ac}
use Rattle.octets.specs.Numbers.{number_at}
use Rattle.record.specs.Kinds.{in_chroma}
use Rattle.record.specs.Records.{level_with, all_levels_in, cb_offset_in, cr_offset_in, chroma_mode_in}
use Rattle.picture.specs.declared.Layout.{Layout}
use Rattle.picture.specs.Whole.{flags_round}
use Rattle.macroblock_chroma.specs.Content.{cb_levels_in, cr_levels_in, cb_quantizer, cr_quantizer, plane_ranges, content_tests_chroma}
use Rattle.macroblock_chroma.specs.Fine.{in_range, FineChroma}

pub both_small : (part : List ℕ) → Each 32768 (all_levels_in in_chroma part)
unfolding all_levels_in
both_small part = each_tab 32768 128 (λ i. level_with in_chroma i part) (λ i h. sixteen_bits (number_at (in_chroma.front + 2 * i) part))

-- ---- the verdicts

-- tests with one refusal, two before others or four
either_fails : {r : Refusal} (a b : Bool) (rest : List (Test Refusal)) → (a && b) ≡ false → chain (test a r ∷ test b r ∷ rest) ≡ stop r
either_fails false b rest e = refl
either_fails true false rest e = refl
either_fails true true rest e = absurd (false_not_true (sym e))

one_fails : {r : Refusal} (a b c d : Bool) → ((a && b) && (c && d)) ≡ false → chain (test a r ∷ test b r ∷ test c r ∷ test d r ∷ []) ≡ stop r
one_fails false b c d e = refl
one_fails true false c d e = refl
one_fails true true false d e = refl
one_fails true true true false e = refl
one_fails true true true true e = absurd (false_not_true (sym e))

module _ (l : Layout) (m qp place : ℕ) (part : List ℕ) where
  pub offset_outside : (inside (minus 12) (pos 12) (cb_offset_in part) && inside (minus 12) (pos 12) (cr_offset_in part)) ≡ false
      → chain (content_tests_chroma l m qp place part) ≡ stop (refusal.Quantizer place)
  unfolding content_tests_chroma
  offset_outside e =
      either_fails (inside (minus 12) (pos 12) (cb_offset_in part)) (inside (minus 12) (pos 12) (cr_offset_in part))
      (test (permitted (flags_round 8 l m) (chroma_mode_in part)) (refusal.Mode place)
      ∷ (plane_ranges place (cb_quantizer qp part) (cb_levels_in part) ++ plane_ranges place (cr_quantizer qp part) (cr_levels_in part))) e

  module _ (cb : inside (minus 12) (pos 12) (cb_offset_in part) ≡ true) (cr : inside (minus 12) (pos 12) (cr_offset_in part) ≡ true) where
    pub mode_lacking_chroma : permitted (flags_round 8 l m) (chroma_mode_in part) ≡ false → chain (content_tests_chroma l m qp place part) ≡ stop (refusal.Mode place)
    unfolding content_tests_chroma
    mode_lacking_chroma e = simp (cb, cr, e)

    module _ (mode : permitted (flags_round 8 l m) (chroma_mode_in part) ≡ true) where
      -- one place for all ranges: whichever of the four fails
      pub range_far_chroma : (in_range (cb_quantizer qp part) (cb_levels_in part) && in_range (cr_quantizer qp part) (cr_levels_in part)) ≡ false
          → chain (content_tests_chroma l m qp place part) ≡ stop (refusal.Range place)
      unfolding content_tests_chroma in_range
      range_far_chroma e =
          simp (cb, cr, mode)
          (one_fails (dc_fits 8 (cb_quantizer qp part) (cb_levels_in part)) (eqb (first_ac 8 (cb_quantizer qp part) (cb_levels_in part)) 4)
          (dc_fits 8 (cr_quantizer qp part) (cr_levels_in part)) (eqb (first_ac 8 (cr_quantizer qp part) (cr_levels_in part)) 4) e)

  pub fine_chroma : chain (content_tests_chroma l m qp place part) ≡ pass → FineChroma l m qp part
  unfolding content_tests_chroma in_range
  fine_chroma e =
      let a = (chain_exactly_if (content_tests_chroma l m qp place part)).passes.0 e in
      record {
        cb_offset = a.0;
        cr_offset = a.1.0;
        mode = a.1.1.0;
        cb_range = rw (a.1.1.1.0, a.1.1.1.1.0);
        cr_range = rw (a.1.1.1.1.1.0, a.1.1.1.1.1.1.0);
      }

-- and the other way round
pub content_fine_chroma : {l : Layout} {m qp : ℕ} {part : List ℕ} → FineChroma l m qp part → (place : ℕ) → chain (content_tests_chroma l m qp place part) ≡ pass
unfolding content_tests_chroma in_range
content_fine_chroma {l} {m} {qp} {part} f place =
    let cb = both_true (dc_fits 8 (cb_quantizer qp part) (cb_levels_in part)) (eqb (first_ac 8 (cb_quantizer qp part) (cb_levels_in part)) 4) f.cb_range in
    let cr = both_true (dc_fits 8 (cr_quantizer qp part) (cr_levels_in part)) (eqb (first_ac 8 (cr_quantizer qp part) (cr_levels_in part)) 4) f.cr_range in
    simp (f.cb_offset, f.cr_offset, f.mode, cb.0, cb.1, cr.0, cr.1)

pub chroma_kind : (l : Layout) (m qp place : ℕ) (part : List ℕ) → all_of is_content (content_tests_chroma l m qp place part) ≡ true
unfolding content_tests_chroma
chroma_kind l m qp place part = refl
