-- The content of a record of a macroblock predicted whole: "mode above 3 or lacking what it needs is MODE, place 16*number, which is also the
-- place of a DC out of range, tested before the AC" (02, Req 01). Assumes nothing.
use Rattle.std.specs.Prelude.{List, [], ◌∷◌, ℕ, ◌+◌, ◌*◌, ℤ}
use Rattle.lists.specs.Chain.{Test, test, scan_test}
use Rattle.refusal.specs.declared.Refusal.{Refusal}
use Rattle.refusal.specs.declared.Refusal.TheVariants as refusal
use Rattle.quantizer.specs.Range.{quantizer_test}
use Rattle.sides.specs.Rules.{permitted}
use Rattle.residual_whole.specs.Rebuilt.{dc_fits, first_ac}
use Rattle.record.specs.Kinds.{in_whole}
use Rattle.record.specs.Records.{qp_in, whole_mode_in, all_levels_in}
use Rattle.picture.specs.declared.Layout.{Layout}
use Rattle.picture.specs.Whole.{flags_round}

-- "16 DC levels, 16 times 15 AC levels"
abbrev pub whole_levels_in : List ℕ → List ℤ
whole_levels_in part = all_levels_in in_whole part

-- the tests of record m, in their order; the AC's place is that of its block, as for 4x4
abbrev pub content_tests16 : Layout → (m : ℕ) → List ℕ → List (Test Refusal)
content_tests16 l m part =
    quantizer_test (16 * m) (qp_in part)
    ∷ test (permitted (flags_round 16 l m) (whole_mode_in part)) (refusal.Mode (16 * m))
    ∷ test (dc_fits 16 (qp_in part) (whole_levels_in part)) (refusal.Range (16 * m))
    ∷ scan_test 16 (first_ac 16 (qp_in part) (whole_levels_in part)) (λ b. refusal.Range (16 * m + b)) ∷ []
