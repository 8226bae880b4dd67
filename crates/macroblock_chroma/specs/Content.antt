-- The content of a chroma record: "QUANTIZER for either offset, Cb first; MODE above 3 or needing what is missing; then ranges. The place of the
-- last three is the chroma record's first byte" (02, Req 05). Assumes nothing.
use Rattle.std.specs.Prelude.{cond, ◌&&◌, List, [], ◌∷◌, ◌++◌, ℕ, ℤ, pos, take, drop}
use Rattle.lists.specs.Chain.{Test, test, scan_test}
use Rattle.refusal.specs.declared.Refusal.{Refusal}
use Rattle.refusal.specs.declared.Refusal.TheVariants as refusal
use Rattle.whole.specs.Notation.{minus}
use Rattle.whole.specs.Range.{inside}
use Rattle.quantizer.specs.Chroma.{chroma_of}
use Rattle.chroma.specs.Rules.{permitted}
use Rattle.residual_whole.specs.Rebuilt.{dc_fits, first_ac}
use Rattle.record.specs.Kinds.{in_chroma}
use Rattle.record.specs.Records.{all_levels_in, cb_offset_in, cr_offset_in, chroma_mode_in}
use Rattle.picture.specs.declared.Layout.{Layout}
use Rattle.picture.specs.Whole.{flags_round}
use Rattle.macroblock_chroma.specs.declared.Quantizers.{Quantizers}
use Rattle.quantizer.specs.declared.Quantizer.{Quantizer}
use Rattle.std.specs.Prelude.{Option, Some, None}

-- "64 levels of Cb then of Cr (4 DC, then 4 times 15 AC)"
unfoldable pub cb_levels_in : List ℕ → List ℤ
cb_levels_in part = take 64 (all_levels_in in_chroma part)

unfoldable pub cr_levels_in : List ℕ → List ℤ
cr_levels_in part = drop 64 (all_levels_in in_chroma part)

-- the quantizers of the two planes, of the macroblock's QP: "Cb and Cr have an offset each"
abbrev pub cb_quantizer : (qp : ℕ) → List ℕ → ℕ
cb_quantizer qp part = chroma_of qp (cb_offset_in part)

abbrev pub cr_quantizer : (qp : ℕ) → List ℕ → ℕ
cr_quantizer qp part = chroma_of qp (cr_offset_in part)

abbrev pub both_of : (cb cr : Quantizer) → Option Quantizers
both_of cb cr = Some (record { cb = cb; cr = cr })

-- both, where both offsets are "of -12 to 12" (01)
unfoldable pub quantizers_of : (qp : ℕ) → (cb_offset cr_offset : ℤ) → Option Quantizers
quantizers_of qp cb_offset cr_offset =
    cond (inside (minus 12) (pos 12) cb_offset && inside (minus 12) (pos 12) cr_offset)
    (both_of (record { qp = chroma_of qp cb_offset }) (record { qp = chroma_of qp cr_offset }))
    None

-- "QUANTIZER for either offset": it is "of -12 to 12" (01)
abbrev pub offset_test : (place : ℕ) → ℤ → Test Refusal
offset_test place offset = test (inside (minus 12) (pos 12) offset) (refusal.Quantizer place)

-- "then ranges": of a plane with this quantizer its DC, then its AC
abbrev pub plane_ranges : (place qp : ℕ) → List ℤ → List (Test Refusal)
plane_ranges place qp levels = test (dc_fits 8 qp levels) (refusal.Range place) ∷ scan_test 4 (first_ac 8 qp levels) (λ b. refusal.Range place) ∷ []

-- the tests of macroblock m's chroma record, which begins at a place of the file, in their order
unfoldable pub content_tests_chroma : Layout → (m qp place : ℕ) → (part : List ℕ) → List (Test Refusal)
content_tests_chroma l m qp place part =
    offset_test place (cb_offset_in part)
    ∷ offset_test place (cr_offset_in part)
    ∷ test (permitted (flags_round 8 l m) (chroma_mode_in part)) (refusal.Mode place)
    ∷ (plane_ranges place (cb_quantizer qp part) (cb_levels_in part) ++ plane_ranges place (cr_quantizer qp part) (cr_levels_in part))
