-- What stood in the rebuilt plane, and in the file area, has no value for the coder.
--     code_plane_start_has_no_value     the file and the rebuilt plane are the same from any two planes of the picture's length
--     code_plane_entry_has_no_value     two calls that were lent other areas use as many bytes, and leave the same in these and in the planes
-- Assumes nothing.
use mathlib.Core.Path.{◌≡◌, sym, ap, ◌∙◌}
use mathlib.Core.List.{List, ◌++◌}
use Prim.Native.Nat.{ℕ, ◌<◌}
use native.Mathlib.Omega.{arith}
use lib.ListN.{length, take}
use Rattle.picture.specs.declared.Layout.{Layout}
use Rattle.picture.specs.Plane.{plane_length}
use Rattle.picture.proofs.Steps.{picture_start_has_no_value, made_start_has_no_value}
use Rattle.macroblock.specs.Code.{record_from, coded_step}
use Rattle.macroblock.proofs.Looks.{coded_step_law, record_looks}
use Rattle.plane.specs.Code.{head_for, plane_before, plane_from, file_from, CodesPlane}
use Rattle.plane.proofs.CodedOutcome.{outcome}
use Rattle.std.specs.Prelude.{Ok}

module _ (l : Layout) (some : 0 < l.width) (qp : ℕ) (original p q : List ℕ) (this : length p ≡ plane_length 16 l) (that : length q ≡ plane_length 16 l) where
  same_plane : plane_from l qp original p ≡ plane_from l qp original q
  unfolding plane_before
  same_plane = picture_start_has_no_value 16 (omega arith) l some (coded_step l qp original) (λ m h. coded_step_law l some m h qp original) p q this that

  same_file : file_from l qp original p ≡ file_from l qp original q
  unfolding file_from plane_before
  same_file =
      ap (λ (records : List ℕ). head_for l ++ records)
      (made_start_has_no_value 16 (omega arith) l some (coded_step l qp original) (λ m h. coded_step_law l some m h qp original) (record_from l qp original) (λ m h. record_looks l some m h qp original) p q this that)

  pub code_plane_start_has_no_value : (file_from l qp original p ≡ file_from l qp original q) × (plane_from l qp original p ≡ plane_from l qp original q)
  code_plane_start_has_no_value = (same_file, same_plane)

-- ---- by the contract

pub code_plane_entry_has_no_value : (width height rows qp : ℕ) (plane file rebuilt other-file other-rebuilt : List ℕ) (used other-used : ℕ) (file' rebuilt' file'' rebuilt'' : List ℕ)
    → CodesPlane width height rows qp plane file rebuilt (Ok used) file' rebuilt'
    → CodesPlane width height rows qp plane other-file other-rebuilt (Ok other-used) file'' rebuilt''
    → (used ≡ other-used) × (take used file' ≡ take other-used file'') × (rebuilt' ≡ rebuilt'')
code_plane_entry_has_no_value width height rows qp plane file rebuilt other-file other-rebuilt used other-used file' rebuilt' file'' rebuilt'' c d =
    let x = outcome width height rows qp plane file rebuilt used file' rebuilt' c in
    let y = outcome width height rows qp plane other-file other-rebuilt other-used file'' rebuilt'' d in
    (x.bytes ∙ sym y.bytes, x.filed ∙ sym y.filed, x.stored ∙ sym y.stored)
