-- What is known where coding a plane does not refuse.
--     PlaneOutcome, outcome     where it answers `Ok`, no test has failed: the file stands in the bytes used, and the rest keep theirs
-- Assumes nothing.
use mathlib.Core.Path.{◌≡◌, refl, sym, ap, ◌∙◌}
use mathlib.Core.Bool.{true}
use mathlib.Core.List.{List}
use Prim.Native.Nat.{ℕ, ◌≤◌}
use native.Mathlib.Omega.{arith}
use borrow.Author.Tests.{eqb-true}
use lib.ListN.{length, take, drop}
use lib.Seq.{take_at, drop_at}
use Rattle.lists.specs.Chain.{pass, chain}
use Rattle.lists.proofs.Chain.{chain_exactly_if, holds_new}
use Rattle.refusal.proofs.Same.{says_same}
use Rattle.quantizer.specs.Range.{highest}
use Rattle.quantizer.proofs.Range.{number_legal}
use Rattle.head.specs.Entry.{size_holds, rows_hold}
use Rattle.picture.specs.Plane.{plane_length}
use Rattle.plane.specs.Code.{in_slices, area_length, coded_file, coded_plane, code_plane_tests, CodesPlane}
use Rattle.plane.proofs.CodedFile.{length_coded_file}
use Rattle.std.specs.Prelude.{Ok}

-- what is known where a plane was coded
pub record PlaneOutcome (width height rows qp : ℕ) (plane file rebuilt : List ℕ) (used : ℕ) (file' rebuilt' : List ℕ) : Type 0 where
  pub size : size_holds width height ≡ true
  pub sliced : rows_hold height rows ≡ true
  pub long : length plane ≡ plane_length 16 (in_slices width height rows)
  pub room : length rebuilt ≡ plane_length 16 (in_slices width height rows)
  pub legal : qp ≤ highest
  pub bytes : used ≡ length (coded_file (in_slices width height rows) qp plane)
  pub within : used ≤ length file
  pub filed : take used file' ≡ coded_file (in_slices width height rows) qp plane
  pub kept : drop used file' ≡ drop used file
  pub stored : rebuilt' ≡ coded_plane (in_slices width height rows) qp plane

module _ (width height rows qp : ℕ) (plane : List ℕ) where
  pub outcome : (file rebuilt : List ℕ) (used : ℕ) (file' rebuilt' : List ℕ) → CodesPlane width height rows qp plane file rebuilt (Ok used) file' rebuilt'
      → PlaneOutcome width height rows qp plane file rebuilt used file' rebuilt'
  outcome file rebuilt used file' rebuilt' c =
      let v : chain (code_plane_tests width height rows qp plane file rebuilt) ≡ pass = sym (says_same c.says) in
      let all = (chain_exactly_if (code_plane_tests width height rows qp plane file rebuilt)).passes.0 v in
      let n = length_coded_file (in_slices width height rows) qp plane in
      let bytes = holds_new 0 v c.used in
      let filed = holds_new file v c.filed in
      let area : length file ≡ area_length (in_slices width height rows) = eqb-true (length file) (area_length (in_slices width height rows)) all.1.1.1.0 in
      record {
        size = all.0;
        sliced = all.1.0;
        long = eqb-true (length plane) (plane_length 16 (in_slices width height rows)) all.1.1.0;
        room = eqb-true (length rebuilt) (plane_length 16 (in_slices width height rows)) all.1.1.1.1.0;
        legal = number_legal 0 qp all.1.1.1.1.1.0;
        bytes = bytes;
        within = omega (arith, bytes, n, area);
        filed = (λ i. take (bytes i) (filed i)) ∙ take_at (coded_file (in_slices width height rows) qp plane) (drop (length (coded_file (in_slices width height rows) qp plane)) file) (length (coded_file (in_slices width height rows) qp plane)) refl;
        kept = (λ i. drop (bytes i) (filed i)) ∙ drop_at (coded_file (in_slices width height rows) qp plane) (drop (length (coded_file (in_slices width height rows) qp plane)) file) (length (coded_file (in_slices width height rows) qp plane)) refl ∙ ap (λ (n : ℕ). drop n file) (sym bytes);
        stored = holds_new rebuilt v c.stored;
      }
