-- The DC path of n blocks (sixteen of luma, four of chroma): what the coder makes of any residuals passes the tests of each call on the way.
--     dc_path             the blocks' DC coefficients pass the DC coder's tests; levels 1 to 15 of each, with any DC of 16 bits, those of `rebuild_with_dc`
--     luma_path, chroma_path     so with the DC value that comes back for the block
-- Assumes nothing.
use mathlib.Core.Path.{◌≡◌, ◌∙◌}
use mathlib.Core.List.{List, []}
use Prim.Native.Nat.{ℕ, ◌≤◌, ◌<◌}
use native.Mathlib.Omega.{arith}
use lib.IntN.{ℤ, pos}
use lib.ListN.{length, get_or}
use Rattle.lists.specs.Chain.{chain, pass}
use Rattle.lists.proofs.Chain.{scan_none}
use Rattle.lists.proofs.Tab.{length_tab}
use Rattle.whole.specs.Bounds.{Each}
use Rattle.whole.specs.Notation.{minus}
use Rattle.whole.specs.Range.{first_outside}
use Rattle.whole.proofs.Lists.{each_tab, each_less}
use Rattle.whole.proofs.Range.{within_inside, each_none}
use Rattle.whole.proofs.Steps.{each_at}
use Rattle.transform.proofs.Bounds.{forward_within}
use Rattle.quantizer.specs.Range.{highest}
use Rattle.refusal.specs.declared.Refusal.TheVariants.{Residual}
use Rattle.residual.specs.Entry.{lent_tests, with_dc_tests}
use Rattle.residual.proofs.Entry.{lent_fine}
use Rattle.residual.proofs.Own.{ac_numbers_law, own_ac_pass}
use Rattle.dc.specs.Dc.{dc_of, luma_levels, luma_values, chroma_levels, chroma_values}
use Rattle.dc.specs.Path.{ac_of, DcPath}
use Rattle.dc.proofs.Own.{own_dc_in_range, own_chroma_dc_in_range}

module _ (n qp : ℕ) (blocks : ℕ → List ℤ) where
  module _ (legal : qp ≤ highest) (small : (k : ℕ) → k < n → Each 255 (blocks k)) where
    length_dc : length (dc_of n blocks) ≡ n
    length_dc = length_tab n _

    dc_small : Each 4080 (dc_of n blocks)
    dc_small = each_tab 4080 n _ (λ k h. forward_within (blocks k) (small k h) 0 (omega arith))

    pub dc_path : DcPath n qp blocks
    dc_path = record {
      coded =
          λ out room. scan_none (lent_tests n qp (length (dc_of n blocks)) (length out)) (lent_fine n qp (length (dc_of n blocks)) (length out) length_dc room legal)
          n (first_outside (minus 4080) (pos 4080) (dc_of n blocks)) Residual [] (each_none (minus 4080) (pos 4080) (dc_of n blocks) 4080 tt tt dc_small ∙ length_dc);
      rebuilt = λ k h dc fits. own_ac_pass qp legal (blocks k) (small k h) dc fits;
      numbers = λ k h dc fits. ac_numbers_law qp legal (blocks k) (small k h) dc fits;
    }

    -- with values that are small enough
    back : (values : List ℤ) → Each 32767 values → (k : ℕ) → k < n → (p o : List ℕ) → length p ≡ 16 → length o ≡ 16
        → chain (with_dc_tests qp p (get_or values k (pos 0)) (ac_of qp (blocks k)) o) ≡ pass
    back values w k h = dc_path.rebuilt k h (get_or values k (pos 0)) (within_inside (minus 32768) (pos 32767) 32767 tt tt (get_or values k (pos 0)) (each_at 32767 values w k))

module _ (qp : ℕ) (legal : qp ≤ highest) (blocks : ℕ → List ℤ) where
  pub luma_path : ((k : ℕ) → k < 16 → Each 255 (blocks k)) → (k : ℕ) → k < 16 → (p o : List ℕ) → length p ≡ 16 → length o ≡ 16
      → chain (with_dc_tests qp p (get_or (luma_values qp (luma_levels qp (dc_of 16 blocks))) k (pos 0)) (ac_of qp (blocks k)) o) ≡ pass
  luma_path small =
      let values = luma_values qp (luma_levels qp (dc_of 16 blocks)) in
      back 16 qp blocks legal small values
      (each_less 25088 32767 values (own_dc_in_range qp legal (dc_of 16 blocks) (length_dc 16 qp blocks legal small) (dc_small 16 qp blocks legal small)) tt)

  pub chroma_path : ((k : ℕ) → k < 4 → Each 255 (blocks k)) → (k : ℕ) → k < 4 → (p o : List ℕ) → length p ≡ 16 → length o ≡ 16
      → chain (with_dc_tests qp p (get_or (chroma_values qp (chroma_levels qp (dc_of 4 blocks))) k (pos 0)) (ac_of qp (blocks k)) o) ≡ pass
  chroma_path small =
      let values = chroma_values qp (chroma_levels qp (dc_of 4 blocks)) in
      back 4 qp blocks legal small values
      (each_less 19968 32767 values (own_chroma_dc_in_range qp legal (dc_of 4 blocks) (length_dc 4 qp blocks legal small) (dc_small 4 qp blocks legal small)) tt)
