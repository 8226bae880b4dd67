-- What is known where the tests of a picture pass.
--     planes_told, planes_pass     LENGTH of three planes, as three equations and back
--     FrameTold, frame_told        what is known where all pass
-- Assumes nothing.
use mathlib.Core.Path.{◌≡◌}
use mathlib.Core.Bool.{true}
use mathlib.Core.List.{List}
use Prim.Native.Nat.{ℕ, ◌≤◌}
use borrow.Author.Tests.{eqb-true, eq-eqb}
use lib.IntN.{ℤ, pos}
use Rattle.lists.specs.Chain.{Test, pass, chain}
use Rattle.lists.proofs.Chain.{chain_exactly_if}
use Rattle.refusal.specs.declared.Refusal.{Refusal}
use Rattle.whole.specs.Notation.{minus}
use Rattle.whole.specs.Range.{inside}
use Rattle.quantizer.specs.Range.{highest}
use Rattle.quantizer.proofs.Range.{number_legal}
use Rattle.picture.specs.declared.Layout.{Layout}
use Rattle.picture.specs.Plane.{plane_length}
use Rattle.frame.specs.Decode.{planes_tests}
use Rattle.frame.specs.Code.{frame_area, frame_tests}

-- ---- LENGTH of three planes

module _ (l : Layout) (luma cb cr : ℕ) where
  -- what their tests ask
  pub record PlanesFit : Type 0 where
    pub luma_fits : luma ≡ plane_length 16 l
    pub cb_fits : cb ≡ plane_length 8 l
    pub cr_fits : cr ≡ plane_length 8 l

  pub planes_told : chain (planes_tests l luma cb cr) ≡ pass → PlanesFit
  planes_told e =
      let all = (chain_exactly_if (planes_tests l luma cb cr)).passes.0 e in
      record {
        luma_fits = eqb-true luma (plane_length 16 l) all.0;
        cb_fits = eqb-true cb (plane_length 8 l) all.1.0;
        cr_fits = eqb-true cr (plane_length 8 l) all.1.1.0;
      }

  pub planes_pass : luma ≡ plane_length 16 l → cb ≡ plane_length 8 l → cr ≡ plane_length 8 l → chain (planes_tests l luma cb cr) ≡ pass
  planes_pass a b c = simp (eq-eqb luma (plane_length 16 l) a, eq-eqb cb (plane_length 8 l) b, eq-eqb cr (plane_length 8 l) c)

-- ---- all of them

module _ (l : Layout) (qp : ℕ) (cb_offset cr_offset : ℤ) (luma cb cr file lumaOut cbOut crOut : ℕ) where
  abbrev all : List (Test Refusal)
  all = frame_tests l qp cb_offset cr_offset luma cb cr file lumaOut cbOut crOut

  -- what is known where all pass
  pub record FrameTold : Type 0 where
    pub given : PlanesFit l luma cb cr
    pub area : file ≡ frame_area l
    pub rebuilt : PlanesFit l lumaOut cbOut crOut
    pub legal : qp ≤ highest
    pub cb_inside : inside (minus 12) (pos 12) cb_offset ≡ true
    pub cr_inside : inside (minus 12) (pos 12) cr_offset ≡ true

  pub frame_told : chain all ≡ pass → FrameTold
  frame_told e =
      let t = (chain_exactly_if all).passes.0 e in
      let u = t.1.1.1 in
      let v = u.1.1.1.1 in
      record {
        given = record {
          luma_fits = eqb-true luma (plane_length 16 l) t.0;
          cb_fits = eqb-true cb (plane_length 8 l) t.1.0;
          cr_fits = eqb-true cr (plane_length 8 l) t.1.1.0;
        };
        area = eqb-true file (frame_area l) u.0;
        rebuilt = record {
          luma_fits = eqb-true lumaOut (plane_length 16 l) u.1.0;
          cb_fits = eqb-true cbOut (plane_length 8 l) u.1.1.0;
          cr_fits = eqb-true crOut (plane_length 8 l) u.1.1.1.0;
        };
        legal = number_legal 0 qp v.0;
        cb_inside = v.1.0;
        cr_inside = v.1.1.0;
      }
