-- Pictures that are alike in macroblocks that see none but each other, by the definitions that the contracts cite.
--     luma_records, luma_samples       coded in luma: the records of these macroblocks, and their rebuilt samples
--     both_before_law                  both planes of chroma before macroblock k, coded by one mode of both
--     chroma_records, cb_samples, cr_samples     coded in chroma
--     rebuilt_alike, cb_alike, cr_alike          decoded
-- Assumes nothing.
use mathlib.Core.Path.{◌≡◌, sym, ap, subst, ◌∙◌}
use mathlib.Core.Bool.{Bool, true}
use mathlib.Core.List.{List, ◌++◌}
use Prim.Native.Nat.{ℕ, zero, suc, ◌<◌, ◌≤◌}
use native.Mathlib.Omega.{arith}
use lib.IntN.{ℤ}
use lib.ListN.{length}
use Rattle.lists.specs.Fold.{fold}
use Rattle.lists.proofs.Alike.{Agree}
use Rattle.quantizer.specs.Chroma.{chroma_of}
use Rattle.choice.specs.Choice.{mode_of}
use Rattle.chroma.specs.Choice.{chosen_for_both}
use Rattle.residual_whole.specs.Coded.{whole_levels}
use Rattle.record.specs.Records.{qp_in, record_chroma}
use Rattle.picture.specs.declared.Layout.{Layout}
use Rattle.picture.specs.Both.{Both}
use Rattle.picture.specs.Order.{count_of}
use Rattle.picture.specs.Plane.{plane_length}
use Rattle.picture.specs.Whole.{whole_of, gathered_round, with_whole, whole_turn}
use Rattle.picture.proofs.Alone.{Before, alike_sees, alike_more, alike_before, alike_seen}
use Rattle.picture.proofs.Both.{AgreeBoth, LongBoth}
use Rattle.picture.proofs.Over.{whole_same}
use Rattle.picture.proofs.Owner.{macroblock_owning}
use Rattle.picture.proofs.Steps.{macroblock_lt}
use Rattle.macroblock.specs.Code.{coded_step}
use Rattle.macroblock.specs.Rebuild.{rebuilt_step}
use Rattle.macroblock.proofs.Looks.{coded_step_law, record_looks, rebuilt_step_law}
use Rattle.macroblock.proofs.Own.{step_by_samples, record_by_samples}
use Rattle.macroblock_chroma.specs.Code.{mode_for_both, levels_chroma, coded_chroma, plane_step_chroma, record_from_chroma, coded_step_chroma}
use Rattle.macroblock_chroma.specs.Rebuild.{round_chroma, prediction_chroma, samples_chroma, cb_step, cr_step}
use Rattle.macroblock_chroma.proofs.Looks.{cb_step_law, cr_step_law, plane_step_chroma_law, mode_looks, record_looks_chroma}
use Rattle.plane.specs.Code.{plane_before, plane_from}
use Rattle.plane.specs.Decode.{rebuilt_from}
use Rattle.plane.proofs.CodedFile.{record_on}
use Rattle.frame.specs.Code.{both_before}
use Rattle.frame.specs.Decode.{cb_from, cr_from}
use Rattle.stamp.specs.Unseen.{Closed, SameIn}

module _ (l : Layout) (some : 0 < l.width) (these : ℕ → Bool) (closed : Closed l these) where
  -- macroblock m is one of these
  abbrev In : ℕ → Type 0
  In m = these m ≡ true

  -- ---- luma, coded

  module _ (qp : ℕ) (p q start : List ℕ) (this : length p ≡ plane_length 16 l) (that : length q ≡ plane_length 16 l) (long : length start ≡ plane_length 16 l)
      (same : SameIn 16 l these p q)
    where
      own : (m : ℕ) → In m → Agree 0 (plane_length 16 l) (λ i. macroblock_owning 16 l i ≡ m) p q
      own m e = record { this = this; that = that; agree = λ i h is. same i h (subst In (sym is) e) }

      pub luma_records : (m : ℕ) → m < count_of l → In m → record_on l qp p start m ≡ record_on l qp q start m
      unfolding plane_before
      luma_records m h e =
          let a =
          alike_seen 16 l In closed (coded_step l qp p) (coded_step l qp q) (λ k n. coded_step_law l some k n qp p) (λ k n. coded_step_law l some k n qp q)
          (λ k n is plane room. step_by_samples l some qp p q k n (own k is) plane) start start long long m h e in
          record_looks l some m h qp p _ _ a ∙ record_by_samples l some qp p q m h (own m e) _

      pub luma_samples : SameIn 16 l these (plane_from l qp p start) (plane_from l qp q start)
      unfolding plane_before
      luma_samples i h e =
          (alike_before 16 l In closed (coded_step l qp p) (coded_step l qp q) (λ k n. coded_step_law l some k n qp p) (λ k n. coded_step_law l some k n qp q)
          (λ k n is plane room. step_by_samples l some qp p q k n (own k is) plane) start start long long (count_of l) (omega arith)
          ).agree i h (macroblock_lt 16 (omega arith) l some i h, e)

  -- ---- decoded

  module _ (luma luma' : ℕ → List ℕ) (same : (m : ℕ) → m < count_of l → In m → luma m ≡ luma' m) where
    pub rebuilt_alike : (start : List ℕ) → length start ≡ plane_length 16 l → SameIn 16 l these (rebuilt_from l luma start) (rebuilt_from l luma' start)
    unfolding rebuilt_from
    rebuilt_alike start long i h e =
        (alike_before 16 l In closed (λ m. rebuilt_step l m (luma m)) (λ m. rebuilt_step l m (luma' m)) (λ m k. rebuilt_step_law l some m k (luma m)) (λ m k. rebuilt_step_law l some m k (luma' m))
        (λ m k is plane room. ap (λ (part : List ℕ). rebuilt_step l m part plane) (same m k is)) start start long long (count_of l) (omega arith)
        ).agree i h (macroblock_lt 16 (omega arith) l some i h, e)

    module _ (chroma chroma' : ℕ → List ℕ) (also : (m : ℕ) → m < count_of l → In m → chroma m ≡ chroma' m) (start : List ℕ) (long : length start ≡ plane_length 8 l) where
      pub cb_alike : SameIn 8 l these (cb_from l luma chroma start) (cb_from l luma' chroma' start)
      unfolding cb_from
      cb_alike i h e =
          (alike_before 8 l In closed (λ m. cb_step l m (qp_in (luma m)) (chroma m)) (λ m. cb_step l m (qp_in (luma' m)) (chroma' m))
          (λ m k. cb_step_law l some m k (qp_in (luma m)) (chroma m)) (λ m k. cb_step_law l some m k (qp_in (luma' m)) (chroma' m))
          (λ m k is plane room. λ j. cb_step l m (qp_in (same m k is j)) (also m k is j) plane) start start long long (count_of l) (omega arith)
          ).agree i h (macroblock_lt 8 (omega arith) l some i h, e)

      pub cr_alike : SameIn 8 l these (cr_from l luma chroma start) (cr_from l luma' chroma' start)
      unfolding cr_from
      cr_alike i h e =
          (alike_before 8 l In closed (λ m. cr_step l m (qp_in (luma m)) (chroma m)) (λ m. cr_step l m (qp_in (luma' m)) (chroma' m))
          (λ m k. cr_step_law l some m k (qp_in (luma m)) (chroma m)) (λ m k. cr_step_law l some m k (qp_in (luma' m)) (chroma' m))
          (λ m k is plane room. λ j. cr_step l m (qp_in (same m k is j)) (also m k is j) plane) start start long long (count_of l) (omega arith)
          ).agree i h (macroblock_lt 8 (omega arith) l some i h, e)

  -- ---- chroma, coded

  module _ (qp : ℕ) (cb_offset cr_offset : ℤ) (p q start : Both) (long : LongBoth 8 l start) (cbs : SameIn 8 l these p.cb q.cb) (crs : SameIn 8 l these p.cr q.cr) where
    -- the samples of such a macroblock
    cb_whole : (m : ℕ) → m < count_of l → In m → whole_of 8 l m p.cb ≡ whole_of 8 l m q.cb
    cb_whole m h e = whole_same 8 (omega arith) l some m h p.cb q.cb (λ i hi is. cbs i hi (subst In (sym is) e))

    cr_whole : (m : ℕ) → m < count_of l → In m → whole_of 8 l m p.cr ≡ whole_of 8 l m q.cr
    cr_whole m h e = whole_same 8 (omega arith) l some m h p.cr q.cr (λ i hi is. crs i hi (subst In (sym is) e))

    mode_own : (m : ℕ) → m < count_of l → In m → (b : Both) → mode_for_both l p m b ≡ mode_for_both l q m b
    unfolding mode_for_both
    mode_own m h e b =
        λ i. mode_of (chosen_for_both (round_chroma l m (gathered_round 8 l m b.cb)) (round_chroma l m (gathered_round 8 l m b.cr)) (cb_whole m h e i) (cr_whole m h e i))

    step_own_chroma : (number m : ℕ) (x y : List ℕ) {mode mode' : ℕ} → whole_of 8 l m x ≡ whole_of 8 l m y → mode ≡ mode' → (before : List ℕ)
        → plane_step_chroma l number x mode m before ≡ plane_step_chroma l number y mode' m before
    unfolding whole_turn coded_chroma levels_chroma
    step_own_chroma number m x y w e before =
        λ i. with_whole 8 l m
        (samples_chroma l number (e i) (whole_levels 8 number (w i) (prediction_chroma l (e i) m (gathered_round 8 l m before))) m (gathered_round 8 l m before)) before

    abbrev ran : Both → ℕ → Both
    ran original m = fold m (coded_step_chroma l qp cb_offset cr_offset original) start

    record BothBefore (k : ℕ) : Type 0 where
      cbs_before : Agree 0 (plane_length 8 l) (Before 8 l In k) (ran p k).cb (ran q k).cb
      crs_before : Agree 0 (plane_length 8 l) (Before 8 l In k) (ran p k).cr (ran q k).cr

    both_seen : (k : ℕ) → In k → BothBefore k → AgreeBoth 8 l k (ran p k) (ran q k)
    both_seen k is b = record { cbs = alike_sees 8 l In closed k is _ _ b.cbs_before; crs = alike_sees 8 l In closed k is _ _ b.crs_before }

    -- so the mode is the same
    mode_same : (k : ℕ) → k < count_of l → In k → BothBefore k → mode_for_both l p k (ran p k) ≡ mode_for_both l q k (ran q k)
    mode_same k h is b = mode_looks l some k h p (ran p k) (ran q k) (both_seen k is b) ∙ mode_own k h is (ran q k)

    both_more : (k : ℕ) → k < count_of l → BothBefore k → BothBefore (suc k)
    unfolding fold coded_step_chroma
    both_more k h b =
        let mp = mode_for_both l p k (ran p k) in
        let mq = mode_for_both l q k (ran q k) in
        record {
          cbs_before = alike_more 8 l In closed k (plane_step_chroma l (chroma_of qp cb_offset) p.cb mp k) (plane_step_chroma l (chroma_of qp cb_offset) q.cb mq k)
              (plane_step_chroma_law l some k h (chroma_of qp cb_offset) p.cb mp) (plane_step_chroma_law l some k h (chroma_of qp cb_offset) q.cb mq) _ _ b.cbs_before
              (λ is. step_own_chroma (chroma_of qp cb_offset) k p.cb q.cb (cb_whole k h is) (mode_same k h is b) (ran q k).cb);
          crs_before = alike_more 8 l In closed k (plane_step_chroma l (chroma_of qp cr_offset) p.cr mp k) (plane_step_chroma l (chroma_of qp cr_offset) q.cr mq k)
              (plane_step_chroma_law l some k h (chroma_of qp cr_offset) p.cr mp) (plane_step_chroma_law l some k h (chroma_of qp cr_offset) q.cr mq) _ _ b.crs_before
              (λ is. step_own_chroma (chroma_of qp cr_offset) k p.cr q.cr (cr_whole k h is) (mode_same k h is b) (ran q k).cr);
        }

    both_before_law : (k : ℕ) → k ≤ count_of l → BothBefore k
    unfolding fold
    both_before_law zero most = record {
      cbs_before = record { this = long.cbs; that = long.cbs; agree = λ i h v. absurd (omega (arith, v.0)) };
      crs_before = record { this = long.crs; that = long.crs; agree = λ i h v. absurd (omega (arith, v.0)) };
    }
    both_before_law (suc k) most = both_more k (omega arith) (both_before_law k (omega arith))

    record_own_chroma : (m : ℕ) → m < count_of l → In m → (b : Both) → record_from_chroma l qp cb_offset cr_offset p m b ≡ record_from_chroma l qp cb_offset cr_offset q m b
    unfolding record_from_chroma levels_chroma
    record_own_chroma m h e b =
        λ i. record_chroma m cb_offset cr_offset (mode_own m h e b i)
        (whole_levels 8 (chroma_of qp cb_offset) (cb_whole m h e i) (prediction_chroma l (mode_own m h e b i) m (gathered_round 8 l m b.cb))
        ++ whole_levels 8 (chroma_of qp cr_offset) (cr_whole m h e i) (prediction_chroma l (mode_own m h e b i) m (gathered_round 8 l m b.cr)))

    pub chroma_records : (m : ℕ) → m < count_of l → In m
        → record_from_chroma l qp cb_offset cr_offset p m (both_before l qp cb_offset cr_offset p start m) ≡ record_from_chroma l qp cb_offset cr_offset q m (both_before l qp cb_offset cr_offset q start m)
    unfolding both_before
    chroma_records m h e =
        record_looks_chroma l some m h p qp cb_offset cr_offset (ran p m) (ran q m) (both_seen m e (both_before_law m (omega arith))) ∙ record_own_chroma m h e (ran q m)

    pub cb_samples : SameIn 8 l these (both_before l qp cb_offset cr_offset p start (count_of l)).cb (both_before l qp cb_offset cr_offset q start (count_of l)).cb
    unfolding both_before
    cb_samples i h e = (both_before_law (count_of l) (omega arith)).cbs_before.agree i h (macroblock_lt 8 (omega arith) l some i h, e)

    pub cr_samples : SameIn 8 l these (both_before l qp cb_offset cr_offset p start (count_of l)).cr (both_before l qp cb_offset cr_offset q start (count_of l)).cr
    unfolding both_before
    cr_samples i h e = (both_before_law (count_of l) (omega arith)).crs_before.agree i h (macroblock_lt 8 (omega arith) l some i h, e)
