-- A run of samples that is copied at once.
--     run_pasted     it is stored sample by sample
-- Assumes nothing.
use mathlib.Core.Path.{◌≡◌, refl, sym, ◌∙◌}
use mathlib.Core.Bool.{Bool, true, false}
use mathlib.Core.List.{List}
use Prim.Native.Nat.{ℕ, ◌+◌, ◌-◌, ◌<◌, ◌≤◌}
use native.Mathlib.Omega.{arith}
use borrow.Author.Rules.{rules}
use borrow.Author.Tests.{ltb-true, ltb-false}
use borrow.Rule.Slice.PartMut.{put_mid}
use lib.Dec.{ltb}
use lib.ListN.{length, get_or}
use lib.Seq.{ext_get_or}
use Rattle.std.proofs.lemmas.List.{places}
use Rattle.lists.specs.Stores.{stores}
use Rattle.lists.proofs.Stores.{length_stores, get_d_stores_at, get_d_stores_off}

module _ (d w : List ℕ) (a n : ℕ) (room : a + n ≤ length d) (long : length w ≡ n) where
  before : (i : ℕ) → i < a → get_or (put_mid a (a + n - a) d w) i 0 ≡ get_or d i 0
  before i h = search (rules, places)

  behind : (i : ℕ) → a + n ≤ i → i < length d → get_or (put_mid a (a + n - a) d w) i 0 ≡ get_or d i 0
  behind i h l = search (rules, places)

  among : (k : ℕ) → k < n → get_or (put_mid a (a + n - a) d w) (a + k) 0 ≡ get_or w k 0
  among k h = search (rules, places)

  long_as : length (put_mid a (a + n - a) d w) ≡ length d
  long_as = search (rules, places)

  module _ (v : ℕ → ℕ) (is : (k : ℕ) → k < n → get_or w k 0 ≡ v k) where
    pub run_pasted : put_mid a (a + n - a) d w ≡ stores n (λ k. a + k) v d
    run_pasted =
        ext_get_or 0 (put_mid a (a + n - a) d w) (stores n (λ k. a + k) v d)
        (long_as ∙ sym (length_stores (λ k. a + k) v n d))
        (λ i h. by_case i (rw long_as at h) (ltb i a) (ltb i (a + n)) refl refl)
      where
        by_case : (i : ℕ) → i < length d → (s t : Bool) → ltb i a ≡ s → ltb i (a + n) ≡ t
            → get_or (put_mid a (a + n - a) d w) i 0 ≡ get_or (stores n (λ k. a + k) v d) i 0
        by_case i h true t e f = before i (ltb-true i a e) ∙ sym (get_d_stores_off (λ k. a + k) v n d i 0 (λ k l z. omega (arith, ltb-true i a e)))
        by_case i h false false e f =
            behind i (ltb-false i (a + n) f) h ∙ sym (get_d_stores_off (λ k. a + k) v n d i 0 (λ k l z. omega (arith, ltb-false i (a + n) f)))
        by_case i h false true e f =
            let k : i ≡ a + (i - a) = omega (arith, ltb-false i a e) in
            let l : i - a < n = omega (arith, ltb-false i a e, ltb-true i (a + n) f) in
            rw k (among (i - a) l ∙ is (i - a) l ∙ sym (get_d_stores_at (λ j. a + j) v n d (i - a) 0 (λ j m z. omega arith) l (omega arith)))
