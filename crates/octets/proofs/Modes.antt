-- Modes in bytes.
--     length_packed     how many bytes there are
--     packed_back       what is packed comes back
-- Assumes nothing.
use Rattle.std.proofs.Common.{◌≡◌, ℕ, ◌+◌, ◌*◌, ◌/◌, ◌%◌, ◌<◌, Bool, true, false, cond, eqb, List, length, get_or, refl, ap, ◌∙◌, arith, eqb-true}
use borrow.Author.Tests.{eqb-false}
use Rattle.lists.proofs.Tab.{length_tab, get_d_tab}
use Rattle.octets.specs.Modes.{paired, packed, unpaired}

module _ (modes : List ℕ) where
  -- byte k
  abbrev pair_at : ℕ → ℕ
  pair_at k = paired (get_or modes (2 * k) 0) (get_or modes (2 * k + 1) 0)

  pub length_packed : (n : ℕ) → length (packed n modes) ≡ n
  unfolding packed
  length_packed n = length_tab n pair_at

  module _ (small : (k : ℕ) → get_or modes k 0 < 16) where
    half : (block : ℕ) (low : Bool) → eqb (block % 2) 0 ≡ low → cond low (pair_at (block / 2) % 16) (pair_at (block / 2) / 16) ≡ get_or modes block 0
    half block true e =
        let q : 2 * (block / 2) ≡ block = omega (arith, eqb-true (block % 2) 0 e) in
        let s = small (2 * (block / 2)) in
        rw (← (ap (λ (i : ℕ). get_or modes i 0) q)) (omega arith)
    half block false e =
        let q : 2 * (block / 2) + 1 ≡ block = omega (arith, eqb-false (block % 2) 0 e) in
        let s = small (2 * (block / 2)) in
        rw (← (ap (λ (i : ℕ). get_or modes i 0) q)) (omega arith)

    pub packed_back : (n block : ℕ) → block < 2 * n → unpaired block (get_or (packed n modes) (block / 2) 0) ≡ get_or modes block 0
    unfolding packed
    packed_back n block h = ap (unpaired block) (get_d_tab n pair_at (block / 2) 0 (omega arith)) ∙ half block (eqb (block % 2) 0) refl
