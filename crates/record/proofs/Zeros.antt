-- Levels of a block that are all 0, by the bytes that they are.
--     byte_of, zero_bytes           their bytes, which are then 0
--     zero_part, other_byte        that they are as many zeros says it, and so does one byte that is another
--     same_flag                    an answer of yes or no is known by what it says yes to
-- Assumes nothing.
use mathlib.Core.Path.{◌≡◌, refl, sym, ap, subst, ◌∙◌}
use mathlib.Core.Bool.{Bool, true, false}
use mathlib.Core.List.{List}
use mathlib.Core.Logic.{◌↔◌}
use Prim.Native.Nat.{ℕ, ◌+◌, ◌*◌, ◌/◌, ◌<◌}
use native.Mathlib.Omega.{arith}
use borrow.Author.Tests.{eqb-true, eqb-false}
use lib.Dec.{eqb}
use lib.IntN.{ℤ, pos}
use lib.ListN.{length, get_or, replicate, get_or-replicate}
use lib.Seq.{ext_get_or}
use mir.Syntax.{w16}
use mir.Val.{of_z, to_z}
use mir.ValLaws.{of_z-to_z}
use Rattle.std.specs.Cmp.Lexicographic.{pointwise}
use Rattle.std.proofs.lemmas.Bool.Decides.{Decides-eqb}
use Rattle.std.proofs.lemmas.Slice.Eq.{slice_eq-Decides}
use Rattle.lists.specs.Bytes.{Bytes}
use Rattle.lists.specs.Tab.{tab}
use Rattle.lists.proofs.Tab.{get_d_tab, tab_same}
use Rattle.octets.specs.Numbers.{number_at}
use Rattle.record.specs.Kinds.{in_fours}
use Rattle.record.specs.Records.{level_in, levels_in}

abbrev pub byte_of : List ℕ → (block k : ℕ) → ℕ
byte_of part block k = get_or part (in_fours.front + 32 * block + k) 0

abbrev AllZero : List ℕ → (block : ℕ) → Type 0
AllZero part block = levels_in block part ≡ tab 16 (λ k. pos 0)

-- a place is the first or the second of a pair
by_pairs : (P : ℕ → Type 0) (k : ℕ) → P (2 * (k / 2)) → P (2 * (k / 2) + 1) → P k
by_pairs P k first second = by_case (eqb k (2 * (k / 2))) refl
  where
    by_case : (b : Bool) → eqb k (2 * (k / 2)) ≡ b → P k
    by_case true e = subst P (sym (eqb-true k (2 * (k / 2)) e)) first
    by_case false e = let other = eqb-false k (2 * (k / 2)) e in subst P (let z : 2 * (k / 2) + 1 ≡ k = omega arith in z) second

module _ (part : List ℕ) (block : ℕ) where
  -- level j is two of the bytes
  number_is : (j : ℕ) → number_at (in_fours.front + 2 * (16 * block + j)) part ≡ byte_of part block (2 * j) * 256 + byte_of part block (2 * j + 1)
  number_is j =
      let at : in_fours.front + 2 * (16 * block + j) ≡ in_fours.front + 32 * block + 2 * j = omega arith in
      let next : in_fours.front + 2 * (16 * block + j) + 1 ≡ in_fours.front + 32 * block + (2 * j + 1) = omega arith in
      λ i. get_or part (at i) 0 * 256 + get_or part (next i) 0

  zero_levels : ((k : ℕ) → k < 32 → byte_of part block k ≡ 0) → AllZero part block
  unfolding levels_in
  zero_levels h =
      tab_same 16 _ _
      (λ j l. ap (to_z w16) (number_is j ∙ (let z : byte_of part block (2 * j) * 256 + byte_of part block (2 * j + 1) ≡ 0 = omega (arith, h (2 * j) (omega arith), h (2 * j + 1) (omega arith)) in z)))

  zero_bytes : Bytes part → AllZero part block → (k : ℕ) → k < 32 → byte_of part block k ≡ 0
  unfolding levels_in
  zero_bytes bytes e k l =
      let j = k / 2 in
      let n = byte_of part block (2 * j) * 256 + byte_of part block (2 * j + 1) in
      let high = bytes.byte (in_fours.front + 32 * block + 2 * j) in
      let low = bytes.byte (in_fours.front + 32 * block + (2 * j + 1)) in
      let is : level_in block j part ≡ pos 0 =
      sym (get_d_tab 16 (λ i. level_in block i part) j (pos 0) (omega arith)) ∙ ap (λ (z : List ℤ). get_or z j (pos 0)) e ∙ get_d_tab 16 (λ i. pos 0) j (pos 0) (omega arith) in
      let none : n ≡ 0 = sym (of_z-to_z w16 n (record { fits = omega arith })) ∙ ap (of_z w16) (ap (to_z w16) (sym (number_is j)) ∙ is) in
      by_pairs (λ i. byte_of part block i ≡ 0) k (omega arith) (omega arith)

  module _ (bytes : Bytes part) where
    pub other_byte : (k : ℕ) → k < 32 → (byte_of part block k ≡ 0 → ⊥) → (eqb (byte_of part block k) 0 ≡ true) ↔ AllZero part block
    other_byte k l h = (λ z. absurd (h (eqb-true (byte_of part block k) 0 z)), λ e. absurd (h (zero_bytes bytes e k l)))

    pub zero_part : (w : List ℕ) (r : Bool) → length w ≡ 32 → ((k : ℕ) → k < 32 → get_or w k 0 ≡ byte_of part block k)
        → r ≡ pointwise eqb w (replicate 32 0) → (r ≡ true) ↔ AllZero part block
    zero_part w r long is e =
        let same = slice_eq-Decides Decides-eqb w (replicate 32 0) r e in (
          λ z. zero_levels (λ k l. sym (is k l) ∙ ap (λ (v : List ℕ). get_or v k 0) (same.0 z) ∙ get_or-replicate 32 k 0 0 l),
          λ z. same.1 (ext_get_or 0 w (replicate 32 0) long
              (λ k h. let l : k < 32 = omega arith in is k l ∙ zero_bytes bytes z k l ∙ sym (get_or-replicate 32 k 0 0 l))),
        )

pub same_flag : {P : Type 0} (x y : Bool) → (x ≡ true) ↔ P → (y ≡ true) ↔ P → x ≡ y
same_flag true y p q = sym (q.1 (p.0 refl))
same_flag false true p q = p.1 (q.0 refl)
same_flag false false p q = refl
