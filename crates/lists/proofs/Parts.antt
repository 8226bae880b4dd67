-- Lists that grow from the front, by stores and by lent parts that come home, and parts pasted into a list.
--     Growing: growing_none, growing_more, growing_part, growing_done       the first n elements are v
--     copied                                                                a whole list copied over another
--     parts_more, parts_same                                                parts one behind the other; equal rules
--     parts_split, parts_front, part_behind                                 what stands before part k and behind it
--     length_parts, parts_at                                                where all parts are of one size
--     part_home, front_home                                                 a lent part that comes home, as a paste; at the front
-- Assumes nothing.
use mathlib.Core.Path.{◌≡◌, refl, sym, ap, ◌∙◌}
use mathlib.Core.List.{List, [], ◌∷◌, ◌++◌, append_assoc, append-nil}
use mathlib.Core.Logic.{⊎_elim}
use Prim.Native.Nat.{ℕ, zero, suc, ◌+◌, ◌-◌, ◌*◌, ◌<◌, ◌≤◌, zero-le}
use native.Mathlib.Nat.{not-suc-le-zero, le_of_suc-le-suc, eq-or-lt_of_le, mul-le-mul_left}
use native.Mathlib.Numerals.{add-one}
use native.Mathlib.Omega.{arith}
use borrow.Rule.Slice.PartMut.{put_mid, post_of, Post-is}
use lib.ListN.{length, set, take, drop, length-append, length-set, length-drop, drop_of_length-le}
use lib.Seq.{take-suc-set, take_all, take-length, take_at, take-append-le, drop_at, drop-append-le, length-take-le}
use Rattle.lists.specs.Parts.{parts, pasted, over}

module _ {A : Type 0} where
  -- ---- growing

  -- the first n elements of d are v
  pub record Growing (d v : List A) (n : ℕ) : Type 0 where
    pub room : n ≤ length d
    pub is : take n d ≡ v

  pub growing_none : (d : List A) → Growing d [] 0
  growing_none d = record { room = zero-le; is = refl }

  -- a store behind what has grown
  pub growing_more : {d v : List A} {n : ℕ} (x : A) → Growing d v n → n < length d → Growing (set d n x) (v ++ (x ∷ [])) (n + 1)
  growing_more {d} {v} {n} x g h = record {
    room = simp length-set (omega arith);
    is = rw (add-one, take-suc-set d n x h) (ap (λ (l : List A). l ++ (x ∷ [])) g.is);
  }

  -- the part from a to e was lent behind what has grown, and has come home as w
  pub growing_part : {d v : List A} {a : ℕ} (w : List A) (e : ℕ) → Growing d v a → a ≤ e → e ≤ length d → length w ≡ e - a → Growing (put_mid a (e - a) d w) (v ++ w) e
  growing_part {d} {v} {a} w e g h k l =
      let m : length (take a d ++ w) ≡ e = omega (arith, length-append (take a d) w, length-take-le a d g.room) in
      let s : (take a d ++ w) ++ post_of a (e - a) d ≡ put_mid a (e - a) d w = append_assoc (take a d) w (post_of a (e - a) d) in
      record {
        room = rw (sym s) (omega (arith, length-append (take a d ++ w) (post_of a (e - a) d)));
        is = rw (sym s) (take_at (take a d ++ w) (post_of a (e - a) d) e m ∙ ap (λ (l : List A). l ++ w) g.is);
      }

  pub growing_done : {d v : List A} {n : ℕ} → Growing d v n → length d ≤ n → d ≡ v
  growing_done {d} {v} {n} g h = sym (take_all n d h) ∙ g.is

  -- s copied over the front of a list that is as long
  pub copied : (s d : List A) → length s ≡ length d → take (length s) s ++ drop (length s) d ≡ s
  copied s d e = rw (take-length s, drop_of_length-le d {i = length s} (omega arith)) (append-nil s)

  -- ---- parts one behind the other

  pub parts_more : (n : ℕ) (f : ℕ → List A) → parts (n + 1) f ≡ parts n f ++ f n
  unfolding parts
  parts_more n f = rw add-one

  pub parts_same : (n : ℕ) (f g : ℕ → List A) → ((k : ℕ) → k < n → f k ≡ g k) → parts n f ≡ parts n g
  unfolding parts
  parts_same zero f g h = refl
  parts_same (suc n) f g h = rw (parts_same n f g (λ k l. h k (omega arith)), h n (omega arith))

  module _ (size : ℕ) (f : ℕ → List A) where
    pub length_parts : (n : ℕ) → ((k : ℕ) → k < n → length (f k) ≡ size) → length (parts n f) ≡ size * n
    unfolding parts
    length_parts zero e = omega arith
    length_parts (suc n) e = omega (arith, length-append (parts n f) (f n), length_parts n (λ k l. e k (omega arith)), e n (omega arith))

    -- part m is read from its place
    pub parts_at : (n m : ℕ) → ((k : ℕ) → k < n → length (f k) ≡ size) → m < n → take size (drop (size * m) (parts n f)) ≡ f m
    unfolding parts
    parts_at zero m e h = absurd (not-suc-le-zero h)
    parts_at (suc n) m e h =
        let d : (k : ℕ) → k < n → length (f k) ≡ size = λ k l. e k (omega arith) in
        let long = length_parts n d in
        ⊎_elim
        (λ (q : m ≡ n).
        rw q (ap (take size) (drop_at (parts n f) (f n) (size * n) long) ∙ take_all size (f n) (omega (arith, e n (omega arith)))))
        (λ (l : m < n).
        let r : size * m + size ≤ length (parts n f) = omega (arith, long, mul-le-mul_left size l) in
        ap (take size) (drop-append-le (size * m) (parts n f) (f n) (omega arith))
        ∙ take-append-le size (drop (size * m) (parts n f)) (f n) (simp length-drop (omega arith))
        ∙ parts_at n m d l)
        (eq-or-lt_of_le (le_of_suc-le-suc h))

  -- the first k parts and then the others
  pub parts_split : (k d : ℕ) (f : ℕ → List A) → parts (k + d) f ≡ parts k f ++ parts d (λ i. f (k + i))
  unfolding parts
  parts_split k zero f = let z : k + zero ≡ k = omega arith in rw z (sym (append-nil (parts k f)))
  parts_split k (suc d) f =
      let z : k + suc d ≡ suc (k + d) = omega arith in
      rw z (ap (λ (l : List A). l ++ f (k + d)) (parts_split k d f) ∙ append_assoc (parts k f) (parts d (λ i. f (k + i))) (f (k + d)))

  -- a head and the first m parts stand before the others
  pub parts_front : (head : List A) (n m : ℕ) (f : ℕ → List A) → m ≤ n → take (length (head ++ parts m f)) (head ++ parts n f) ≡ head ++ parts m f
  parts_front head n m f h =
      let z : n ≡ m + (n - m) = omega arith in
      let others = parts (n - m) (λ i. f (m + i)) in
      let e : head ++ parts n f ≡ (head ++ parts m f) ++ parts (n - m) (λ i. f (m + i)) =
      ap (λ (i : ℕ). head ++ parts i f) z ∙ ap (λ (l : List A). head ++ l) (parts_split m (n - m) f) ∙ sym (append_assoc head (parts m f) others) in
      ap (take (length (head ++ parts m f))) e ∙ take_at (head ++ parts m f) others (length (head ++ parts m f)) refl

  -- behind a head and the first k parts stands part k
  pub part_behind : (head : List A) (n k : ℕ) (f : ℕ → List A) → k < n
      → drop (length (head ++ parts k f)) (head ++ parts n f) ≡ f k ++ parts (n - suc k) (λ i. f (suc k + i))
  unfolding parts
  part_behind head n k f h =
      let z : n ≡ suc k + (n - suc k) = omega arith in
      let others = parts (n - suc k) (λ i. f (suc k + i)) in
      let e : head ++ parts n f ≡ (head ++ parts k f) ++ (f k ++ parts (n - suc k) (λ i. f (suc k + i))) =
      ap (λ (i : ℕ). head ++ parts i f) z
      ∙ ap (λ (l : List A). head ++ l) (parts_split (suc k) (n - suc k) f ∙ append_assoc (parts k f) (f k) others)
      ∙ sym (append_assoc head (parts k f) (f k ++ others)) in
      ap (drop (length (head ++ parts k f))) e ∙ drop_at (head ++ parts k f) (f k ++ others) (length (head ++ parts k f)) refl

  -- ---- pasting

  -- a lent part that comes home as w is w pasted in its place
  pub part_home : (d w : List A) (a e : ℕ) → a ≤ e → length w ≡ e - a → put_mid a (e - a) d w ≡ pasted a w d
  part_home d w a e h l =
      let z : e ≡ a + length w = omega arith in
      sym (append_assoc (take a d) w (post_of a (e - a) d))
      ∙ ap (λ (t : List A). (take a d ++ w) ++ t) (Post-is a e d h)
      ∙ ap (λ (n : ℕ). (take a d ++ w) ++ drop n d) z

  -- at the front it goes over what stood there
  pub front_home : (d w : List A) (e : ℕ) → length w ≡ e - 0 → put_mid 0 (e - 0) d w ≡ over w d
  front_home d w e l = let z : 0 + length w ≡ length w = omega arith in part_home d w 0 e (omega arith) l ∙ ap (λ (n : ℕ). w ++ drop n d) z
