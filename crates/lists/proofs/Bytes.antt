-- Lists of bytes, by place: past the end `get_or` gives 0, which is a byte, so no length is asked.
--     bytes_known                                                   what a slice of u8 is known to hold
--     bytes_none, bytes_cons, bytes_tail                            by the list's two shapes
--     bytes_append, bytes_take, bytes_drop, bytes_replicate         parts of bytes, and what is put together of bytes
--     byte_cond, bytes_cond                                         one of two
--     bytes_tab, bytes_grid, bytes_stores                           what the loops leave whose rule gives bytes
-- Assumes nothing.
use mathlib.Core.Bool.{Bool, true, false, cond}
use mathlib.Core.List.{List, [], ◌∷◌, ◌++◌}
use Prim.Native.Nat.{ℕ, zero, suc, ◌+◌, ◌*◌, ◌/◌, ◌%◌, ◌<◌}
use native.Mathlib.Omega.{arith}
use lib.ListN.{get_or, take, drop, set, replicate}
use lib.Seq.{get_or-drop}
use mir.Syntax.{w8}
use mir.Val.{Fits}
use Rattle.lists.specs.Bytes.{Bytes}
use Rattle.lists.specs.Stores.{stores}
use Rattle.lists.specs.Tab.{tab, grid, in_raster}

-- as `c.shared-slice-known.given` says it of a slice
pub bytes_known : (l : List ℕ) → ((k : ℕ) → Fits w8 (get_or l k 0)) → Bytes l
bytes_known l h = record { byte = λ k. omega (arith, h k) }

pub bytes_none : Bytes []
bytes_none = record { byte = λ k. omega arith }

pub bytes_cons : {a : ℕ} {l : List ℕ} → a < 256 → Bytes l → Bytes (a ∷ l)
bytes_cons {a} {l} h b = record { byte = at }
  where
    at : (k : ℕ) → get_or (a ∷ l) k 0 < 256
    at zero = h
    at (suc k) = b.byte k

pub bytes_tail : {a : ℕ} {l : List ℕ} → Bytes (a ∷ l) → Bytes l
bytes_tail b = record { byte = λ k. b.byte (suc k) }

-- ---- parts

pub bytes_append : (l r : List ℕ) → Bytes l → Bytes r → Bytes (l ++ r)
bytes_append [] r b c = c
bytes_append (a ∷ l) r b c = bytes_cons (b.byte 0) (bytes_append l r (bytes_tail b) c)

pub bytes_take : (n : ℕ) (l : List ℕ) → Bytes l → Bytes (take n l)
bytes_take zero l b = bytes_none
bytes_take (suc n) [] b = bytes_none
bytes_take (suc n) (a ∷ l) b = bytes_cons (b.byte 0) (bytes_take n l (bytes_tail b))

pub bytes_drop : (n : ℕ) (l : List ℕ) → Bytes l → Bytes (drop n l)
bytes_drop n l b = record { byte = λ k. rw (get_or-drop n l k 0) (b.byte (n + k)) }

pub bytes_replicate : (n : ℕ) {a : ℕ} → a < 256 → Bytes (replicate n a)
bytes_replicate zero h = bytes_none
bytes_replicate (suc n) h = bytes_cons h (bytes_replicate n h)

-- ---- one of two

pub byte_cond : (t : Bool) {a b : ℕ} → a < 256 → b < 256 → cond t a b < 256
byte_cond true h k = h
byte_cond false h k = k

pub bytes_cond : (t : Bool) {l r : List ℕ} → Bytes l → Bytes r → Bytes (cond t l r)
bytes_cond true b c = b
bytes_cond false b c = c

-- ---- what loops leave

pub bytes_tab : (n : ℕ) (f : ℕ → ℕ) → ((k : ℕ) → k < n → f k < 256) → Bytes (tab n f)
unfolding tab
bytes_tab zero f h = bytes_none
bytes_tab (suc n) f h = bytes_append (tab n f) (f n ∷ []) (bytes_tab n f (λ k l. h k (omega arith))) (bytes_cons (h n (omega arith)) bytes_none)

pub bytes_grid : (n : ℕ) (rule : ℕ → ℕ → ℕ) → ((x y : ℕ) → rule x y < 256) → Bytes (grid n rule)
unfolding grid
bytes_grid n rule h = bytes_tab (n * n) (in_raster n rule) (λ k l. h (k % n) (k / n))

bytes_set : (l : List ℕ) (n : ℕ) {a : ℕ} → Bytes l → a < 256 → Bytes (set l n a)
bytes_set [] n b h = bytes_none
bytes_set (x ∷ l) zero b h = bytes_cons h (bytes_tail b)
bytes_set (x ∷ l) (suc n) b h = bytes_cons (b.byte 0) (bytes_set l n (bytes_tail b) h)

pub bytes_stores : (n : ℕ) (p v : ℕ → ℕ) (d : List ℕ) → ((k : ℕ) → k < n → v k < 256) → Bytes d → Bytes (stores n p v d)
unfolding stores
bytes_stores zero p v d h b = b
bytes_stores (suc n) p v d h b = bytes_set (stores n p v d) (p n) (bytes_stores n p v d (λ k l. h k (omega arith)) b) (h n (omega arith))
