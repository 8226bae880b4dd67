-- Planes of bytes: a block's neighbours and its samples are bytes, and a plane stays one of bytes while blocks of bytes are stored into it.
--     length_gathered, gathered_bytes, block_bytes, stored_bytes
--     MakesBytes: turn_bytes, turns_bytes     where each block of n by n is made of bytes into bytes
-- Assumes nothing.
use mathlib.Core.Path.{◌≡◌}
use mathlib.Core.List.{List}
use Prim.Native.Nat.{ℕ, ◌+◌, ◌*◌}
use native.Mathlib.Omega.{arith}
use lib.ListN.{length, get_or}
use Rattle.lists.specs.Fold.{fold}
use Rattle.lists.specs.Bytes.{Bytes}
use Rattle.lists.proofs.Bytes.{byte_cond, bytes_tab, bytes_grid, bytes_stores}
use Rattle.lists.proofs.Fold.{fold_keeps}
use Rattle.lists.proofs.Tab.{length_tab}
use Rattle.picture.specs.declared.Layout.{Layout}
use Rattle.picture.specs.Order.{covers, block_column, block_row}
use Rattle.picture.specs.Presence.{present_at}
use Rattle.picture.specs.Plane.{stride, sample_place, block_at, stored, neighbour, gathered, turn, first_turns}

module _ (n : ℕ) (l : Layout) (m b : ℕ) (plane : List ℕ) where
  pub length_gathered : length (gathered n l m b plane) ≡ 3 * n + 1
  unfolding gathered
  length_gathered = length_tab (3 * n + 1) (neighbour n l m b plane)

  pub gathered_bytes : Bytes plane → Bytes (gathered n l m b plane)
  unfolding gathered neighbour
  gathered_bytes bytes = bytes_tab (3 * n + 1) (neighbour n l m b plane) (λ k h. byte_cond (present_at n l m b k) (bytes.byte _) (omega arith))

module _ (n s x y : ℕ) where
  pub block_bytes : (plane : List ℕ) → Bytes plane → Bytes (block_at n s x y plane)
  unfolding block_at
  block_bytes plane bytes = bytes_grid n _ (λ i j. bytes.byte _)

  pub stored_bytes : (block plane : List ℕ) → Bytes block → Bytes plane → Bytes (stored n s x y block plane)
  unfolding stored
  stored_bytes block plane own bytes = bytes_stores (n * n) (sample_place n s x y) (λ k. get_or block k 0) plane (λ k h. own.byte k) bytes

-- of the neighbours of n by n samples, which are bytes, it makes bytes
abbrev pub MakesBytes : (n : ℕ) (make : ℕ → ℕ → List ℕ → List ℕ) → Type 0
MakesBytes n make = (m b : ℕ) (neighbours : List ℕ) → length neighbours ≡ 3 * n + 1 → Bytes neighbours → Bytes (make m b neighbours)

module _ (n : ℕ) (make : ℕ → ℕ → List ℕ → List ℕ) (makes : MakesBytes n make) (l : Layout) where
  pub turn_bytes : (m b : ℕ) (plane : List ℕ) → Bytes plane → Bytes (turn n make l m b plane)
  unfolding turn
  turn_bytes m b plane bytes =
      stored_bytes n (stride 16 l) (block_column l m b) (block_row l m b) (make m b (gathered n l m b plane)) plane
      (makes m b (gathered n l m b plane) (length_gathered n l m b plane) (gathered_bytes n l m b plane bytes)) bytes

  pub turns_bytes : (m k : ℕ) (plane : List ℕ) → Bytes plane → Bytes (first_turns n make l m k plane)
  unfolding first_turns
  turns_bytes m k plane bytes =
      fold_keeps (λ j p. Bytes p) k (λ j. turn n make l m (covers n * j)) plane bytes
      (λ j h e. turn_bytes m (covers n * j) (fold j (λ i. turn n make l m (covers n * i)) plane) e)
