-- Neighbours that are bytes predict bytes, 256 of them in every permitted mode, and the chosen mode is a permitted one.
--     plane_keeps, mask_bytes                      a plane's samples are bytes, and what the mask leaves of bytes; over n
--     predicted_bytes, predicted_long              of every mode: its samples are bytes; where the flags permit it they are 256
--     best_bytes, chosen_long, chosen_low          of the best: its samples are bytes; of the chosen: they are 256, and its SAD has 16 bits
--     picks_permitted, picks_bytes, picks_long, picks_low     the same of what a choice answers and leaves
-- Assumes nothing.
use mathlib.Core.Path.{◌≡◌, sym, ap, ◌∙◌}
use mathlib.Core.Bool.{true}
use mathlib.Core.List.{List}
use Prim.Native.Nat.{ℕ, ◌+◌, ◌<◌, ◌≤◌}
use native.Mathlib.Omega.{arith}
use lib.Dec.{eqb, eqb→eq}
use lib.IntN.{ℤ}
use lib.ListN.{length}
use Rattle.lists.specs.Bytes.{Bytes}
use Rattle.lists.specs.Tab.{tab, grid}
use Rattle.lists.proofs.Every.{every_at}
use Rattle.lists.proofs.Bytes.{bytes_none, bytes_take, bytes_drop, bytes_grid}
use Rattle.whole.specs.Clip.{clip}
use Rattle.whole.proofs.Order.{clip_le}
use Rattle.choice.specs.declared.inner.Standing.{Standing}
use Rattle.choice.specs.Choice.{Best, nothing, at}
use Rattle.intra4.specs.Samples.{Round}
use Rattle.intra4.specs.Rules.{none, samples_of, vertical, horizontal}
use Rattle.intra4.proofs.Bytes.{RoundBytes, KeepsBoth, masked_bytes, vertical_keeps, horizontal_keeps, mean_byte, one_bytes, three_of}
use Rattle.intra4.proofs.Least.{cost_low}
use Rattle.intra4.proofs.Masked.{samples_by}
use Rattle.intra4.proofs.Modes.{each_of}
use Rattle.sides.specs.Samples.{mask}
use Rattle.sides.specs.Plane.{slanted, plane}
use Rattle.sides.specs.Rules.{modes, predicted, permitted}
use Rattle.sides.specs.Choice.{chosen, best_samples, Picks}
use Rattle.sides.specs.Code.{filled}
use Rattle.sides.proofs.Masked.{predicted_is, mode_below_4}
use Rattle.sides.proofs.Least.{chosen_least, permitted_cost, chosen_mode}

-- ---- the modes: of bytes each makes bytes

byte_clip : (z : ℤ) → clip 255 z < 256
byte_clip z = omega (arith, clip_le 255 z)

pub plane_keeps : (n : ℕ) → KeepsBoth (plane n)
unfolding plane slanted
plane_keeps n T S t s x y = byte_clip _

mode_bytes : (r : Round) → RoundBytes r → (m : ℕ) → Bytes (samples_of (predicted r m))
unfolding predicted
mode_bytes r b m =
    each_of (λ p. Bytes (samples_of p)) none bytes_none (modes r) (
      one_bytes 16 r.above b.above vertical vertical_keeps,
      (
        one_bytes 16 r.left b.left horizontal horizontal_keeps,
        (
          bytes_grid 16 _ (λ x y. mean_byte 16 (omega arith) r.above r.left b.above b.left),
          (
            three_of r b 16 (plane 16) (plane_keeps 16),
            tt,
          ),
        ),
      ),
    ) m

pub mask_bytes : (n : ℕ) (l : List ℕ) (f : ℕ) → Bytes l → RoundBytes (mask n l f)
mask_bytes n l f b = masked_bytes f (bytes_take n _ (bytes_drop 1 l b)) (bytes_take n _ (bytes_drop (n + 1) l b)) (bytes_take 1 l b)

length_filled : (above left corner : List ℕ) (f m : ℕ) → m < 4 → length (filled above left corner f m) ≡ 256
unfolding filled grid tab
length_filled above left corner f m h = eqb→eq _ _ (every_at 4 (λ i. eqb (length (filled above left corner f i)) 256) tt m h)

-- ---- the theorems

module _ (l : List ℕ) (f : ℕ) where
  pub predicted_bytes : Bytes l → (m : ℕ) → Bytes (samples_of (predicted (mask 16 l f) m))
  predicted_bytes b m = mode_bytes (mask 16 l f) (mask_bytes 16 l f b) m

  pub predicted_long : (m : ℕ) → permitted f m ≡ true → length (samples_of (predicted (mask 16 l f) m)) ≡ 256
  predicted_long m p = ap length (sym (samples_by (permitted f m) _ (predicted_is l f m) p)) ∙ length_filled _ _ _ f m (mode_below_4 f m p)

  pub best_bytes : Bytes l → (best : Best) → Bytes (best_samples (mask 16 l f) best)
  best_bytes b nothing = bytes_none
  best_bytes b (at m s) = predicted_bytes b m

  module _ (block : List ℕ) where
    pub chosen_long : length (best_samples (mask 16 l f) (chosen (mask 16 l f) block)) ≡ 256
    chosen_long =
        let c = chosen_mode l f block in
        ap (λ (b : Best). length (best_samples (mask 16 l f) b)) c.is ∙ predicted_long c.mode c.allowed

    pub chosen_low : Bytes l → Bytes block → (m s : ℕ) → chosen (mask 16 l f) block ≡ at m s → s ≤ 65280
    chosen_low b o m s e =
        cost_low 16 block (predicted (mask 16 l f) m) (predicted_bytes b m) o (chosen_least (mask 16 l f) block m s e).costs

  module _ (block : List ℕ) (r : Standing) (after : List ℕ) (p : Picks (mask 16 l f) block r after) where
    -- what is chosen is a mode, and the flags permit it
    pub picks_permitted : (r.mode < 4) × (permitted f r.mode ≡ true)
    picks_permitted =
        let w = chosen_least (mask 16 l f) block r.mode r.cost (sym p.best) in
        (w.within, permitted_cost l f block r.mode r.cost w.costs)

    pub picks_bytes : Bytes l → Bytes after
    picks_bytes b = rw p.prediction (predicted_bytes b r.mode)

    pub picks_long : length after ≡ 256
    picks_long = ap length p.prediction ∙ predicted_long r.mode picks_permitted.1

    pub picks_low : Bytes l → Bytes block → r.cost ≤ 65280
    picks_low b o = chosen_low block b o r.mode r.cost (sym p.best)
