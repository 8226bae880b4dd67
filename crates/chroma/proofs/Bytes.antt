-- Neighbours that are bytes predict bytes, 64 of them in every permitted mode, and the mode chosen for both planes is a permitted one.
--     predicted_bytes, predicted_long     of every mode: its samples are bytes; where the flags permit it they are 64
--     for_both_low                        of the chosen mode: the sum of both SADs has 16 bits
--     for_both_permitted                  what a choice for both answers is a mode, and the flags permit it
-- Assumes nothing.
use mathlib.Core.Path.{◌≡◌, sym, ap, ◌∙◌}
use mathlib.Core.Bool.{Bool, true, false, cond}
use mathlib.Core.List.{List}
use Prim.Native.Nat.{ℕ, ◌*◌, ◌/◌, ◌<◌, ◌≤◌}
use native.Mathlib.Omega.{arith}
use lib.Dec.{eqb, ltb, eqb→eq}
use lib.ListN.{length}
use Rattle.lists.specs.Bytes.{Bytes}
use Rattle.lists.specs.Tab.{tab, grid}
use Rattle.lists.proofs.Every.{every_at}
use Rattle.lists.proofs.Bytes.{bytes_none, bytes_take, bytes_drop, bytes_grid}
use Rattle.choice.specs.declared.inner.Standing.{Standing}
use Rattle.choice.specs.Choice.{at}
use Rattle.intra4.specs.Samples.{Side, here, missing, Round}
use Rattle.intra4.specs.Rules.{none, samples_of, mean, vertical, horizontal}
use Rattle.intra4.specs.Choice.{cost_of}
use Rattle.intra4.proofs.Bytes.{SideBytes, RoundBytes, vertical_keeps, horizontal_keeps, mean_byte, one_bytes, three_of}
use Rattle.intra4.proofs.Least.{cost_low}
use Rattle.intra4.proofs.Masked.{samples_by}
use Rattle.intra4.proofs.Modes.{each_of}
use Rattle.sides.specs.Samples.{mask}
use Rattle.sides.specs.Plane.{plane}
use Rattle.sides.proofs.Bytes.{plane_keeps, mask_bytes}
use Rattle.chroma.specs.Rules.{along_of, or_else, quarter_dc, modes, predicted, permitted}
use Rattle.chroma.specs.Choice.{chosen_for_both, PicksForBoth}
use Rattle.chroma.specs.Code.{filled}
use Rattle.chroma.proofs.Masked.{predicted_is, mode_below_4}
use Rattle.chroma.proofs.Least.{sum_of_both, for_both_least, permitted_cost}

-- ---- the modes: of bytes each makes bytes

along_bytes : (k : ℕ) (side : Side) → SideBytes side → SideBytes (along_of k side)
along_bytes k (here l) b = bytes_take 4 _ (bytes_drop (4 * k) l b)
along_bytes k missing b = tt

or_else_bytes : (a b : Side) → SideBytes a → SideBytes b → SideBytes (or_else a b)
or_else_bytes (here l) b h k = h
or_else_bytes missing b h k = k

-- on the diagonal or off it, at the upper right or the lower left
of_two : (a l : Side) (diagonal right : Bool) → SideBytes a → SideBytes l
    → cond diagonal (mean 4 a l) (mean 4 (cond right (or_else a l) (or_else l a)) missing) < 256
of_two a l true right h k = mean_byte 4 (omega arith) a l h k
of_two a l false true h k = mean_byte 4 (omega arith) (or_else a l) missing (or_else_bytes a l h k) tt
of_two a l false false h k = mean_byte 4 (omega arith) (or_else l a) missing (or_else_bytes l a k h) tt

module _ (r : Round) (b : RoundBytes r) where
  quarter_byte : (u v : ℕ) → quarter_dc r u v < 256
  quarter_byte u v =
      of_two (along_of u r.above) (along_of v r.left) (eqb u v) (ltb v u) (along_bytes u r.above b.above) (along_bytes v r.left b.left)

  mode_bytes : (m : ℕ) → Bytes (samples_of (predicted r m))
  unfolding predicted
  mode_bytes m =
      each_of (λ p. Bytes (samples_of p)) none bytes_none (modes r) (
        bytes_grid 8 _ (λ x y. quarter_byte (x / 4) (y / 4)),
        (
          one_bytes 8 r.left b.left horizontal horizontal_keeps,
          (
            one_bytes 8 r.above b.above vertical vertical_keeps,
            (
              three_of r b 8 (plane 8) (plane_keeps 8),
              tt,
            ),
          ),
        ),
      ) m

length_filled : (above left corner : List ℕ) (f m : ℕ) → m < 4 → length (filled above left corner f m) ≡ 64
unfolding filled grid tab
length_filled above left corner f m h = eqb→eq _ _ (every_at 4 (λ i. eqb (length (filled above left corner f i)) 64) tt m h)

-- ---- the theorems

module _ (l : List ℕ) (f : ℕ) where
  pub predicted_bytes : Bytes l → (m : ℕ) → Bytes (samples_of (predicted (mask 8 l f) m))
  predicted_bytes b m = mode_bytes (mask 8 l f) (mask_bytes 8 l f b) m

  pub predicted_long : (m : ℕ) → permitted f m ≡ true → length (samples_of (predicted (mask 8 l f) m)) ≡ 64
  predicted_long m p = ap length (sym (samples_by (permitted f m) _ (predicted_is l f m) p)) ∙ length_filled _ _ _ f m (mode_below_4 f m p)

module _ (f : ℕ) (l l' cb cr : List ℕ) where
  pub for_both_low : Bytes l → Bytes l' → Bytes cb → Bytes cr → (m s : ℕ) → chosen_for_both (mask 8 l f) (mask 8 l' f) cb cr ≡ at m s → s ≤ 32640
  for_both_low b b' o o' m s e =
      let w =
      sum_of_both (cost_of 8 cb (predicted (mask 8 l f) m)) (cost_of 8 cr (predicted (mask 8 l' f) m)) s
      (for_both_least (mask 8 l f) (mask 8 l' f) cb cr m s e).costs in
      omega (
        arith,
        w.sum,
        cost_low 8 cb (predicted (mask 8 l f) m) (predicted_bytes l f b m) o w.is_first,
        cost_low 8 cr (predicted (mask 8 l' f) m) (predicted_bytes l' f b' m) o' w.is_second,
      )

  module _ (r : Standing) (after after' : List ℕ) (p : PicksForBoth (mask 8 l f) (mask 8 l' f) cb cr r after after') where
    -- what is chosen is a mode, and the flags permit it
    pub for_both_permitted : (r.mode < 4) × (permitted f r.mode ≡ true)
    for_both_permitted =
        let w = for_both_least (mask 8 l f) (mask 8 l' f) cb cr r.mode r.cost (sym p.best) in
        (w.within, permitted_cost f l l' cb cr r.mode r.cost w.costs)
