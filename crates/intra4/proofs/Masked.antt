-- What the mask leaves of the neighbours, over the rows that the code reads.
--     one_is, three_is over n by n samples: what a mode has that needs a side, or both and the corner
--     none_by, samples_by     a prediction that stands by a condition
--     thirteen         a list of thirteen is its elements
--     predicted_is     a permitted mode's samples are those of the rows; another mode has none
--     none_exactly_if  a mode has no prediction exactly if the flags do not permit it
--     mode_below_9     what is permitted has a number below 9
--     filled_is        the same for what the code has filled
-- Assumes nothing.
use mathlib.Core.Path.{◌≡◌, refl, sym, ap, ap₂, subst, ◌∙◌}
use mathlib.Core.Bool.{Bool, true, false, cond, ◌&&◌}
use mathlib.Core.List.{List, [], ◌∷◌}
use mathlib.Core.Logic.{◌↔◌}
use Prim.Native.Nat.{ℕ, zero, suc, ◌<◌}
use lib.IntN.{ℤ}
use lib.ListN.{length, get_or}
use Rattle.lists.specs.Tab.{grid, tab}
use Rattle.lists.proofs.Tab.{tab_of}
use Rattle.intra4.specs.Samples.{side_if, bit_of, masked, mask, all_present}
use Rattle.intra4.specs.Rules.{Predicted, samples, none, samples_of, row_of, one, three, predicted, permitted}
use Rattle.intra4.specs.Rules.{vertical, horizontal, down_left, down_right, vertical_right, horizontal_down, vertical_left, horizontal_up}
use Rattle.intra4.specs.Code.{top_row, left_row, filled}
use Rattle.intra4.proofs.Modes.{mode_below}

pub one_is : (n : ℕ) (b : Bool) (l : List ℕ) (rule : (ℤ → ℕ) → ℕ → ℕ → ℕ) → one n (side_if b l) rule ≡ cond b (samples (grid n (rule (row_of [] l)))) none
one_is n true l rule = refl
one_is n false l rule = refl

three_by : (n : ℕ) (a b c : Bool) (la ll M : List ℕ) (rule : (T S : ℤ → ℕ) → ℕ → ℕ → ℕ)
    → three n (record { above = side_if a la; left = side_if b ll; corner = side_if c M }) rule
    ≡ cond (a && (b && c)) (samples (grid n (rule (row_of M la) (row_of M ll)))) none
three_by n true true true la ll M rule = refl
three_by n true true false la ll M rule = refl
three_by n true false c la ll M rule = refl
three_by n false b c la ll M rule = refl

pub three_is : (n f : ℕ) (la ll M : List ℕ) (rule : (T S : ℤ → ℕ) → ℕ → ℕ → ℕ)
    → three n (masked la ll M f) rule ≡ cond (all_present f) (samples (grid n (rule (row_of M la) (row_of M ll)))) none
three_is n f la ll M rule = three_by n (bit_of f 0) (bit_of f 1) (bit_of f 2) la ll M rule

-- a prediction that stands by a condition
module _ (b : Bool) (l : List ℕ) {p : Predicted} (e : p ≡ cond b (samples l) none) where
  pub none_by : (p ≡ none) ↔ (b ≡ false)
  none_by = (only b refl, λ q. e ∙ rw q)
    where
      only : (c : Bool) → b ≡ c → p ≡ none → b ≡ false
      only false q h = q
      only true q h = let z : samples l ≡ none = rw q at (sym e) ∙ h in cc

  pub samples_by : b ≡ true → l ≡ samples_of p
  samples_by q = sym (ap samples_of (e ∙ ap (λ (c : Bool). cond c (samples l) none) q))

-- over any rows
over_rows : (f m M : ℕ) (la ll : List ℕ) → predicted (masked la ll (M ∷ []) f) m ≡ cond (permitted f m) (samples (filled (M ∷ la) (M ∷ ll) f m)) none
unfolding predicted permitted filled
over_rows f zero M la ll = one_is 4 (bit_of f 0) la vertical
over_rows f (suc zero) M la ll = one_is 4 (bit_of f 1) ll horizontal
over_rows f (suc (suc zero)) M la ll = refl
over_rows f (suc (suc (suc zero))) M la ll = one_is 4 (bit_of f 0) la down_left
over_rows f (suc (suc (suc (suc zero)))) M la ll = three_is 4 f la ll (M ∷ []) down_right
over_rows f (suc (suc (suc (suc (suc zero))))) M la ll = three_is 4 f la ll (M ∷ []) vertical_right
over_rows f (suc (suc (suc (suc (suc (suc zero)))))) M la ll = three_is 4 f la ll (M ∷ []) horizontal_down
over_rows f (suc (suc (suc (suc (suc (suc (suc zero))))))) M la ll = one_is 4 (bit_of f 0) la vertical_left
over_rows f (suc (suc (suc (suc (suc (suc (suc (suc zero)))))))) M la ll = one_is 4 (bit_of f 1) ll horizontal_up
over_rows f (suc (suc (suc (suc (suc (suc (suc (suc (suc m))))))))) M la ll = refl

module _ (f m M A B C D E F G H I J K L : ℕ) where
  -- b is bit 3, by which E to H stand or each is D
  by_bit_3 : (b : Bool)
      → predicted (masked (A ∷ B ∷ C ∷ D ∷ cond b (E ∷ F ∷ G ∷ H ∷ []) (D ∷ D ∷ D ∷ D ∷ [])) (I ∷ J ∷ K ∷ L ∷ []) (M ∷ []) f) m
      ≡ cond (permitted f m)
      (samples (filled (M ∷ A ∷ B ∷ C ∷ D ∷ cond b E D ∷ cond b F D ∷ cond b G D ∷ cond b H D ∷ []) (M ∷ I ∷ J ∷ K ∷ L ∷ []) f m))
      none
  by_bit_3 true = over_rows f m M (A ∷ B ∷ C ∷ D ∷ E ∷ F ∷ G ∷ H ∷ []) (I ∷ J ∷ K ∷ L ∷ [])
  by_bit_3 false = over_rows f m M (A ∷ B ∷ C ∷ D ∷ D ∷ D ∷ D ∷ D ∷ []) (I ∷ J ∷ K ∷ L ∷ [])

-- a list of thirteen is its elements
pub thirteen : (n : List ℕ) → length n ≡ 13 → tab 13 (λ k. get_or n k 0) ≡ n
thirteen n e = tab_of 13 (λ k. get_or n k 0) n 0 e (λ k l. refl)

module _ (n : List ℕ) (f m : ℕ) (e : length n ≡ 13) where
  pub predicted_is : predicted (mask n f) m ≡ cond (permitted f m) (samples (filled (top_row n f) (left_row n) f m)) none
  unfolding tab
  predicted_is =
      subst (λ (l : List ℕ). predicted (mask l f) m ≡ cond (permitted f m) (samples (filled (top_row l f) (left_row l) f m)) none) (thirteen n e)
      (by_bit_3 f m (get_or n 0 0) (get_or n 1 0) (get_or n 2 0) (get_or n 3 0) (get_or n 4 0) (get_or n 5 0) (get_or n 6 0) (get_or n 7 0) (get_or n 8 0)
      (get_or n 9 0) (get_or n 10 0) (get_or n 11 0) (get_or n 12 0) (bit_of f 3))

  pub none_exactly_if : (predicted (mask n f) m ≡ none) ↔ (permitted f m ≡ false)
  none_exactly_if = none_by (permitted f m) _ predicted_is

  pub filled_is : {t s l : List ℕ} → permitted f m ≡ true → t ≡ top_row n f → s ≡ left_row n → l ≡ filled t s f m → l ≡ samples_of (predicted (mask n f) m)
  filled_is {t} {s} {l} p a b c = c ∙ ap₂ (λ (t s : List ℕ). filled t s f m) a b ∙ samples_by (permitted f m) _ predicted_is p

pub mode_below_9 : (f m : ℕ) → permitted f m ≡ true → m < 9
unfolding permitted
mode_below_9 f m e = mode_below 9 (permitted f) (λ k. refl) m e
