-- Numbers as bytes, two each.
--     words_more     of one number more
-- Assumes nothing.
use Rattle.std.proofs.Common.{◌≡◌, ℕ, ◌+◌, ◌<◌, List, [], ◌∷◌, ◌++◌, length, get_or, take, add-one, refl, ap, take-suc}
use Rattle.octets.specs.Numbers.{bytes_of}
use Rattle.head.specs.Heads.{words}

words_append : (a b : List ℕ) → words (a ++ b) ≡ words a ++ words b
unfolding words
words_append [] b = refl
words_append (n ∷ a) b = ap (λ (l : List ℕ). bytes_of n ++ l) (words_append a b)

pub words_more : (a : List ℕ) (k : ℕ) → k < length a → words (take (k + 1) a) ≡ words (take k a) ++ bytes_of (get_or a k 0)
unfolding words
words_more a k h = rw (add-one, take-suc a k 0 h) (words_append (take k a) (get_or a k 0 ∷ []))
