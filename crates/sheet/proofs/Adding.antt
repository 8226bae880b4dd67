-- Four sums at once, over samples, rows or macroblocks alike.
--     Adding: adding_none, adding_below, adding_more, adding_done     the loop that adds four sums in each turn
-- Assumes nothing.
use mathlib.Core.Path.{◌≡◌, sym, subst}
use mathlib.Core.List.{List}
use Prim.Native.Nat.{ℕ, ◌+◌, ◌*◌, ◌<◌, ◌≤◌}
use native.Mathlib.Nat.{mul-le-mul_left}
use native.Mathlib.Omega.{arith}
use Rattle.lists.specs.Total.{total}
use Rattle.lists.proofs.Total.{Totalling, totalling_none, totalling_more, totalling_done}
use Rattle.sheet.specs.Code.{Four, no_four, add_four, absolute_at, squared_at, sample_in, OfAtMost, SumsOver}

-- after k of n turns, each over at most b samples; F g k is what turn k adds of a rule g
pub record Adding (n b : ℕ) (F : (ℕ → ℕ) → ℕ → ℕ) (original rebuilt : List ℕ) (v : Four) (k : ℕ) : Type 0 where
  pub absolute : Totalling n (F (absolute_at original rebuilt)) (255 * b) v.absolute k
  pub squared : Totalling n (F (squared_at original rebuilt)) (65025 * b) v.squared k
  pub back : Totalling n (F (sample_in rebuilt)) (255 * b) v.rebuilt k
  pub own : Totalling n (F (sample_in original)) (255 * b) v.original k

module _ (n b : ℕ) (F : (ℕ → ℕ) → ℕ → ℕ) (original rebuilt : List ℕ) where
  pub adding_none : {v : Four} → v ≡ no_four → Adding n b F original rebuilt v 0
  adding_none e =
      subst (λ (v : Four). Adding n b F original rebuilt v 0) (sym e)
      record { absolute = totalling_none _ _ _; squared = totalling_none _ _ _; back = totalling_none _ _ _; own = totalling_none _ _ _ }

  -- no more than all n turns add
  low : (c d : ℕ) {f : ℕ → ℕ} {s k : ℕ} → Totalling n f (c * b) s k → b * n ≤ d → s ≤ c * d
  low c d {k = k} h l =
      let p : b * k ≤ d = omega (arith, mul-le-mul_left b h.below) in
      omega (arith, h.low, mul-le-mul_left c p)

  pub adding_below : {v : Four} {k d : ℕ} → Adding n b F original rebuilt v k → b * n ≤ d → OfAtMost d v
  adding_below {d = d} h l = record {
    absolute = low 255 d h.absolute l;
    squared = low 65025 d h.squared l;
    rebuilt = low 255 d h.back l;
    original = low 255 d h.own l;
  }

  pub adding_more : {v w u : Four} {k : ℕ} → Adding n b F original rebuilt v k → k < n → SumsOver b (λ g. F g k) original rebuilt w → u ≡ add_four v w
      → Adding n b F original rebuilt u (k + 1)
  adding_more {k = k} h l p e =
      subst (λ (u : Four). Adding n b F original rebuilt u (k + 1)) (sym e) record {
        absolute = totalling_more _ _ _ h.absolute l (λ i. (p.is i).absolute) p.low.absolute;
        squared = totalling_more _ _ _ h.squared l (λ i. (p.is i).squared) p.low.squared;
        back = totalling_more _ _ _ h.back l (λ i. (p.is i).rebuilt) p.low.rebuilt;
        own = totalling_more _ _ _ h.own l (λ i. (p.is i).original) p.low.original;
      }

  pub adding_done : {v : Four} {k d : ℕ} → Adding n b F original rebuilt v k → n ≤ k → b * n ≤ d → SumsOver d (λ g. total n (F g)) original rebuilt v
  adding_done h l m = record {
    is = λ i. record {
      absolute = totalling_done _ _ _ h.absolute l i;
      squared = totalling_done _ _ _ h.squared l i;
      rebuilt = totalling_done _ _ _ h.back l i;
      original = totalling_done _ _ _ h.own l i;
    };
    low = adding_below h m;
  }
