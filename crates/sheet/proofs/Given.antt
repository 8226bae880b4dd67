-- What a call about a sheet is given, whichever function is called: its first arguments are the size, both planes and the map.
--     Arguments, given
-- Assumes nothing.
use mathlib.Core.List.{List}
use Prim.Native.Nat.{ℕ}
use denote.Ref.{Bor}

pub record Arguments : Type 0 where
  pub width : ℕ
  pub height : ℕ
  pub original : List ℕ
  pub rebuilt : List ℕ
  pub map : List ℕ

abbrev pub given : {Others : Type 0} → ℕ × (ℕ × (Bor (List ℕ) × (Bor (List ℕ) × (Bor (List ℕ) × Others)))) → Arguments
given a = record {
  width = a.0;
  height = a.1.0;
  original = a.1.1.0.now;
  rebuilt = a.1.1.1.0.now;
  map = a.1.1.1.1.0.now;
}
