-- "The macroblock takes it exactly if its SAD is below the sum of the sixteen 4x4 SADs (document 001)" (02, Req 01). Assumes nothing.
use Rattle.std.specs.Prelude.{cond, List, ℕ, ltb, ℤ, take}

-- one of two, by the sum of the sixteen SADs (apart) and the one SAD of 16x16 (together)
abbrev pub taken : {A : Type 0} → (apart together : ℕ) → (four sixteen : A) → A
taken apart together four sixteen = cond (ltb together apart) sixteen four

-- "the chooser hands back the part of the winning area": its 256 levels
unfoldable pub winning : (apart together : ℕ) → (four sixteen : List ℤ) → List ℤ
winning apart together four sixteen = take 256 (taken apart together four sixteen)
