-- The two planes of chroma: "One mode serves Cb and Cr" (02, Req 05), so they are coded together. Assumes nothing.
use Rattle.std.specs.Prelude.{List, ℕ}

pub record Both : Type 0 where
  pub cb : List ℕ
  pub cr : List ℕ

-- both, made of a plane each
abbrev pub pair : (cb cr : List ℕ) → Both
pair cb cr = record { cb = cb; cr = cr }

-- a step of both planes, of steps of each: by one number that is made of both, their mode
abbrev pub both_step : (mode : ℕ → Both → ℕ) → (cb_step cr_step : (mode m : ℕ) → List ℕ → List ℕ) → (m : ℕ) → Both → Both
both_step mode cb_step cr_step m before =
    record { cb = cb_step (mode m before) m before.cb; cr = cr_step (mode m before) m before.cr }
