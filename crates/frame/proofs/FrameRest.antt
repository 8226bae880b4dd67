-- "the result says how many bytes were used, and the rest keep theirs" (02, Req 01), of any call of `code_picture`, over its own reading: a holds
-- the call's arguments, r its answer, e what is lent at its exit.
--     frame_rest_keeps     where it answers how many bytes were used, these lie in the area, and every byte behind them is as it was
-- Assumes nothing.
use mathlib.Core.Path.{◌≡◌, subst}
use mathlib.Core.List.{List}
use Prim.Native.Nat.{ℕ, ◌≤◌}
use contract.Lifetimes.{Lfts}
use denote.Triple.Clauses.{AtExit}
use borrow.Fn.Kinds.{Dens, res_t, ended_of}
use lib.ListN.{length, drop}
use Rattle.frame.specs.Code.{CodesPicture}
use Rattle.frame.proofs.FrameOutcome.{frame_outcome}
use Rattle.frame.proofs.code_picture.Kinds as call
use Rattle.frame.proofs.code_picture.Reads as reads
use Rattle.std.specs.Prelude.{Ok, Result}
use Rattle.refusal.specs.declared.Refusal.{Refusal}

module _ (κs : Lfts 7) (a : Dens κs call.ps) (r : (res_t call.r κs).Denot) (e : AtExit (ended_of 7 call.ps call.r) κs) (p : reads.Learnt κs a r e) where
  -- the file area, as it was lent and as it is left
  abbrev lent : List ℕ
  lent = a.1.1.1.1.1.1.1.1.1.0.now

  abbrev left : List ℕ
  left = e.1.1.1.1.1.1.1.1.1.0.now

  pub frame_rest_keeps : (used : ℕ) → r ≡ Ok used → (used ≤ length lent) × (drop used left ≡ drop used lent)
  frame_rest_keeps used is =
      let luma = a.1.1.1.1.1.1.1.1.1.1.0.now in
      let cb = a.1.1.1.1.1.1.1.1.1.1.1.0.now in
      let cr = a.1.1.1.1.1.1.1.1.1.1.1.1.0.now in
      let luma' = e.1.1.1.1.1.1.1.1.1.1.0.now in
      let cb' = e.1.1.1.1.1.1.1.1.1.1.1.0.now in
      let cr' = e.1.1.1.1.1.1.1.1.1.1.1.1.0.now in
      let c =
      subst
      (λ (x : Result ℕ Refusal).
      CodesPicture a.0 a.1.0 a.1.1.0 a.1.1.1.0 a.1.1.1.1.0 a.1.1.1.1.1.0 a.1.1.1.1.1.1.0.now a.1.1.1.1.1.1.1.0.now a.1.1.1.1.1.1.1.1.0.now
      lent luma cb cr x left luma' cb' cr')
      is p in
      let o =
      frame_outcome a.0 a.1.0 a.1.1.0 a.1.1.1.0 a.1.1.1.1.0 a.1.1.1.1.1.0 a.1.1.1.1.1.1.0.now a.1.1.1.1.1.1.1.0.now a.1.1.1.1.1.1.1.1.0.now
      lent luma cb cr used left luma' cb' cr' c in
      (o.within, o.kept)
