-- 7 is retired (02, request 06): `number` never answers it, over the generated reading of its own contract. Assumes nothing.
use mathlib.Core.Path.{◌≡◌, sym, ◌∙◌}
use contract.Lifetimes.{Lfts}
use denote.Triple.Clauses.{AtExit}
use borrow.Fn.Kinds.{Dens, res_t, ended_of}
use Rattle.lists.specs.Chain.{stop}
use Rattle.refusal.proofs.Same.{seven_unused}
use Rattle.refusal.proofs.inner.number.Kinds as number
use Rattle.refusal.proofs.inner.number.Reads as number_reads

pub seven_unanswered : (κs : Lfts 0) (a : Dens κs number.ps) (x : (res_t number.r κs).Denot) (e : AtExit (ended_of 0 number.ps number.r) κs)
    → number_reads.Learnt κs a x e → x ≡ 7 → ⊥
seven_unanswered κs a x e p h = seven_unused (stop a.0) (sym p ∙ h)
