-- When the entry points of `intra4` refuse, over the generated readings of their contracts. Assumes nothing.
use Rattle.refusal.specs.Number.{said}
use Rattle.refusal.specs.Refuses.{RefusesExactlyIf}
use Rattle.refusal.proofs.Same.{says_exactly_if}
use Rattle.intra4.specs.Entry.{predict_tests, choose_tests}
use Rattle.intra4.proofs.predict.Kinds as predict
use Rattle.intra4.proofs.predict.Reads as predict_reads
use Rattle.intra4.proofs.choose.Kinds as choose
use Rattle.intra4.proofs.choose.Reads as choose_reads

pub predict_refuses_exactly_if : RefusesExactlyIf 2 predict.ps predict.r predict_reads.Learnt (λ κs a. predict_tests a.0.now a.1.0 a.1.1.0 a.1.1.1.0.now) (λ κs x. said x)
predict_refuses_exactly_if κs a x e p = says_exactly_if _ p.says

pub choose_refuses_exactly_if : RefusesExactlyIf 3 choose.ps choose.r choose_reads.Learnt (λ κs a. choose_tests a.0.now a.1.0 a.1.1.0.now a.1.1.1.0.now) (λ κs x. said x)
choose_refuses_exactly_if κs a x e p = says_exactly_if _ p.says
