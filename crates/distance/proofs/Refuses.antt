-- When the entry point of `distance` refuses, over the generated reading of its contract. Assumes nothing.
use Rattle.refusal.specs.Refuses.{RefusesExactlyIf}
use Rattle.refusal.proofs.Same.{says_exactly_if}
use Rattle.quantizer.specs.Range.{number_tests}
use Rattle.distance.proofs.promised_distance.Kinds as promised_distance
use Rattle.distance.proofs.promised_distance.Reads as promised_distance_reads
use Rattle.refusal.specs.Number.{said}

pub promised_distance_refuses_exactly_if : RefusesExactlyIf 0 promised_distance.ps promised_distance.r promised_distance_reads.Learnt (λ κs a. number_tests a.0) (λ κs x. said x)
promised_distance_refuses_exactly_if κs a x e p = says_exactly_if _ p.says
