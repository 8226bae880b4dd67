-- `vectors::recording::run` is safe: each count grows by one a step at the most. Assumes nothing.
use Rattle.std.proofs.Common.{◌≤◌}
use Rattle.vectors.proofs.recording.run.Given as goal

abbrev pub invariant-loop : goal.invariant-loop
invariant-loop g l = (l.counter ≤ l.end) × (l.end ≤ 18446744073709551615) × (l.asked ≤ l.counter) × (l.right ≤ l.asked)
