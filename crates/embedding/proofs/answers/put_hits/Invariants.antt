use Rattle.std.proofs.Common.{◌≡◌, ◌+◌, ◌*◌}
use Rattle.embedding.specs.Answers.{Wrote}
use Rattle.embedding.proofs.answers.put_hits.Given as goal

abbrev pub invariant-loop-hit : goal.invariant-loop-hit
invariant-loop-hit l = (l.next ≡ l.at + 6 * l.hit-index) × Wrote l.at l.next l.initial.answers l.answers
