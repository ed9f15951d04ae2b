use Rattle.embedding.specs.Answers.{Wrote}
use Rattle.embedding.proofs.session.run.Given as goal

abbrev pub invariant-loop : goal.invariant-loop
invariant-loop g l = Wrote 0 l.len l.initial.answers l.answers
