-- Cites the theorem.
use Rattle.refine.proofs.Witness.{premises_met}
use Rattle.refine.proofs.premises_met.Goals as goal

pub returns : goal.returns
returns c = premises_met
