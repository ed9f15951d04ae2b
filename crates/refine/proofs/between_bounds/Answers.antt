-- Cites the theorem.
use Rattle.refine.proofs.Channels.{between_bounds}
use Rattle.refine.proofs.between_bounds.Goals as goal

pub returns : goal.returns
returns c = between_bounds
