-- Cites the theorem.
use Rattle.refine.proofs.Tables.{posed_refinable}
use Rattle.refine.proofs.posed_refinable.Goals as goal

pub returns : goal.returns
returns c = posed_refinable
