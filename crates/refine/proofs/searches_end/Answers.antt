-- Cites the theorem.
use Rattle.refine.proofs.Tables.{searches_end}
use Rattle.refine.proofs.searches_end.Goals as goal

pub returns : goal.returns
returns c = searches_end
