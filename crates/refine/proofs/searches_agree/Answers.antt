-- Cites the theorem.
use Rattle.refine.proofs.Tables.{searches_agree}
use Rattle.refine.proofs.searches_agree.Goals as goal

pub returns : goal.returns
returns c = searches_agree
