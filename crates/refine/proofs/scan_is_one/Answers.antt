-- Cites the theorem.
use Rattle.refine.proofs.Tables.{scan_is_one}
use Rattle.refine.proofs.scan_is_one.Goals as goal

pub returns : goal.returns
returns c = scan_is_one
