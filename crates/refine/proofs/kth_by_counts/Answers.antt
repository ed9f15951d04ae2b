-- Cites the theorem.
use Rattle.refine.proofs.Kth.{kth_by_counts}
use Rattle.refine.proofs.kth_by_counts.Goals as goal

pub returns : goal.returns
returns c = kth_by_counts
