use Rattle.std.proofs.Common.{arith}
use Rattle.queue.proofs.KLeast.{threshold_is}
use Rattle.queue.proofs.select.threshold.Goals as goal

pub returns : goal.returns
returns c = threshold_is _ _ _ _ (omega arith) c.in_ok-top.ensures
