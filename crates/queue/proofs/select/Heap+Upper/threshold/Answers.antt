use Rattle.std.proofs.Common.{length, ap, arith}
use Rattle.queue.proofs.KLeast.{threshold_is}
use Rattle.queue.proofs.select.Heap+Upper.threshold.Goals as goal

pub returns : goal.returns
returns c = threshold_is _ _ _ _ (omega (arith, ap length c.slots-k.ensures)) c.in_ok-top.ensures
