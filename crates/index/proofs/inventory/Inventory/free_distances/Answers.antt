use Rattle.std.proofs.Common.{arith}
use Rattle.index.proofs.Eaches.{each_more}
use Rattle.index.proofs.inventory.Inventory.free_distances.Goals as goal

pub loop-slot-preserved : goal.loop-slot-preserved
loop-slot-preserved c = grind (arith, each_more)
