use Rattle.std.proofs.Common.{◌≡◌, take}
use Rattle.metric.specs.Distances.{largest}
use Rattle.metric.proofs.gathered.LargestGather.over.Given as goal

abbrev pub invariant-loop-i : goal.invariant-loop-i
invariant-loop-i g l = l.most ≡ largest g.D.ByteDistance.between (take l.i l.a) (take l.i l.b)
