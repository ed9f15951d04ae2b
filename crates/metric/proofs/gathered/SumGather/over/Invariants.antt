use Rattle.std.proofs.Common.{◌≡◌, ◌*◌, ◌≤◌, take}
use Rattle.metric.specs.Distances.{summed}
use Rattle.metric.proofs.gathered.SumGather.over.Given as goal

abbrev pub invariant-loop-i : goal.invariant-loop-i
invariant-loop-i g l = (l.sum ≤ 255 * l.i) × (l.sum ≡ summed g.D.ByteDistance.between (take l.i l.a) (take l.i l.b))
