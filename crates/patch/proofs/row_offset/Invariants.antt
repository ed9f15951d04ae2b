use Rattle.std.proofs.Common.{◌≡◌, ◌*◌, ◌≤◌}
use Rattle.patch.specs.Patches.{few, offset}
use Rattle.patch.proofs.row_offset.Given as goal

abbrev pub invariant-loop-i : goal.invariant-loop-i
invariant-loop-i g l = (l.start ≡ offset (few (g.S.ChannelSet.models l.set)) l.i) × (l.start ≤ 256 * l.i)
