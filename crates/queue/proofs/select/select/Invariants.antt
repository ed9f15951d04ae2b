use Rattle.std.proofs.Common.{◌≡◌, take}
use Rattle.queue.proofs.KLeast.{Keeping}
use Rattle.queue.proofs.select.select.Given as goal

abbrev pub invariant-loop-v : goal.invariant-loop-v
invariant-loop-v l = record {
  same_reference : l.least.slots.ghost_name ≡ l.initial.least.slots.ghost_name;
  keeps : Keeping l.least.len (take l.v-index l.values) l.fn.slots l.least.slots.now;
}
