use Rattle.std.proofs.Common.{◌≡◌, length, take}
use Rattle.queue.specs.Selection.{Kept}
use Rattle.queue_tests.proofs.uses.kth_offered.Given as goal

abbrev pub invariant-loop-v : goal.invariant-loop-v
invariant-loop-v l = (length l.least.slots.now ≡ length l.fn.slots) × Kept (length l.fn.slots) (take l.v-index l.values) (take l.least.len l.least.slots.now)
