use Rattle.std.proofs.Common.{◌≡◌}
use Rattle.index.specs.Steps.{each, free_distance}
use Rattle.index.proofs.inventory.Inventory.free_distances.Given as goal

abbrev pub invariant-loop-slot : goal.invariant-loop-slot
invariant-loop-slot l = l.store ≡ each l.slot (free_distance l.self.layout l.c l.p l.last) l.initial.store
