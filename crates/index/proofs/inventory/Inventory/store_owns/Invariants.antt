use Rattle.std.proofs.Common.{◌≡◌, length, take}
use Rattle.patch.specs.Patches.{few}
use Rattle.index.specs.Asks.{AddsOnly}
use Rattle.index.specs.Steps.{each, store_own}
use Rattle.index.specs.Works.{OwnAsks}
use Rattle.index.proofs.inventory.Inventory.store_owns.Given as goal

abbrev pub invariant-loop-slot : goal.invariant-loop-slot
invariant-loop-slot g l =
    let s = g.S.ChannelSet in
    let ms = few (s.models l.initial.set) in
    (s.models l.set ≡ s.models l.initial.set)
    × (length l.store ≡ length l.initial.store)
    × (l.store ≡ each l.slot (store_own ms l.self.layout l.c l.p) l.initial.store)
    × (take l.self.layout.distances l.store ≡ take l.self.layout.distances l.initial.store)
    × AddsOnly (s.asked l.initial.set) (s.asked l.set) (OwnAsks ms l.self.layout l.self.counts.held l.initial.store l.c l.p)
