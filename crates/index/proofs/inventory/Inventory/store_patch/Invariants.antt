use Rattle.std.proofs.Common.{◌≡◌, take}
use Rattle.patch.specs.Patches.{few}
use Rattle.index.specs.Asks.{AddsOnly, InsertAsks}
use Rattle.index.specs.Steps.{each, store_channel}
use Rattle.index.proofs.inventory.Inventory.store_patch.Given as goal

abbrev pub invariant-loop-c : goal.invariant-loop-c
invariant-loop-c g l =
    let s = g.S.ChannelSet in
    let ms = few (s.models l.initial.set) in
    (s.models l.set ≡ s.models l.initial.set)
    × (l.store ≡ each l.c (store_channel ms l.self.layout l.self.counts l.slot l.rows) l.initial.store)
    × (take l.self.layout.distances l.store ≡ take l.self.layout.distances l.initial.store)
    × AddsOnly (s.asked l.initial.set) (s.asked l.set) (InsertAsks ms l.self.counts l.initial.store l.rows)
