use Rattle.std.proofs.Common.{◌≡◌, length, take}
use Rattle.patch.specs.Patches.{few, row}
use Rattle.index.specs.Asks.{AddsOnly, InsertAsks}
use Rattle.index.specs.Steps.{each, store_distance}
use Rattle.index.proofs.inventory.Inventory.store_channel.Given as goal

abbrev pub invariant-loop-p : goal.invariant-loop-p
invariant-loop-p g l =
    let s = g.S.ChannelSet in
    let ms = few (s.models l.initial.set) in
    (s.models l.set ≡ s.models l.initial.set)
    × (length l.store ≡ length l.initial.store)
    × (l.store ≡ each l.p (store_distance ms l.self.layout l.slot l.c (row ms l.c l.rows)) l.initial.store)
    × (take l.self.layout.distances l.store ≡ take l.self.layout.distances l.initial.store)
    × AddsOnly (s.asked l.initial.set) (s.asked l.set) (InsertAsks ms l.self.counts l.initial.store l.rows)
