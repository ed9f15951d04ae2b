use Rattle.std.proofs.Common.{◌≡◌, ℕ, ◌<◌, [], length, get_or}
use Rattle.patch.specs.Patches.{few}
use Rattle.index.specs.Asks.{AddsOnly}
use Rattle.promise.specs.Held.{NearAsks}
use Rattle.search.specs.Walks.{NearIn}
use Rattle.search.proofs.near.ask_pivots.Given as goal

abbrev pub invariant-loop-c : goal.invariant-loop-c
invariant-loop-c g l =
    let s = g.S.ChannelSet in
    let ms = few (s.models l.initial.set) in
    (s.models l.set ≡ s.models l.initial.set)
    × (length l.table ≡ 8)
    × ((j : ℕ) → j < l.c → NearIn ms l.view.counts l.view.store.now l.view.query.now j (get_or l.table j []))
    × AddsOnly (s.asked l.initial.set) (s.asked l.set) (NearAsks ms l.view.counts l.view.store.now l.view.query.now)
