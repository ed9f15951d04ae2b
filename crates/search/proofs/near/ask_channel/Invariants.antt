use Rattle.std.proofs.Common.{◌≡◌, ℕ, ◌<◌, length, get_or}
use Rattle.metric.specs.Channels.{at}
use Rattle.patch.specs.Patches.{few, row}
use Rattle.index.specs.Asks.{AddsOnly}
use Rattle.index.specs.Steps.{pivot_row}
use Rattle.promise.specs.Held.{NearAsks}
use Rattle.search.proofs.near.ask_channel.Given as goal

abbrev pub invariant-loop-p : goal.invariant-loop-p
invariant-loop-p g l =
    let s = g.S.ChannelSet in
    let ms = few (s.models l.initial.set) in
    (s.models l.set ≡ s.models l.initial.set)
    × (length l.near ≡ 8)
    × ((j : ℕ) → j < l.p → get_or l.near j 0 ≡ (at ms l.c).dist (row ms l.c l.view.query.now) (pivot_row ms l.view.layout l.c j l.view.store.now))
    × AddsOnly (s.asked l.initial.set) (s.asked l.set) (NearAsks ms l.view.counts l.view.store.now l.view.query.now)
