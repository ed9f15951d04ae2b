use Rattle.std.proofs.Common.{◌≡◌, ℕ, ◌<◌, ◌≤◌, get_or}
use Rattle.patch.specs.Patches.{weighted, AddsRows}
use Rattle.patch.proofs.aggregate_all.Given as goal

abbrev pub invariant-loop-c : goal.invariant-loop-c
invariant-loop-c g l =
    let s = g.S.ChannelSet in
    let ms = s.models l.initial.set in
    (s.models l.set ≡ ms)
    × ((k : ℕ) → k < l.c → get_or l.entry-items k 0 ≡ weighted ms l.weights l.query l.patch k)
    × ((k : ℕ) → get_or l.entry-items k 0 ≤ 16711425)
    × AddsRows (s.asked l.initial.set) (s.asked l.set) ms l.c l.query l.patch
