use Rattle.std.proofs.Common.{◌≡◌, ℕ, List, ◌++◌, length, string_bytes}
use Rattle.patch.specs.Patches.{few}
use Rattle.console.specs.Sessions.{written}
use Rattle.console.proofs.Running.{Sofar}
use Rattle.console.proofs.run.Given as goal

abbrev pub invariant-loop : goal.invariant-loop
invariant-loop g l =
    let models = g.S.ChannelSet.models in
    (models l.index.set ≡ models l.initial.index.set)
    × (l.reader.format ≡ l.initial.reader.format)
    × ((printed : List ℕ)
    × Sofar (few (models l.initial.index.set)) l.initial.reader.format (written l.initial.index.counts l.initial.store) l.input printed (written l.index.counts l.store) l.reader.rest.now
    × (string_bytes l.out ≡ string_bytes l.initial.out ++ printed))

abbrev pub decreases-loop : goal.decreases-loop
decreases-loop g l = length l.reader.rest.now
