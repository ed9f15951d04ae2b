use Rattle.std.proofs.Common.{◌≡◌, ℕ, List}
use Rattle.refine.specs.Steps.{State}
use Rattle.engine.specs.declared.records.Neighbor.{Neighbor}
use Rattle.engine.specs.Outcomes.{posed}
use Rattle.engine.specs.Turns.{Stands, left}
use Rattle.engine.proofs.Walks.{Reached}
use Rattle.engine.proofs.steps.run.Given as goal

abbrev pub invariant-steps : goal.invariant-steps
invariant-steps g l =
    let t = g.S.Source.tables l.initial.source l.initial.meter in
    let q = posed g.A.Aggregate.meaning l.question in
    (g.S.Source.tables l.source l.meter ≡ t)
    × g.S.Source.ready l.source l.meter
    × ((old : List Neighbor) (s : State ℕ) → Stands t q old l.initial.candidates.len l.initial.candidates.slots.now l.initial.hits l.initial.progress s
    → Reached t q s old l.candidates.len l.candidates.slots.now l.hits l.progress (g.S.Source.asked l.initial.source l.initial.meter) (g.S.Source.asked l.source l.meter))
    × (g.S.Source.metrics l.source l.meter ≡ g.S.Source.metrics l.initial.source l.initial.meter)
    × (l.candidates.slots.ghost_name ≡ l.initial.candidates.slots.ghost_name)

abbrev pub decreases-steps : goal.decreases-steps
decreases-steps g l = left (g.S.Source.tables l.initial.source l.initial.meter).channels l.candidates.len l.candidates.slots.now
