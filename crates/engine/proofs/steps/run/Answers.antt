use Rattle.std.proofs.Common.{ℕ, List, Some, ◌∙◌, subst}
use Rattle.refine.specs.Steps.{State}
use Rattle.engine.specs.declared.records.Neighbor.{Neighbor}
use Rattle.engine.specs.Tables.{Tables}
use Rattle.engine.specs.Outcomes.{posed}
use Rattle.engine.specs.Turns.{Stands, Steps, Goes}
use Rattle.engine.proofs.Walks.{goes_on, ends_at}
use Rattle.engine.proofs.steps.run.Goals as goal

pub returns-in-Some-clause-ends : goal.returns-in-Some-clause-ends
returns-in-Some-clause-ends g c =
    let S = g.S.Source in
    let a = c.args in
    let t = S.tables a.source.now a.meter.now in
    let q = posed g.A.Aggregate.meaning a.question.now in
    let l = c.steps in
    let n = c.step in
    let end = c.in-Some.end in
    λ old s st.
    (let was = l.invariant.2 old s st in
    ends_at t q s old l.candidates.len l.candidates.slots.now l.hits l.progress (S.asked a.source.now a.meter.now) (S.asked a.source.now l.meter) was n.new.hits n.new.progress (S.asked a.source.now n.new.meter) end n.new.candidates.len n.new.candidates.slots.now
    (subst (λ (u : Tables). (o : List Neighbor) (z : State ℕ) → Stands u q o l.candidates.len l.candidates.slots.now l.hits l.progress z → Steps (Some end) u q z o l.candidates.len n.new.candidates.len l.candidates.slots.now n.new.candidates.slots.now l.hits n.new.hits l.progress n.new.progress (S.asked a.source.now l.meter) (S.asked a.source.now n.new.meter)) l.invariant.0 c.in-Some.ensures.steps old was.s was.stands))

pub returns-in-Some-clause-kept : goal.returns-in-Some-clause-kept
returns-in-Some-clause-kept g c = c.in-Some.ensures.kept ∙ c.steps.invariant.0

pub returns-in-Some-clause-same : goal.returns-in-Some-clause-same
returns-in-Some-clause-same g c = c.in-Some.ensures.same ∙ c.steps.invariant.3

pub returns-in-Some-clause-same_reference : goal.returns-in-Some-clause-same_reference
returns-in-Some-clause-same_reference g c = c.in-Some.ensures.same_reference ∙ c.steps.invariant.4

pub steps-preserved : goal.steps-preserved
steps-preserved g c =
    let S = g.S.Source in
    let a = c.args in
    let t = S.tables a.source.now a.meter.now in
    let q = posed g.A.Aggregate.meaning a.question.now in
    let l = c.steps in
    let n = c.step in
    let e = c.in_default.ensures in (
      e.kept ∙ l.invariant.0,
      e.ready,
      λ old s st.
          (let was = l.invariant.2 old s st in
          goes_on t q s old l.candidates.len l.candidates.slots.now l.hits l.progress (S.asked a.source.now a.meter.now) (S.asked a.source.now l.meter) was n.new.hits n.new.progress (S.asked a.source.now n.new.meter) n.new.candidates.len n.new.candidates.slots.now
          (subst (λ (u : Tables). (o : List Neighbor) (z : State ℕ) → Stands u q o l.candidates.len l.candidates.slots.now l.hits l.progress z → Goes u q z o l.candidates.len n.new.candidates.len l.candidates.slots.now n.new.candidates.slots.now n.new.hits l.progress n.new.progress (S.asked a.source.now l.meter) (S.asked a.source.now n.new.meter)) l.invariant.0 e.steps old was.s was.stands)),
      e.same ∙ l.invariant.3,
      e.same_reference ∙ l.invariant.4,
    )
