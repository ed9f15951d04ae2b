use Rattle.std.proofs.Common.{◌<◌, length, sym, ◌∙◌, arith}
use Rattle.engine.specs.Outcomes.{posed}
use Rattle.engine.proofs.Moves.{is_full, is_empty, is_dry, is_halted, is_named, is_measured, fine}
use Rattle.engine.proofs.steps.step.Goals as goal

pub returns-then-at-question-clause-steps : goal.returns-then-at-question-clause-steps
returns-then-at-question-clause-steps g c =
    let a = c.args in
    let S = g.S.Source in
    λ old s st. is_full (S.tables a.source.now a.meter.now) (posed g.A.Aggregate.meaning a.question.now) old a.candidates.now.len a.candidates.now.slots.now a.hits.now a.progress.now s st (S.asked a.source.now a.meter.now) c.if-at-question.true

pub returns-in_default-clause-steps : goal.returns-in_default-clause-steps
returns-in_default-clause-steps g c =
    let a = c.args in
    let S = g.S.Source in
    λ old s st. is_empty (S.tables a.source.now a.meter.now) (posed g.A.Aggregate.meaning a.question.now) old a.candidates.now.len a.candidates.now.slots.now a.hits.now a.progress.now s st (S.asked a.source.now a.meter.now) c.in_default.ensures

pub returns-in-Finish-clause-steps : goal.returns-in-Finish-clause-steps
returns-in-Finish-clause-steps g c =
    let a = c.args in
    let S = g.S.Source in
    λ old s st. is_dry (S.tables a.source.now a.meter.now) (posed g.A.Aggregate.meaning a.question.now) old a.candidates.now.len a.candidates.now.slots.now a.hits.now a.progress.now s st c.in-Some.top c.in-Some.ensures (S.asked a.source.now a.meter.now) c.in-Finish.ensures

pub returns-in-Stop-clause-steps : goal.returns-in-Stop-clause-steps
returns-in-Stop-clause-steps g c =
    let a = c.args in
    let S = g.S.Source in
    let m = c.in-Stop.ensures in
    λ old s st. is_halted (S.tables a.source.now a.meter.now) (posed g.A.Aggregate.meaning a.question.now) old a.candidates.now.len a.candidates.now.slots.now a.hits.now a.progress.now s st c.in-Some.top c.in-Some.ensures c.if-at-question.false m.0 (S.asked a.source.now a.meter.now) (λ z. m.1 (z ∙ sym c.requires.weighable.weighted)) m.2

pub returns-in-Name-clause-steps : goal.returns-in-Name-clause-steps
returns-in-Name-clause-steps g c =
    let a = c.args in
    let S = g.S.Source in
    let n = c.name in
    let e = n.ensures in
    let m = c.in-Name.ensures in
    let more : a.progress.now.named < a.question.now.k = c.if-at-question.false in
    λ old s st.
    (let room : a.progress.now.named < length a.hits.now = (let r = c.requires.room in let z = c.in-Some.ensures.some in let f = st.few in omega arith) in
    is_named (S.tables a.source.now a.meter.now) (posed g.A.Aggregate.meaning a.question.now) old a.candidates.now.len a.candidates.now.slots.now a.hits.now a.progress.now s st c.in-Some.top c.in-Some.ensures more m.0 e.popped.0 n.new.candidates.len n.new.candidates.slots.now n.new.hits n.result (S.asked a.source.now a.meter.now) room n.new.candidates.room e.len (m.1 ∙ c.requires.weighable.weighted) e.popped.1 e.hits e.progress)

pub returns-in-Measure-clause-steps : goal.returns-in-Measure-clause-steps
returns-in-Measure-clause-steps g c =
    let a = c.args in
    let S = g.S.Source in
    let n = c.measure in
    let e = n.ensures in
    let m = c.in-Measure.ensures in
    λ old s st.
    is_measured (S.tables a.source.now a.meter.now) (posed g.A.Aggregate.meaning a.question.now) old a.candidates.now.len a.candidates.now.slots.now a.hits.now a.progress.now s st c.in-Some.top c.in-Some.ensures c.if-at-question.false m.0 e.replaced.0 e.replaced.1 n.new.candidates.len n.new.candidates.slots.now n.result (S.asked a.source.now a.meter.now) (S.asked a.source.now n.new.meter) n.new.candidates.room e.len (λ z. m.1 (z ∙ sym c.requires.weighable.weighted)) m.2 e.replaced.2 e.replaced.3 e.progress e.adds

pub measure-requires-clause-sound : goal.measure-requires-clause-sound
measure-requires-clause-sound g c =
    let a = c.args in
    (fine (g.S.Source.tables a.source.now a.meter.now) (posed g.A.Aggregate.meaning a.question.now) c.requires.stands.0 a.candidates.now.len a.candidates.now.slots.now a.hits.now a.progress.now c.requires.stands.1 c.requires.stands.2 c.in-Some.top c.in-Some.ensures).sound

pub measure-requires-clause-more : goal.measure-requires-clause-more
measure-requires-clause-more g c =
    let a = c.args in
    let f = fine (g.S.Source.tables a.source.now a.meter.now) (posed g.A.Aggregate.meaning a.question.now) c.requires.stands.0 a.candidates.now.len a.candidates.now.slots.now a.hits.now a.progress.now c.requires.stands.1 c.requires.stands.2 c.in-Some.top c.in-Some.ensures in
    let n = f.sound.within in
    let w = c.requires.weighable.weighted in
    omega (arith, c.in-Measure.ensures.1)
