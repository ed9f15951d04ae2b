use Rattle.std.proofs.Common.{map, take, arith}
use Rattle.std.specs.List.{range_with_len}
use Rattle.std.proofs.lemmas.List.FromFn.{length-map-range_with_len}
use Rattle.std.proofs.lemmas.List.{length-take-le}
use Rattle.engine.specs.Tables.{slot_family}
use Rattle.engine.proofs.Pass.{threshold_found}
use Rattle.engine.proofs.passes.limit.Goals as goal
use Rattle.engine.proofs.passes.limit.Goals.{then-question-uppers, else-question-uppers}

pub returns-clause-value : goal.returns-clause-value
returns-clause-value g c =
    let t = g.S.Source.tables c.args.source.now c.args.meter.now in
    let f = slot_family t c.args.question.now.weights.now (g.A.Aggregate.meaning c.args.question.now.aggregate.now) in
    let xs = c.args.uppers.now in
    let k = c.args.question.now.k in
    let room = c.if-question-uppers.room in
    let p = map f.upper (range_with_len 0 t.slots) in
    let found = threshold_found k room t.slots (take room xs) p c.survey.result c.requires.wanted (length-map-range_with_len f.upper 0 t.slots) in
    elim c.if-question-uppers.branch [
      | then-question-uppers v ↦ found (λ a. absurd (omega (arith, v.room-is))) (omega (arith, v.room-is)) (length-take-le room xs (omega (arith, v.room-is))) c.survey.ensures.value
      | else-question-uppers v ↦ found (λ a. (omega (arith, v.if-question-uppers), v.room-is)) (omega (arith, v.room-is)) (length-take-le room xs (omega (arith, v.room-is))) c.survey.ensures.value
    ]
