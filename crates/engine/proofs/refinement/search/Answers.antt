use Rattle.std.proofs.Common.{sym, ◌∙◌, subst, arith}
use Rattle.refine.specs.Steps.{begin}
use Rattle.engine.specs.Passes.{plain}
use Rattle.engine.specs.declared.records.Answer.{Answer}
use Rattle.engine.specs.Outcomes.{posed, slots_of, family_of, Ran}
use Rattle.engine.proofs.Begins.{admitted_from, counted, stands_first}
use Rattle.engine.proofs.refinement.search.Goals as goal

pub run-end-requires-clause-stands : goal.run-end-requires-clause-stands
run-end-requires-clause-stands g c =
    let a = c.args in
    let t = g.S.Source.tables a.source.now a.meter.now in
    let q = posed g.A.Aggregate.meaning a.question.now in
    let lim = c.limit-most in
    let new = c.new-waiting in
    let ad = c.admit in
    let ys = ad.new.candidates in
    let from = new.ensures.slots in
    let admits = admitted_from t q (plain lim.result) ys.len lim.new.candidates new.result.slots.now ys.slots.now from ad.ensures.admitted in
    (a.hits.now, begin (family_of t q) q.k q.radius (slots_of t), stands_first t q (plain lim.result) ys.len lim.new.candidates ys.slots.now lim.ensures.bounds lim.ensures.value admits ys.room a.hits.now)

pub answer-requires-clause-named : goal.answer-requires-clause-named
answer-requires-clause-named g c =
    let a = c.args in
    let t = g.S.Source.tables a.source.now a.meter.now in
    let q = posed g.A.Aggregate.meaning a.question.now in
    let lim = c.limit-most in
    let new = c.new-waiting in
    let ad = c.admit in
    let ys = ad.new.candidates in
    let from = new.ensures.slots in
    let admits = admitted_from t q (plain lim.result) ys.len lim.new.candidates new.result.slots.now ys.slots.now from ad.ensures.admitted in
    let e = c.run-end.ensures.ends a.hits.now (begin (family_of t q) q.k q.radius (slots_of t)) (stands_first t q (plain lim.result) ys.len lim.new.candidates ys.slots.now lim.ensures.bounds lim.ensures.value admits ys.room a.hits.now) in
    omega (arith, e.few, c.requires.fits.slots)

pub returns-clause-ran : goal.returns-clause-ran
returns-clause-ran g c =
    let a = c.args in
    let t = g.S.Source.tables a.source.now a.meter.now in
    let q = posed g.A.Aggregate.meaning a.question.now in
    let lim = c.limit-most in
    let new = c.new-waiting in
    let ad = c.admit in
    let ys = ad.new.candidates in
    let from = new.ensures.slots in
    let r = c.run-end in
    let admits = admitted_from t q (plain lim.result) ys.len lim.new.candidates new.result.slots.now ys.slots.now from ad.ensures.admitted in
    let e = r.ensures.ends a.hits.now (begin (family_of t q) q.k q.radius (slots_of t)) (stands_first t q (plain lim.result) ys.len lim.new.candidates ys.slots.now lim.ensures.bounds lim.ensures.value admits ys.room a.hits.now) in
    subst (λ (z : Answer). Ran t q z a.hits.now r.new.hits (g.S.Source.asked a.source.now a.meter.now) (g.S.Source.asked a.source.now r.new.meter)) (sym c.answer.ensures) (record {
      end = e.end;
      run = e.run;
      named = e.named;
      measured = e.measured;
      admitted = c.len-admitted.ensures ∙ counted t q (plain lim.result) ys.len lim.new.candidates ys.slots.now lim.ensures.bounds lim.ensures.value admits ys.room;
      hits = e.hits;
      asks = e.asks;
    })
