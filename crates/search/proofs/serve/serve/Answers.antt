use Rattle.std.proofs.Common.{List, subst}
use Rattle.metric.specs.Model.{Model}
use Rattle.patch.specs.Patches.{few}
use Rattle.engine.specs.Outcomes.{posed, Ran}
use Rattle.promise.specs.Held.{held_tables, NearAsks}
use Rattle.search.specs.Promised.{either}
use Rattle.search.proofs.Asking.{ran_wider}
use Rattle.search.proofs.serve.serve.Goals as goal

pub returns-clause-ran : goal.returns-clause-ran
returns-clause-ran g c =
    let S = g.S.ChannelSet in
    let a = c.args in
    let n = c.ask_pivots-near in
    let r = c.refine in
    let b = a.view.now.store.now in
    let rows = a.view.now.query.now in
    let k = a.view.now.counts in
    let q = posed g.A.Aggregate.meaning a.question.now in
    let ms = S.models a.set.now in
    ran_wider (held_tables (few ms) k b rows) q r.result a.hits.now r.new.hits (S.asked n.new.set) (either (S.asked a.set.now) (NearAsks (few ms) k b rows)) (S.asked r.new.meter)
    n.ensures.asks
    (subst (λ (ls : List Model). Ran (held_tables (few ls) k b rows) q r.result a.hits.now r.new.hits (S.asked n.new.set) (S.asked r.new.meter)) n.ensures.kept r.ensures.ran)
