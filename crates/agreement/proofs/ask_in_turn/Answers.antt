use Rattle.search.specs.Promised.{question}
use Rattle.agreement.specs.Agreements.{found}
use Rattle.agreement.proofs.Agreeing.{agreeing}
use Rattle.agreement.proofs.ask_in_turn.Goals as goal

pub returns : goal.returns
returns g c =
    let a = c.args in
    let q = a.query.now in
    let one = c.nearest-here in
    let two = c.nearest-there in
    let x = a.one.now in
    let y = a.other.now in
    agreeing (found (g.S.ChannelSet.models x.set) x.counts a.one_store.now) (found (g.T.ChannelSet.models y.set) y.counts a.other_store.now)
    (question q.rows.now q.weights.now (g.A.Aggregate.meaning q.aggregate) q.k q.radius) a.one_budget a.other_budget
    one.new.hits two.new.hits (g.S.ChannelSet.asked x.set) (g.S.ChannelSet.asked one.new.index.set) (g.T.ChannelSet.asked y.set) (g.T.ChannelSet.asked two.new.index.set)
    (g.met.T.ChannelSet.some y.set) (g.met.T.ChannelSet.lawful y.set) (g.met.A.Aggregate.lawful q.aggregate)
    one.result two.result one.ensures.promised two.ensures.promised
