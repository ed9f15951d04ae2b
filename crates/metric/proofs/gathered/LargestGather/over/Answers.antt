use Rattle.std.proofs.Common.{◌∙◌}
use Rattle.metric.specs.Gathered.{by_max, across_more, across_all}
use Rattle.metric.proofs.gathered.LargestGather.over.Goals as goal

pub loop-i-preserved : goal.loop-i-preserved
loop-i-preserved g c =
    across_more by_max g.D.ByteDistance.between c.loop-i.i c.loop-i.most c.of.result _ c.args.a.now c.args.b.now c.loop-i-test.true c.requires.alike c.of.ensures c.loop-i.invariant c.max-most.ensures

pub returns : goal.returns
returns g c =
    c.from.ensures ∙ across_all by_max g.D.ByteDistance.between c.loop-i.i _ c.args.a.now c.args.b.now c.loop-i-test.false c.requires.alike c.loop-i.invariant
