use Rattle.std.proofs.Common.{refl, arith, ◌∙◌}
use Rattle.metric.specs.Gathered.{by_sum, across_more, across_all}
use Rattle.metric.proofs.gathered.SumGather.over.Goals as goal

pub loop-i-preserved : goal.loop-i-preserved
loop-i-preserved g c = (
  omega arith,
  across_more by_sum g.D.ByteDistance.between c.loop-i.i c.loop-i.sum c.from-sum.result _ c.args.a.now c.args.b.now c.loop-i-test.true c.requires.alike (c.from-sum.ensures ∙ c.of.ensures) c.loop-i.invariant.1 refl,
)

pub returns : goal.returns
returns g c =
    across_all by_sum g.D.ByteDistance.between c.loop-i.i _ c.args.a.now c.args.b.now c.loop-i-test.false c.requires.alike c.loop-i.invariant.1
