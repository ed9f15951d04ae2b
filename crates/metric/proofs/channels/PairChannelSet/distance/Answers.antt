use Rattle.std.proofs.Common.{◌≡◌, ◌+◌, length, ap, arith}
use Rattle.metric.specs.Beside.{counted, adds_first, adds_second}
use Rattle.metric.proofs.channels.PairChannelSet.distance.Goals as goal

pub returns-in-None-clause-adds : goal.returns-in-None-clause-adds
returns-in-None-clause-adds g c = adds_first _ _ _ _ _ _ _ _ (ap length c.distance.ensures.kept) c.distance.ensures.adds

pub returns-in-Some-clause-adds : goal.returns-in-Some-clause-adds
returns-in-Some-clause-adds g c =
    let l : c.args.c ≡ length (g.A.ChannelSet.models c.args.self.now.first) + c.in-Some.j = omega (arith, c.in-Some.ensures, counted _ (g.B.ChannelSet.models c.args.self.now.second) c.args.c c.in-Some.j c.in-Some.ensures c.requires.channel) in
    adds_second _ _ _ _ _ _ _ _ l c.distance-in-Some.ensures.adds
