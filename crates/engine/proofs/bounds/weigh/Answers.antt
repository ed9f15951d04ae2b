use Rattle.std.proofs.Common.{arith}
use Rattle.engine.proofs.Fills.{filled_more}
use Rattle.engine.proofs.bounds.weigh.Goals as goal

pub loop-c-preserved : goal.loop-c-preserved
loop-c-preserved g c =
    let l = c.loop-c in
    let b = c.bounds-lower.ensures in (
      filled_more _ l.c l.lowers c.scale.result (omega arith) (cc (b.lower)) c.scale.ensures.small l.invariant.0,
      filled_more _ l.c l.uppers c.scale-in-loop-c.result (omega arith) (cc (b.upper)) c.scale-in-loop-c.ensures.small l.invariant.1,
    )
