use Rattle.engine.specs.Slots.{weighted_lower, weighted_upper, Filled}
use Rattle.engine.proofs.bounds.weigh.Given as goal

abbrev pub invariant-loop-c : goal.invariant-loop-c
invariant-loop-c g l =
    let t = g.S.Source.tables l.source l.meter in
    Filled (weighted_lower t l.weights l.slot) l.c l.lowers × Filled (weighted_upper t l.weights l.slot) l.c l.uppers
