use Rattle.std.proofs.Common.{◌≡◌, ℕ, length, take, refl, ◌∙◌, subst, arith}
use Rattle.std.proofs.lemmas.List.{length-take-le}
use Rattle.refine.specs.Bounds.{Channels, entry}
use Rattle.engine.specs.Tables.{channels_of}
use Rattle.engine.specs.Order.{Gaps}
use Rattle.engine.specs.Slots.{weighted_lower, Filled}
use Rattle.engine.proofs.Fills.{filled_same, entry_none, gaps_are, in_order_at}
use Rattle.engine.proofs.bounds.unmeasured.Goals as goal

pub returns : goal.returns
returns g c =
    let t = g.S.Source.tables c.args.source.now c.args.meter.now in
    let w = c.args.weights.now in
    let i = c.args.slot in
    let m = t.channels in
    let cs : Channels = channels_of t w i in
    let ls = c.weigh.new.lowers in
    let us = c.weigh.new.uppers in
    let vs = c.gaps_between-gaps.result in
    let e = c.requires.weighable.weighted in
    let n : length (take (length w) vs) ≡ m = length-take-le (length w) vs (omega (arith, c.gaps_between-gaps.ensures.long)) ∙ e in
    let gs = gaps_are t w i (length w) ls us vs c.weigh.ensures.lowers c.weigh.ensures.uppers (λ k l. c.gaps_between-gaps.ensures.gaps k (omega arith)) in
    record {
      sound = record {
        slot = c.requires.slot;
        number = c.number.ensures;
        within = omega arith;
        order = in_order_at (length (take (length w) vs)) m (take (length w) vs) c.rank.new.order n c.rank.ensures cs (subst (λ (k : ℕ). Gaps k cs (take (length w) vs)) e gs);
        entries = subst (λ (k : ℕ). Filled (entry m cs 0) k ls) e (filled_same (weighted_lower t w i) (entry m cs 0) (length w) ls (entry_none m cs) c.weigh.ensures.lowers);
        order_long = c.rank.auto.order;
        entries_long = c.weigh.auto.lowers;
      };
      slot = refl;
      bound = refl;
      measured = refl;
    }
