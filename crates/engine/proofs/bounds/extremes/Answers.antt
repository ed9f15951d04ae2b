use Rattle.std.proofs.Common.{ℕ, map, length, ap, ◌∙◌, arith}
use Rattle.std.specs.List.{range_with_len}
use Rattle.refine.specs.Bounds.{Channels, entry}
use Rattle.engine.specs.Tables.{channels_of}
use Rattle.engine.specs.Slots.{weighted_lower, weighted_upper}
use Rattle.engine.proofs.Fills.{filled_all, filled_entries, filled_same, entry_none}
use Rattle.engine.proofs.bounds.extremes.Goals as goal

pub combine-requires : goal.combine-requires
combine-requires g c =
    let t = g.S.Source.tables c.args.source.now c.args.meter.now in
    let w = c.args.question.now.weights.now in
    filled_entries (weighted_lower t w c.args.slot) (length w) c.weigh.new.lowers (omega arith) (omega arith) (omega (arith, c.weigh.auto.lowers)) c.weigh.ensures.lowers

pub combine-requires-2 : goal.combine-requires-2
combine-requires-2 g c =
    let t = g.S.Source.tables c.args.source.now c.args.meter.now in
    let w = c.args.question.now.weights.now in
    filled_entries (weighted_upper t w c.args.slot) (length w) c.weigh.new.uppers (omega arith) (omega arith) (omega (arith, c.weigh.auto.uppers)) c.weigh.ensures.uppers

pub returns : goal.returns
returns g c =
    let t = g.S.Source.tables c.args.source.now c.args.meter.now in
    let w = c.args.question.now.weights.now in
    let i = c.args.slot in
    let cs : Channels = channels_of t w i in
    let f : ℕ → ℕ = entry t.channels cs 0 in
    let J = g.A.Aggregate.meaning c.args.question.now.aggregate.now in
    let e = c.requires.weighable.weighted in
    record {
      lower = c.combine.ensures ∙ ap J (filled_all f (length w) c.weigh.new.lowers (omega (arith, c.weigh.auto.lowers)) (filled_same (weighted_lower t w i) f (length w) c.weigh.new.lowers (entry_none t.channels cs) c.weigh.ensures.lowers) ∙ ap (λ (m : ℕ). map f (range_with_len 0 m)) e);
      upper = c.combine-2.ensures ∙ ap J (filled_all (weighted_upper t w i) (length w) c.weigh.new.uppers (omega (arith, c.weigh.auto.uppers)) c.weigh.ensures.uppers ∙ ap (λ (m : ℕ). map (weighted_upper t w i) (range_with_len 0 m)) e);
    }
