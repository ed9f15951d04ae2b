use Rattle.std.proofs.Common.{ℕ, List, length, map, sym, refl, ◌∙◌, subst, arith}
use Rattle.std.specs.List.{range_with_len}
use Rattle.std.proofs.lemmas.List.FromFn.{map-range_with_len_more, length-map-range_with_len}
use Rattle.queue.specs.Selection.{Offered}
use Rattle.queue.proofs.KLeast.{Keeping, keep_begins}
use Rattle.engine.specs.Tables.{slot_family}
use Rattle.engine.proofs.Pass.{bounds_more, keeps_more, kth_kept}
use Rattle.engine.proofs.passes.survey.Goals as goal

pub loop-slot-init : goal.loop-slot-init
loop-slot-init g c = let new = c.new-least.ensures in record { same_reference = refl; bounds = λ i l. absurd (omega arith); keeps = keep_begins _ c.args.kept.now _ new.len new.slots }

pub loop-slot-preserved : goal.loop-slot-preserved
loop-slot-preserved g c =
    let f = slot_family (g.S.Source.tables c.args.source.now c.args.meter.now) c.args.question.now.weights.now (g.A.Aggregate.meaning c.args.question.now.aggregate.now) in
    let l = c.loop-slot in
    let h = l.least in
    let e = c.extremes-lower in
    let o = c.offer in
    record {
      same_reference = o.ensures.same_reference ∙ l.invariant.same_reference;
      bounds = bounds_more f l.slot l.candidates _ (omega arith) e.ensures.lower l.invariant.bounds;
      keeps = subst (λ (p : List ℕ). Keeping o.new.self.len p c.args.kept.now o.new.self.slots.now) (sym (map-range_with_len_more f.upper 0 l.slot l.slot (omega arith)))
          (keeps_more h.len o.new.self.len (f.upper l.slot) (map f.upper (range_with_len 0 l.slot)) c.args.kept.now h.slots.now o.new.self.slots.now o.ensures.slots
          (subst (λ (x : ℕ). Offered (length h.slots.now) h.len x h.slots.now o.new.self.len o.new.self.slots.now) e.ensures.upper o.ensures.offered) l.invariant.keeps);
    }

pub returns-clause-value : goal.returns-clause-value
returns-clause-value g c =
    let t = g.S.Source.tables c.args.source.now c.args.meter.now in
    let f = slot_family t c.args.question.now.weights.now (g.A.Aggregate.meaning c.args.question.now.aggregate.now) in
    let l = c.loop-slot in
    let h = l.least in
    kth_kept h.len t.slots (map f.upper (range_with_len 0 t.slots)) c.args.kept.now h.slots.now c.threshold.result h.room (length-map-range_with_len f.upper 0 t.slots)
    (subst (λ (n : ℕ). Keeping h.len (map f.upper (range_with_len 0 n)) c.args.kept.now h.slots.now) (omega arith) l.invariant.keeps) c.threshold.ensures
