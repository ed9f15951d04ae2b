use Rattle.std.proofs.Common.{◌≡◌, map}
use Rattle.std.specs.List.{range_with_len}
use Rattle.queue.proofs.KLeast.{Keeping}
use Rattle.engine.specs.Tables.{slot_family}
use Rattle.engine.specs.Passes.{FirstBounds}
use Rattle.engine.proofs.passes.survey.Given as goal

abbrev pub invariant-loop-slot : goal.invariant-loop-slot
invariant-loop-slot g l =
    let f = slot_family (g.S.Source.tables l.source l.meter) l.question.weights.now (g.A.Aggregate.meaning l.question.aggregate.now) in
    record {
      same_reference : l.least.slots.ghost_name ≡ l.initial.least.slots.ghost_name;
      bounds : FirstBounds f l.slot l.candidates;
      keeps : Keeping l.least.len (map f.upper (range_with_len 0 l.slot)) l.fn.kept l.least.slots.now;
    }
