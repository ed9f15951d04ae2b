use Rattle.std.proofs.Common.{◌≡◌, length}
use Rattle.engine.specs.Passes.{plain, passes, bound_at, Admits}
use Rattle.engine.proofs.passes.admit.Given as goal

abbrev pub invariant-loop-slot : goal.invariant-loop-slot
invariant-loop-slot g l = record {
  same_reference : l.candidates.slots.ghost_name ≡ l.initial.candidates.slots.ghost_name;
  slots : length l.candidates.slots.now ≡ length l.initial.candidates.slots.now;
  admitted : Admits (g.S.Source.tables l.source l.meter) l.weights (λ i. passes l.radius (plain l.limit) (bound_at l.initial.candidates.slots.now i)) l.slot l.candidates.len l.initial.candidates.slots.now l.candidates.slots.now;
}
