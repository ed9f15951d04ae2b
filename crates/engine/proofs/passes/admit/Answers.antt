use Rattle.std.proofs.Common.{ℕ, ◌+◌, Bool, sym, refl, ap, ◌∙◌, subst, arith}
use Rattle.engine.specs.Passes.{plain, passes, bound_at, Admits}
use Rattle.engine.proofs.Pass.{admits_none, admits_no, admits_yes}
use Rattle.engine.proofs.passes.admit.Goals as goal
use Rattle.engine.proofs.passes.admit.Goals.{then-admissible, else-admissible}

pub loop-slot-init : goal.loop-slot-init
loop-slot-init g c = let h = c.args.candidates.now in record { same_reference = refl; slots = refl; admitted = admits_none _ _ _ h.slots.now h.len c.requires.none }

pub loop-slot-preserved : goal.loop-slot-preserved
loop-slot-preserved g c =
    let t = g.S.Source.tables c.args.source.now c.args.meter.now in
    let w = c.args.weights.now in
    let xs = c.args.candidates.now.slots.now in
    let l = c.loop-slot in
    let was = l.invariant in
    let h = l.candidates in
    let p : ℕ → Bool = λ i. passes c.args.radius (plain c.args.limit) (bound_at xs i) in
    let at = ap (λ ys. passes c.args.radius (plain c.args.limit) (bound_at ys l.slot)) c.slots.ensures ∙ ap (passes c.args.radius (plain c.args.limit)) (was.admitted.stand l.slot (omega arith)) in
    elim c.if-admissible.branch [
      | then-admissible v ↦ rw v.candidates-is (
          let e = v.enter.ensures in
          let en = e.entered in
          let new = v.enter.new.candidates in
          record {
            same_reference = e.same_reference ∙ was.same_reference;
            slots = e.slots ∙ was.slots;
            admitted = subst (λ (n : ℕ). Admits t w p (l.slot + 1) n xs new.slots.now) (sym e.len)
                (admits_yes t w p xs l.slot h.len h.slots.now was.admitted en.0 new.slots.now _ (ap (λ ys. bound_at ys l.slot) c.slots.ensures) en.1 en.2 (sym (v.if-admissible.ensures ∙ at)));
          })
      | else-admissible v ↦ rw v.candidates-is (record {
        same_reference = was.same_reference;
        slots = was.slots;
        admitted = admits_no t w p xs l.slot h.len h.slots.now was.admitted (sym (v.if-admissible.ensures ∙ at));
      })
    ]
