use Rattle.std.proofs.Common.{length, refl, ap, arith}
use Rattle.queue.proofs.KLeast.{let_in, outside, passes, displaces}
use Rattle.queue.proofs.select.Heap+Upper.offer.Goals as goal

pub returns-then-len-slots-clause-offered : goal.returns-then-len-slots-clause-offered
returns-then-len-slots-clause-offered c =
    let h = c.args.self.now in
    let long = ap length c.slots.ensures in
    let p = c.push-pushed.ensures in
    let_in _ h.len _ _ h.slots.now _ h.room (omega arith) p.slots _ c.push-pushed.result refl (omega arith) p.pushed

pub returns-then-x-top-clause-offered : goal.returns-then-x-top-clause-offered
returns-then-x-top-clause-offered c =
    let h = c.args.self.now in
    let long = ap length c.slots.ensures in
    let fits = h.room in
    let r = c.replace_top.ensures in
    displaces _ h.len _ _ h.slots.now _ h.room (omega arith) r.slots r.len (omega arith) _ c.in-Some.ensures _ c.replace_top.result refl (omega arith) r.replaced

pub returns-else-x-top-clause-offered : goal.returns-else-x-top-clause-offered
returns-else-x-top-clause-offered c =
    let h = c.args.self.now in
    let long = ap length c.slots.ensures in
    let fits = h.room in
    passes _ h.len _ _ h.slots.now _ h.room (omega arith) refl refl (omega arith) _ c.in-Some.ensures refl (omega arith)

pub returns-in_default-clause-offered : goal.returns-in_default-clause-offered
returns-in_default-clause-offered c =
    let h = c.args.self.now in
    let long = ap length c.slots.ensures in
    let fits = h.room in
    outside _ h.len _ _ h.slots.now _ h.room (omega arith) refl refl (omega arith) refl c.in_default.ensures
