use Rattle.std.proofs.Common.{refl, subst, arith, rules}
use Rattle.std.proofs.lemmas.List.{take_all}
use Rattle.queue.proofs.KLeast.{Keeping, keep_begins, selects}
use Rattle.queue.proofs.select.select.Goals as goal

pub loop-v-init : goal.loop-v-init
loop-v-init c = let new = c.new-least.ensures in record { same_reference = refl; keeps = keep_begins _ c.args.slots.now _ new.len new.slots }

pub returns : goal.returns
returns c =
    let l = c.loop-v in
    let h = l.least in
    let v = c.args.values.now in
    selects h.len v c.args.slots.now h.slots.now _ c.threshold.result (search rules) c.requires h.room
    (subst (λ p. Keeping h.len p c.args.slots.now h.slots.now) (take_all _ v (omega arith)) l.invariant.keeps) c.threshold.ensures
