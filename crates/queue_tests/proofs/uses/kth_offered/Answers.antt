use Rattle.std.proofs.Common.{◌≡◌, ℕ, ◌<◌, ◌≤◌, ◌⊎◌, List, [], length, take, Some, None, Option, sym, ap, subst, inl, inr, ⊎_elim, arith, MatchOption}
use Rattle.std.proofs.lemmas.List.{take_all, length-take-le}
use Rattle.std.proofs.lemmas.Bool.{cases_eq}
use Rattle.queue.specs.Selection.{Kept, KthLeast, Threshold}
use Rattle.queue.specs.declared.rank.Upper.{Upper}
use Rattle.queue.proofs.KLeast.{none_kept}
use Rattle.queue_tests.proofs.uses.kth_offered.Goals as goal

pub loop-v-init : goal.loop-v-init
loop-v-init c =
    let new = c.new-least.ensures in
    let k = length c.args.slots.now in
    (ap length new.slots, subst (λ n. Kept k [] (take n c.new-least.result.slots.now)) (sym new.len) (none_kept k))

kth : (k n : ℕ) (p : List ℕ) (xs : List Upper) (r : Option ℕ) → length xs ≡ k → n ≤ length xs → Kept k p (take n xs) → MatchOption r ((n < length xs) ⊎ (n ≡ 0)) (λ v. Threshold (length xs) n v xs) → MatchOption r ((k ≡ 0) ⊎ (length p < k)) (λ v. KthLeast k v p)
kth k n p xs None long le was h =
    let z = was.size in
    let l = length-take-le n xs le in
    ⊎_elim (λ a. inr (omega arith)) (λ e. ⊎_elim (λ q. inl q) (λ q. inr (omega arith)) (cases_eq k 0)) h
kth k n p xs (Some v) long le was h = subst (λ j. KthLeast j v p) long (h.kth p (subst (λ j. Kept j p (take n xs)) (sym long) was)).0

pub returns : goal.returns
returns c =
    let l = c.loop-v in
    let h = l.least in
    let v = c.args.values.now in
    let k = length c.args.slots.now in
    kth k h.len v h.slots.now c.threshold.result l.invariant.0 h.room (subst (λ p. Kept k p (take h.len h.slots.now)) (take_all _ v (omega arith)) l.invariant.1) c.threshold.ensures
