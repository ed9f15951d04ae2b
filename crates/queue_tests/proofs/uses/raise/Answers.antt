use Rattle.std.proofs.Common.{Some, None, Option, subst, MatchOption}
use Rattle.queue.specs.Heaps.{Replaced}
use Rattle.queue.proofs.Slots.{same_top}
use Rattle.queue_tests.specs.Entries.{ByBound, rebound}
use Rattle.queue_tests.specs.declared.entry.Entry.{Entry}
use Rattle.queue_tests.proofs.uses.raise.Goals as goal

under : {X : Type 0} (r : Option X) (P : Type 0) (Q Q' : X → Type 0) → ((x : X) → Q x → Q' x) → MatchOption r P Q → MatchOption r P Q'
under None P Q Q' f h = h
under (Some x) P Q Q' f h = f x h

pub returns-clause-raised : goal.returns-clause-raised
returns-clause-raised c =
    let xs = c.args.heap.now.slots.now in
    let ys = c.replace_top.new.self.slots.now in
    let n = c.args.heap.now.len in
    let top = c.in_ok-top.top in
    under c.replace_top.result _ _ _
    (λ y h. subst (λ (z : Entry). Replaced ByBound n (rebound c.args.bound z) y xs ys) (same_top ByBound n n top y xs c.in_ok-top.ensures h.top) h)
    c.replace_top.ensures.replaced
