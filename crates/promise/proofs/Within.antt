-- No run names more than is wanted, nor measures more than the budget allows.
use Rattle.std.proofs.Common.{ℕ, ◌≤◌, Bool, List, length, arith}
use Rattle.std.proofs.lemmas.List.{length_push}
use Rattle.metric.specs.Channels.{Asked}
use Rattle.refine.specs.Chains.{Table, table}
use Rattle.refine.specs.Steps.{State, begin, names, measures, Runs, finishes, stops, goes}
use Rattle.engine.specs.declared.records.Neighbor.{Neighbor}
use Rattle.engine.specs.declared.records.Answer.{Answer}
use Rattle.engine.specs.Tables.{Tables}
use Rattle.engine.specs.Outcomes.{Question, slots_of, family_of, Ran}

module _ {A K : Type 0} (x : Table A K) (k budget : ℕ) where
  runs_within : (s : State A) {b : Bool} {e : State A} → Runs x k budget s b e → length s.named ≤ k → s.measured ≤ budget → (length e.named ≤ k) × (e.measured ≤ budget)
  runs_within s (finishes m) n c = (n, c)
  runs_within s (stops m) n c = (n, c)
  runs_within s (goes {s' = s'} (names d rest y l w t) r) n c = runs_within s' r (omega (arith, length_push s.named d.patch)) c
  runs_within s (goes {s' = s'} (measures d rest y l w t f) r) n c = runs_within s' r n (omega arith)

pub ran_within : (t : Tables) (q : Question) (a : Answer) (f f' : List Neighbor) (s s' : Asked) → Ran t q a f f' s s' → (a.named ≤ q.k) × (a.measured ≤ q.budget)
ran_within t q a f f' s s' ran =
    let w = runs_within (table (family_of t q) q.radius) q.k q.budget (begin (family_of t q) q.k q.radius (slots_of t)) ran.run (omega arith) (omega arith) in
    (omega (arith, w.0, ran.named), omega (arith, w.1, ran.measured))
