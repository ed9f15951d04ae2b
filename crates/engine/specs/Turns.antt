-- One step of the engine, and a whole run.
use Rattle.std.specs.Prelude.{◌≡◌, ℕ, suc, ◌+◌, ◌-◌, ◌<◌, ◌≤◌, Bool, true, false, ◌⊎◌, List, ◌++◌, map, length, take, drop, sum_by, ◌≢◌, Option, Some, None}
use Rattle.std.specs.List.Sorted.{IsPermutation}
use Rattle.std.specs.List.{AllByRecursion as Every}
use Rattle.metric.specs.Channels.{Asked}
use Rattle.queue.specs.Heaps.{Heaped}
use Rattle.refine.specs.Chains.{table}
use Rattle.refine.specs.Steps.{State, Next, done, halt, on, Move, Runs}
use Rattle.engine.specs.declared.records.Neighbor.{Neighbor}
use Rattle.engine.specs.declared.records.Candidate.{Candidate}
use Rattle.engine.specs.declared.records.Progress.{Progress}
use Rattle.engine.specs.declared.records.End.{End}
use Rattle.engine.specs.declared.records.End.TheVariants.{Finished, Stopped}
use Rattle.engine.specs.declared.records.Turn.{Turn}
use Rattle.engine.specs.declared.records.Turn.TheVariants.{Finish, Name, Stop, Measure}
use Rattle.engine.specs.Tables.{Tables}
use Rattle.engine.specs.Kinds.{ByBound}
use Rattle.engine.specs.Slots.{Coherent}
use Rattle.engine.specs.Passes.{spot}
use Rattle.engine.specs.Outcomes.{Question, family_of, hit, Measured}

-- what is to be done with the least candidate x, of m channels, when so many channels are measured in all
abbrev pub Turns : Turn → (x : Candidate) → (m radius budget measured : ℕ) → Type 0
Turns Finish x m radius budget measured = radius < x.bound
Turns Name x m radius budget measured = (x.bound ≤ radius) × (x.measured ≡ m)
Turns Stop x m radius budget measured = (x.bound ≤ radius) × (x.measured ≢ m) × (budget ≤ measured)
Turns Measure x m radius budget measured = (x.bound ≤ radius) × (x.measured ≢ m) × (measured < budget)

-- y is x with one channel more measured
pub record Advanced (t : Tables) (weights : List ℕ) (aggregate : List ℕ → ℕ) (x y : Candidate) : Type 0 where
  pub coherent : Coherent t weights aggregate y
  pub slot : y.slot ≡ x.slot
  pub measured : y.measured ≡ suc x.measured

-- the candidates, the first n of xs, the hits and the progress of the code stand for the state s of the rule; the hits were old before any was named
pub record Stands (t : Tables) (q : Question) (old : List Neighbor) (n : ℕ) (xs : List Candidate) (hs : List Neighbor) (p : Progress) (s : State ℕ) : Type 0 where
  pub within : n ≤ length xs
  pub heap : Heaped ByBound (take n xs)
  pub coherent : Every (Coherent t q.weights q.aggregate) (take n xs)
  pub live : IsPermutation s.live (map spot (take n xs))
  pub named : p.named ≡ length s.named
  pub measured : p.measured ≡ s.measured
  pub hits : hs ≡ map (hit t q) s.named ++ drop p.named old
  pub few : p.named + n ≤ t.slots

-- how many steps are left at most: for each candidate one to name it, and one for each channel not yet measured
abbrev pub left : (m n : ℕ) → List Candidate → ℕ
left m n xs = sum_by (λ x. suc (m - x.measured)) (take n xs)

-- the step from s comes to n, and changes nothing
pub record Rests (t : Tables) (q : Question) (s : State ℕ) (n : Next ℕ) (hs hs' : List Neighbor) (p p' : Progress) (asked asked' : Asked) : Type 0 where
  pub move : Move (table (family_of t q) q.radius) q.k q.budget s n
  pub hits : hs' ≡ hs
  pub progress : p' ≡ p
  pub asks : (c : ℕ) (x y : List ℕ) → asked' c x y → asked c x y

-- the step from s goes on to another state, for which the data then stand; what is asked is measured there, and fewer steps are left
pub record Goes (t : Tables) (q : Question) (s : State ℕ) (old : List Neighbor) (n n' : ℕ) (xs xs' : List Candidate) (hs' : List Neighbor) (p p' : Progress) (asked asked' : Asked) : Type 0 where
  pub next : State ℕ
  pub move : Move (table (family_of t q) q.radius) q.k q.budget s (on next)
  pub stands : Stands t q old n' xs' hs' p' next
  pub asks : (c : ℕ) (x y : List ℕ) → asked' c x y → asked c x y ⊎ Measured t q next c x y
  pub less : left t.channels n' xs' < left t.channels n xs

abbrev pub Steps : Option End → (t : Tables) (q : Question) (s : State ℕ) (old : List Neighbor) (n n' : ℕ) (xs xs' : List Candidate) (hs hs' : List Neighbor) (p p' : Progress) (asked asked' : Asked) → Type 0
Steps (Some Finished) t q s old n n' xs xs' hs hs' p p' asked asked' = Rests t q s done hs hs' p p' asked asked'
Steps (Some Stopped) t q s old n n' xs xs' hs hs' p p' asked asked' = Rests t q s halt hs hs' p p' asked asked'
Steps None t q s old n n' xs xs' hs hs' p p' asked asked' = Goes t q s old n n' xs xs' hs' p p' asked asked'

abbrev pub is_finished : End → Bool
is_finished Finished = true
is_finished Stopped = false

-- a run from s has ended, complete or not, with these hits and this progress
pub record Ends (t : Tables) (q : Question) (s : State ℕ) (complete : Bool) (old hs' : List Neighbor) (p' : Progress) (asked asked' : Asked) : Type 0 where
  pub end : State ℕ
  pub run : Runs (table (family_of t q) q.radius) q.k q.budget s complete end
  pub named : p'.named ≡ length end.named
  pub measured : p'.measured ≡ end.measured
  pub hits : hs' ≡ map (hit t q) end.named ++ drop p'.named old
  pub few : p'.named ≤ t.slots
  pub asks : (c : ℕ) (x y : List ℕ) → asked' c x y → asked c x y ⊎ Measured t q end c x y
