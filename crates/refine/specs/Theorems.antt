-- The theorems over families of chains.
use Rattle.std.specs.Prelude.{◌≡◌, ℕ, ◌<◌, ◌≤◌, min, Bool, true, false, ◌⊎◌, List, map, length, count_by, filter, nat_le, nat_lt}
use mathlib.Core.List.{IsPrefix}
use Rattle.std.proofs.Math.Option.{none, some}
use Rattle.std.specs.List.Sorted.{IsPermutation}
use Rattle.std.specs.List.{ContainsAt as Has, AllByRecursion as Every}
use Rattle.refine.specs.Chains.{Family, EachTwo, LawfulFamily, Table, distance, table, kth_least, admitted}
use Rattle.refine.specs.Scan.{final, finished, needed, need}
use Rattle.refine.specs.Steps.{Candidate, State, Next, on, begin, measuring, enough_steps, run, steps_left, Move, Runs, Taken}
use Rattle.refine.specs.Plans.{Plan, cost, Settles}

-- r are the k nearest of l within the radius, nearest first: each is of l and within the radius; they rise; they are at most k; and a
-- patch of l that is within the radius and not among them comes after all of them, and they are k
pub record Nearest {A K : Type 0} (x : Table A K) (k : ℕ) (l r : List A) : Type 0 where
  pub held : Every (Has l) r
  pub near : Every (λ a. x.within (final x a) ≡ true) r
  pub rising : EachTwo (λ a b. x.ord.le (final x b) (final x a) ≡ false) r
  pub few : length r ≤ k
  pub rest : Every (λ a. x.within (final x a) ≡ true → (Has r a → ⊥) → (length r ≡ k) × Every (λ b. x.ord.le (final x b) (final x a) ≡ true) r) l

-- the finished list is the k nearest, and no other list is
abbrev pub FinishedNearest : (A I : Type 0) → Type 0
FinishedNearest A I = (f : Family A I) (l : List A) (k radius : ℕ) → LawfulFamily f l
    → let x = table f radius in Nearest x k l (finished x k l) × ((r : List A) → Nearest x k l r → r ≡ finished x k l)

-- how a run ends: complete or not, in the state e
pub record Outcome {A K : Type 0} (x : Table A K) (k budget : ℕ) (l : List A) (complete : Bool) (e : State A) : Type 0 where
  -- its list is a beginning of the finished list
  pub begins : IsPrefix e.named (finished x k l)
  -- it has measured the lesser of the budget and the need
  pub count : e.measured ≡ min budget (need x k l)
  -- it has finished exactly when the budget covers the need
  pub enough : need x k l ≤ budget → complete ≡ true
  pub afforded : complete ≡ true → need x k l ≤ budget
  -- and then its list is the finished list
  pub whole : complete ≡ true → e.named ≡ finished x k l

-- every run ends so; and there is one, which the executable rule computes
abbrev pub RunsEnd : (A I : Type 0) → Type 0
RunsEnd A I = (f : Family A I) (l : List A) (k radius budget : ℕ) → LawfulFamily f l → 1 ≤ k
    → let x = table f radius in let s = begin f k radius l in
    ((b : Bool) (e : State A) → Runs x k budget s b e → Outcome x k budget l b e)
    × ((b : Bool) × (e : State A) × (run x k budget (enough_steps (length l) f.m) s ≡ some (b, e)) × Runs x k budget s b e)

-- from every state there is a step, and a step that goes on leaves fewer steps to take: no run goes on for ever
abbrev pub StepsEnd : (A I : Type 0) → Type 0
StepsEnd A I = (f : Family A I) (k radius budget : ℕ) (s : State A) → Every (λ c. c.t ≤ f.m) s.live
    → let x = table f radius in
    ((n : Next A) × Move x k budget s n)
    × ((s' : State A) → Move x k budget s (on s') → Every (λ c. c.t ≤ f.m) s'.live × (steps_left x s' < steps_left x s))

-- every plan that settles the finished list counts at least the need
abbrev pub NeedIsLeast : (A I : Type 0) → Type 0
NeedIsLeast A I = (f : Family A I) (l : List A) (k radius : ℕ) → LawfulFamily f l → 1 ≤ k
    → (plan : Plan A) → Settles (table f radius) k l plan → need (table f radius) k l ≤ cost plan l

-- a patch that is not admitted is in neither the finished list nor the need
abbrev pub UnadmittedIdle : (A I : Type 0) → Type 0
UnadmittedIdle A I = (f : Family A I) (l : List A) (k radius : ℕ) → LawfulFamily f l → 1 ≤ k
    → let x = table f radius in (a : A) → Has l a → admitted f k radius l a ≡ false
    → (Has (finished x k l) a → ⊥) × ((t : ℕ) → t < f.m → needed x k l (x.key a t) ≡ false)

-- the same patches under other bounds
abbrev pub rebound : {A I : Type 0} → Family A I → (m : ℕ) → (A → ℕ → ℕ) → (A → ℕ) → Family A I
rebound f m bound upper = record { ids = f.ids; id = f.id; m = m; bound = bound; upper = upper }

-- a patch as an answer gives it: its identifier with its distance
abbrev pub given : {A I : Type 0} → Family A I → A → I × ℕ
given f a = (f.id a, distance f a)

-- what a run has named
abbrev pub answer : {A I : Type 0} → Family A I → State A → List (I × ℕ)
answer f e = map (given f) e.named

-- the shorter list begins the longer
abbrev pub OneBegins : {X : Type 0} → List X → List X → Type 0
OneBegins l l' = IsPrefix l l' ⊎ IsPrefix l' l

-- two families with the same identifiers and distances, whatever their pivots, upper bounds and budgets: the shorter list begins
-- the longer, identifiers and distances both
abbrev pub BoundsOnlyDelay : (A I : Type 0) → Type 0
BoundsOnlyDelay A I = (f : Family A I) (m : ℕ) (bound : A → ℕ → ℕ) (upper : A → ℕ) (l l' : List A) (k radius budget budget' : ℕ)
    → let g = rebound f m bound upper in
    IsPermutation l l' → LawfulFamily f l → LawfulFamily g l' → 1 ≤ k → Every (λ a. distance f a ≡ distance g a) l
    → (b b' : Bool) (e e' : State A) → Runs (table f radius) k budget (begin f k radius l) b e → Runs (table g radius) k budget' (begin g k radius l') b' e'
    → OneBegins (answer f e) (answer g e')

-- neither the order of the patches nor that of the candidates changes the answer
abbrev pub OrderIsFree : (A I : Type 0) → Type 0
OrderIsFree A I = (f : Family A I) (l l' : List A) (k radius budget : ℕ) → IsPermutation l l' → LawfulFamily f l
    → (b b' : Bool) (e e' : State A) → Runs (table f radius) k budget (begin f k radius l) b e → Runs (table f radius) k budget (begin f k radius l') b' e'
    → (b ≡ b') × (e.named ≡ e'.named) × (e.measured ≡ e'.measured)

-- so code may keep its candidates in any order at any time
abbrev pub LiveOrderIsFree : (A I : Type 0) → Type 0
LiveOrderIsFree A I = (f : Family A I) (k radius budget : ℕ) (l l' : List (Candidate A)) (named : List A) (measured : ℕ) → IsPermutation l l'
    → (b : Bool) (e : State A) → Runs (table f radius) k budget (record { live = l'; named = named; measured = measured }) b e
    → (e' : State A) × Runs (table f radius) k budget (record { live = l; named = named; measured = measured }) b e'
    × IsPermutation e'.live e.live × (e'.named ≡ e.named) × (e'.measured ≡ e.measured)

-- the k-th least number by counts: fewer than k are less than it, and at least k are not more; there is none with fewer than k
abbrev pub KthByCounts : Type 0
KthByCounts = (k : ℕ) (us : List ℕ) → 1 ≤ k
    → (length us < k → kth_least k us ≡ none)
    × ((v : ℕ) → count_by (λ u. nat_lt u v) us < k → k ≤ count_by (λ u. nat_le u v) us → kth_least k us ≡ some v)

-- what stands for patches, such as their slots in a store, with keys of its own that agree: the family of the stand-ins
abbrev pub stand_ins : {A B I : Type 0} → Family B I → (A → I) → (A → ℕ → ℕ) → (A → ℕ) → Family A I
stand_ins g id bound upper = record { ids = g.ids; id = id; m = g.m; bound = bound; upper = upper }

-- a state of the stand-ins, with each patch in its stand-in's place
abbrev pub image : {A B : Type 0} → (A → B) → State A → State B
image f s = record { live = map (λ c. record { patch = f c.patch; t = c.t }) s.live; named = map f s.named; measured = s.measured }

-- a run over stand-ins is a run over the patches, and admits as many
abbrev pub StandInsRun : (A B I : Type 0) → Type 0
StandInsRun A B I = (f : A → B) (g : Family B I) (id : A → I) (bound : A → ℕ → ℕ) (upper : A → ℕ) (k radius budget : ℕ) (l : List A)
    → Every (λ a. ((t : ℕ) → bound a t ≡ g.bound (f a) t) × (upper a ≡ g.upper (f a)) × (id a ≡ g.id (f a))) l
    → let o = stand_ins g id bound upper in
    ((b : Bool) (e : State A) → Runs (table o radius) k budget (begin o k radius l) b e → Runs (table g radius) k budget (begin g k radius (map f l)) b (image f e))
    × (length (filter (admitted o k radius l) l) ≡ length (filter (admitted g k radius (map f l)) (map f l)))

-- what is measured stays measured to the end of a run, and a step measures what it says
abbrev pub MeasuredStays : (A I : Type 0) → Type 0
MeasuredStays A I = (f : Family A I) (k radius budget : ℕ)
    → ((s : State A) (b : Bool) (e : State A) → Runs (table f radius) k budget s b e → (a : A) (u : ℕ) → Taken s a u → Taken e a u)
    × ((s : State A) (c : Candidate A) (rest : List (Candidate A)) → Taken (measuring s c rest) c.patch c.t)
