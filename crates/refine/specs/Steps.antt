-- The step rule, and its runs.
use Rattle.std.specs.Prelude.{◌≡◌, ℕ, zero, suc, ◌-◌, ◌*◌, ◌<◌, ◌≤◌, Bool, true, false, cond, not, ◌⊎◌, List, [], ◌∷◌, ◌++◌, map, length, sum_by, filter, ◌==◌, ◌≢◌, nat_le}
use Rattle.std.proofs.Math.Option.{Option, none, some}
use Rattle.std.specs.List.Sorted.{IsPermutation}
use Rattle.std.specs.List.{ContainsAt as Has, AllByRecursion as Every}
use Rattle.refine.specs.Chains.{Family, Table, admitted}

-- an admitted patch that is not named yet, with the number of its channels that are measured
pub record Candidate (A : Type 0) : Type 0 where
  pub patch : A
  pub t : ℕ

-- the candidates, the patches named so far in order, and how many channels are measured
pub record State (A : Type 0) : Type 0 where
  pub live : List (Candidate A)
  pub named : List A
  pub measured : ℕ

-- what a step comes to: finished, stopped for want of budget, or the next state
pub data Next (A : Type 0) : Type 0 where
  done : Next A
  halt : Next A
  on : State A → Next A

-- the candidate is named, at no cost
abbrev pub naming : {A : Type 0} → State A → Candidate A → List (Candidate A) → State A
naming s c rest = record { live = rest; named = s.named ++ c.patch ∷ []; measured = s.measured }

-- the next channel of the candidate is measured, which counts one
abbrev pub measuring : {A : Type 0} → State A → Candidate A → List (Candidate A) → State A
measuring s c rest = record { live = record { patch = c.patch; t = suc c.t } ∷ rest; named = s.named; measured = suc s.measured }

-- each admitted patch is a candidate, nothing is named, nothing is measured
abbrev pub start : {A : Type 0} → (A → Bool) → List A → State A
start admits l = record { live = map (λ a. record { patch = a; t = 0 }) (filter admits l); named = []; measured = 0 }

-- the start over a family's patches
abbrev pub begin : {A I : Type 0} → Family A I → (k radius : ℕ) → List A → State A
begin f k radius l = start (admitted f k radius l) l

-- a number of steps within which every run ends
abbrev pub enough_steps : (patches channels : ℕ) → ℕ
enough_steps patches channels = suc (patches * suc channels)

module _ {A K : Type 0} (x : Table A K) where
  -- the key of a candidate
  abbrev pub key_now : Candidate A → K
  key_now c = x.key c.patch c.t

  -- the candidate of least key, and the others
  abbrev pub least : Candidate A → List (Candidate A) → Candidate A × List (Candidate A)
  least c [] = (c, [])
  least c (d ∷ ds) =
      let r = least d ds in
      cond (x.ord.le (key_now c) (key_now r.0)) (c, d ∷ ds) (r.0, c ∷ r.1)

  -- the step at the least candidate c, the first of these that applies:
  -- 1. k patches are named, or the least bound is above the radius: finished
  -- 2. c is wholly measured: it is named
  -- 3. the budget is spent: stopped
  -- 4. the next channel of c is measured
  abbrev pub step_at : (k budget : ℕ) → State A → Candidate A → List (Candidate A) → Next A
  step_at k budget s c rest =
      cond (nat_le k (length s.named)) done
      (cond (not (x.within (key_now c))) done
      (cond (c.t == x.m) (on (naming s c rest))
      (cond (nat_le budget s.measured) halt
      (on (measuring s c rest)))))

  -- the step among the candidates; with none left, finished
  abbrev pub step_among : (k budget : ℕ) → State A → List (Candidate A) → Next A
  step_among k budget s [] = done
  step_among k budget s (c ∷ l) = let r = least c l in step_at k budget s r.0 r.1

  -- one step
  abbrev pub step : (k budget : ℕ) → State A → Next A
  step k budget s = step_among k budget s s.live

  -- a step ends the run in s, or the run goes on from the next state
  abbrev pub onward : State A → (State A → Option (Bool × State A)) → Next A → Option (Bool × State A)
  onward s more done = some (true, s)
  onward s more halt = some (false, s)
  onward s more (on s') = more s'

  -- step after step to the end: whether it has finished, and the last state; none if n steps are too few
  abbrev pub run : (k budget n : ℕ) → State A → Option (Bool × State A)
  run k budget zero s = none
  run k budget (suc n) s = onward s (λ s'. run k budget n s') (step k budget s)

  -- how many steps a state can still take: for each candidate one to name it, and one for each channel not yet measured
  abbrev pub steps_left : State A → ℕ
  steps_left s = sum_by (λ c. suc (x.m - c.t)) s.live

  -- c is a candidate of least key, and rest are the others, in any order
  pub record Chosen (s : State A) (c : Candidate A) (rest : List (Candidate A)) : Type 0 where
    pub among : IsPermutation s.live (c ∷ rest)
    pub first : Every (λ d. x.ord.le (key_now c) (key_now d) ≡ true) rest

  -- one step, in whatever order the candidates are kept: what code that keeps them in a queue of its own proves of itself
  pub data Move (k budget : ℕ) (s : State A) : Next A → Type 0 where
    full : k ≤ length s.named → Move k budget s done
    dry : Every (λ c. x.within (key_now c) ≡ false) s.live → Move k budget s done
    names : (c : Candidate A) (rest : List (Candidate A)) → Chosen s c rest → length s.named < k → x.within (key_now c) ≡ true
        → c.t ≡ x.m → Move k budget s (on (naming s c rest))
    halts : (c : Candidate A) (rest : List (Candidate A)) → Chosen s c rest → length s.named < k → x.within (key_now c) ≡ true
        → (c.t ≢ x.m) → budget ≤ s.measured → Move k budget s halt
    measures : (c : Candidate A) (rest : List (Candidate A)) → Chosen s c rest → length s.named < k → x.within (key_now c) ≡ true
        → (c.t ≢ x.m) → s.measured < budget → Move k budget s (on (measuring s c rest))

  -- a whole run: from a state to its end, finished or not
  pub data Runs (k budget : ℕ) : State A → Bool → State A → Type 0 where
    finishes : {s : State A} → Move k budget s done → Runs k budget s true s
    stops : {s : State A} → Move k budget s halt → Runs k budget s false s
    goes : {s s' e : State A} {b : Bool} → Move k budget s (on s') → Runs k budget s' b e → Runs k budget s b e

-- the channel at place u of a's order is measured: a is named, or is a candidate of which more than u channels are
abbrev pub Taken : {A : Type 0} → State A → A → ℕ → Type 0
Taken {A} s a u = Has s.named a ⊎ ((t : ℕ) × Has {X = Candidate A} s.live (record { patch = a; t = t }) × (u < t))
