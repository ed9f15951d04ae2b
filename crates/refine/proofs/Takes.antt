-- What is measured stays measured, and a step measures what it says.
use Rattle.std.proofs.Common.{◌≡◌, ℕ, suc, Bool, ◌⊎◌, List, [], ◌∷◌, ◌++◌, refl, ap, inl, inr, arith}
use Rattle.std.specs.List.{ContainsAt as Has, AllByRecursion as Every}
use Rattle.std.proofs.ByRecursion.{All-push, has_append_left, has_push, has_shuffled, all_shuffled}
use Rattle.refine.specs.Chains.{Table}
use Rattle.refine.specs.Steps.{Candidate, State, on, naming, measuring, Move, names, measures, Runs, finishes, stops, goes, Taken}
use Rattle.refine.specs.Theorems.{MeasuredStays}
use Rattle.refine.proofs.Lists.{has_here, has_there, has_cases}

abbrev at : {A : Type 0} → A → ℕ → Candidate A
at a t = record { patch = a; t = t }

module _ {A K : Type 0} (x : Table A K) (k budget : ℕ) where
  named_now : (s : State A) (c : Candidate A) (a : A) → c.patch ≡ a → Has (s.named ++ c.patch ∷ []) a
  named_now s c a e = rw (← e) (has_push s.named c.patch)

  taken_step : (s s' : State A) → Move x k budget s (on s') → (a : A) (u : ℕ) → Taken s a u → Taken s' a u
  taken_step s s' (names c rest y l w t) a u (inl i) = inl (has_append_left s.named (c.patch ∷ []) a i)
  taken_step s s' (names c rest y l w t) a u (inr (v, i, h)) = go (has_cases (at a v) c rest (has_shuffled s.live (c ∷ rest) (at a v) y.among i))
    where
      go : (c ≡ at a v) ⊎ Has rest (at a v) → Taken (naming s c rest) a u
      go (inl e) = inl (named_now s c a (ap (λ d. d.patch) e))
      go (inr j) = inr (v, j, h)
  taken_step s s' (measures c rest y l w t b) a u (inl i) = inl i
  taken_step s s' (measures c rest y l w t b) a u (inr (v, i, h)) = go (has_cases (at a v) c rest (has_shuffled s.live (c ∷ rest) (at a v) y.among i))
    where
      go : (c ≡ at a v) ⊎ Has rest (at a v) → Taken (measuring s c rest) a u
      go (inl e) = inr (suc v, has_here (at a (suc v)) (at c.patch (suc c.t)) rest (λ i. record { patch = (e i).patch; t = suc (e i).t }), omega arith)
      go (inr j) = inr (v, has_there (at a v) (at c.patch (suc c.t)) rest j, h)

  pub taken_end : (s : State A) {b : Bool} {e : State A} → Runs x k budget s b e → (a : A) (u : ℕ) → Taken s a u → Taken e a u
  taken_end s (finishes m) a u h = h
  taken_end s (stops m) a u h = h
  taken_end s (goes {s' = s'} m r) a u h = taken_end s' r a u (taken_step s s' m a u h)

  -- what holds of the candidates holds of the named
  pub named_all : (P : A → Type 0) (s : State A) {b : Bool} {e : State A} → Runs x k budget s b e → Every (λ (c : Candidate A). P c.patch) s.live → Every P s.named → Every P e.named
  named_all P s (finishes m) l n = n
  named_all P s (stops m) l n = n
  named_all P s (goes {s' = s'} (names c rest y f w t) r) l n =
      let l' = all_shuffled (λ (c : Candidate A). P c.patch) s.live (c ∷ rest) y.among l in
      named_all P s' r l'.1 (All-push P s.named c.patch n l'.0)
  named_all P s (goes {s' = s'} (measures c rest y f w t b) r) l n =
      let l' = all_shuffled (λ (c : Candidate A). P c.patch) s.live (c ∷ rest) y.among l in
      named_all P s' r (l'.0, l'.1) n

-- a channel just measured
pub taken_now : {A : Type 0} (s : State A) (c : Candidate A) (rest : List (Candidate A)) → Taken (measuring s c rest) c.patch c.t
taken_now s c rest = inr (suc c.t, has_here (at c.patch (suc c.t)) (at c.patch (suc c.t)) rest refl, omega arith)

pub measured_stays : (A I : Type 0) → MeasuredStays A I
measured_stays A I f k radius budget = ((λ s b e r a u h. taken_end _ k budget s r a u h), taken_now)
