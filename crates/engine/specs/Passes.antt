-- What the two passes over the slots leave.
use Rattle.std.specs.Prelude.{◌≡◌, ℕ, ◌<◌, ◌≤◌, Bool, ◌&&◌, List, map, take, Some, None, filter, nat_le, slice_index_or}
use Rattle.std.proofs.Math.Option.{Option, none, some}
use Rattle.std.specs.List.{range_with_len, AllByRecursion as Every}
use Rattle.std.specs.List.Sorted.{IsPermutation}
use Rattle.std.specs.declared.option.Option as rust
use Rattle.queue.specs.Heaps.{Heaped}
use Rattle.refine.specs.Chains.{Family, not_above}
use Rattle.refine.specs.Steps as steps
use Rattle.engine.specs.declared.records.Candidate.{Candidate}
use Rattle.engine.specs.Tables.{Tables}
use Rattle.engine.specs.Kinds.{ByBound, no_candidate}
use Rattle.engine.specs.Slots.{Unmeasured}

-- an option of the code as one of the rules
abbrev pub plain : rust.Option ℕ → Option ℕ
plain None = none
plain (Some v) = some v

-- a first bound is above neither the radius nor the threshold
abbrev pub passes : (radius : ℕ) → Option ℕ → ℕ → Bool
passes radius limit b = nat_le b radius && not_above limit b

-- the bound that stands at slot i
abbrev pub bound_at : List Candidate → ℕ → ℕ
bound_at xs i = (slice_index_or xs i no_candidate).bound

-- the first bounds of the slots below n stand at their slots
abbrev pub FirstBounds : Family ℕ ℕ → ℕ → List Candidate → Type 0
FirstBounds f n xs = (i : ℕ) → i < n → bound_at xs i ≡ f.bound i 0

-- a candidate as the rules see it
abbrev pub spot : Candidate → steps.Candidate ℕ
spot x = record { patch = x.slot; t = x.measured }

abbrev pub untouched : ℕ → steps.Candidate ℕ
untouched i = record { patch = i; t = 0 }

-- of the slots below i, the first n of ys, which was xs, are the candidates of those that are admitted, as a heap; the bounds from slot i on stand
pub record Admits (t : Tables) (weights : List ℕ) (admits : ℕ → Bool) (i n : ℕ) (xs ys : List Candidate) : Type 0 where
  pub few : n ≤ i
  pub stand : (j : ℕ) → i ≤ j → bound_at ys j ≡ bound_at xs j
  pub heap : Heaped ByBound (take n ys)
  pub sound : Every (λ x. Unmeasured t weights x.slot (bound_at xs x.slot) x) (take n ys)
  pub live : IsPermutation (map spot (take n ys)) (map untouched (filter admits (range_with_len 0 i)))
