-- Plans: other ways to settle the finished list.
use Rattle.std.specs.Prelude.{◌≡◌, ℕ, ◌≤◌, false, List, sum_by}
use Rattle.std.proofs.Math.Option.{Option, none, some}
use Rattle.std.specs.List.{ContainsAt as Has, AllByRecursion as Every}
use Rattle.refine.specs.Chains.{Table}
use Rattle.refine.specs.Scan.{final, finished, kth}

-- a plan gives a number for each patch: so many of its channels, from the beginning of its order, are taken as measured
abbrev pub Plan : Type 0 → Type 0
Plan A = A → ℕ

-- what it counts: the channels so taken
abbrev pub cost : {A : Type 0} → Plan A → List A → ℕ
cost plan l = sum_by plan l

-- a key comes after the last listed patch, where k are listed, and is above the radius otherwise
abbrev pub Past : {A K : Type 0} → Table A K → Option A → K → Type 0
Past x none y = x.within y ≡ false
Past x (some a) y = x.ord.le y (final x a) ≡ false

-- a plan settles the finished list: it takes a beginning of each order, the listed patches wholly, and each other patch so far that
-- its key there is past
pub record Settles {A K : Type 0} (x : Table A K) (k : ℕ) (l : List A) (plan : Plan A) : Type 0 where
  pub beginning : Every (λ a. plan a ≤ x.m) l
  pub listed : Every (λ a. plan a ≡ x.m) (finished x k l)
  pub others : Every (λ a. (Has (finished x k l) a → ⊥) → Past x (kth x k l) (x.key a (plan a))) l
