-- Patches as a refinement sees them: an identifier, a rising chain of bounds, and an upper bound.
use Rattle.std.specs.Prelude.{ℕ, suc, ◌-◌, ◌<◌, ◌≤◌, Bool, true, ◌&&◌, leb, List, [], ◌∷◌, map, ◌≢◌, nat_le}
use Rattle.std.proofs.Math.Option.{Option, none, some}
use Rattle.std.proofs.Math.ListN.{get_elem?}
use Rattle.std.specs.List.{AllByRecursion as Every}
use Rattle.refine.specs.Orders.{Order, sorted_by}
use Rattle.refine.specs.OrderLaws.{keys}

-- patches A with identifiers I and m channels each. When t channels of a are measured, its distance is known to be at least
-- `bound a t`; when all m are, it is known to be `bound a m`; it is at most `upper a` from the start
pub record Family (A I : Type 0) : Type 0 where
  pub ids : Order I
  pub id : A → I
  pub m : ℕ
  pub bound : A → ℕ → ℕ
  pub upper : A → ℕ

-- the aggregated distance
abbrev pub distance : {A I : Type 0} → Family A I → A → ℕ
distance f a = f.bound a f.m

-- each two elements of a list, the earlier first, are related
abbrev pub EachTwo : {A : Type 0} → (A → A → Type 0) → List A → Type 0
EachTwo R [] = Unit {0}
EachTwo R (a ∷ l) = Every (R a) l × EachTwo R l

-- chains rise, the distance is at most the upper bound, and no identifier stands twice
pub record LawfulFamily {A I : Type 0} (f : Family A I) (l : List A) : Type 0 where
  pub rising : Every (λ a. (t : ℕ) → t < f.m → f.bound a t ≤ f.bound a (suc t)) l
  pub above : Every (λ a. distance f a ≤ f.upper a) l
  pub distinct : EachTwo (λ a b. f.id a ≢ f.id b) l

-- the k-th least of some numbers, if there are k
abbrev pub kth_least : ℕ → List ℕ → Option ℕ
kth_least k us = get_elem? (sorted_by leb us) (k - 1)

-- a bound is not above the threshold, where there is one
abbrev pub not_above : Option ℕ → ℕ → Bool
not_above none b = true
not_above (some v) b = nat_le b v

-- What the rules compare are keys: a bound with its patch's identifier, in the order `ord`.
-- `key a t` is the key of a when t of its m channels are measured; `within y` says that y is within the radius
pub record Table (A K : Type 0) : Type 0 where
  pub ord : Order K
  pub key : A → ℕ → K
  pub m : ℕ
  pub within : K → Bool

module _ {A I : Type 0} (f : Family A I) where
  -- the least bound first, equal bounds by lower identifier; within the radius are the bounds that are at most the radius
  abbrev pub table : ℕ → Table A (ℕ × I)
  table radius = record { ord = keys f.ids; key = λ a t. (f.bound a t, f.id a); m = f.m; within = λ y. nat_le y.0 radius }

  -- the threshold: the k-th least upper bound; none with fewer than k patches
  abbrev pub threshold : ℕ → List A → Option ℕ
  threshold k l = kth_least k (map f.upper l)

  -- a patch is admitted where its first bound is above neither the radius nor the threshold
  abbrev pub admitted : ℕ → ℕ → List A → A → Bool
  admitted k radius l a = nat_le (f.bound a 0) radius && not_above (threshold k l) (f.bound a 0)
