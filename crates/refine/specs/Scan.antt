-- The full scan, the finished list, and the need.
use Rattle.std.specs.Prelude.{ℕ, ◌-◌, Bool, true, ◌&&◌, List, take, sum_by, count_by, filter}
use Rattle.std.proofs.Math.Option.{Option, none, some}
use Rattle.std.proofs.Math.ListN.{get_elem?}
use Rattle.std.specs.List.{range_with_len}
use Rattle.refine.specs.Orders.{sorted_by}
use Rattle.refine.specs.Chains.{Table}

module _ {A K : Type 0} (x : Table A K) where
  -- the key of a patch that is wholly measured: its distance with its identifier
  abbrev pub final : A → K
  final a = x.key a x.m

  -- the patches, least distance first, ties by lower identifier
  abbrev pub ranking : List A → List A
  ranking l = sorted_by (λ a b. x.ord.le (final a) (final b)) l

  -- the full scan: of these, the patches within the radius
  abbrev pub full_scan : List A → List A
  full_scan l = filter (λ a. x.within (final a)) (ranking l)

  -- the finished list: the first k
  abbrev pub finished : ℕ → List A → List A
  finished k l = take k (full_scan l)

  -- its k-th patch, where the full scan gives k
  abbrev pub kth : ℕ → List A → Option A
  kth k l = get_elem? (finished k l) (k - 1)

  -- a key does not come after a patch, where there is one
  abbrev pub not_after : Option A → K → Bool
  not_after none y = true
  not_after (some a) y = x.ord.le y (final a)

  -- a key is needed that is within the radius and, where the full scan gives k patches, does not come after the k-th
  abbrev pub needed : ℕ → List A → K → Bool
  needed k l y = x.within y && not_after (kth k l) y

  -- the need: the number of pairs of a patch and a t from 0 to m - 1 such that the key after t channels is needed
  abbrev pub need : ℕ → List A → ℕ
  need k l = sum_by (λ a. count_by (λ t. needed k l (x.key a t)) (range_with_len 0 x.m)) l
