-- The k-th least of a list of numbers, by counts, and how a queue of k records finds it.
use Rattle.std.specs.Prelude.{◌≡◌, ℕ, ◌+◌, ◌<◌, ◌≤◌, min, List, [], ◌∷◌, ◌++◌, map, length, take, drop, count_by, nat_le, nat_lt, slice_index_or}
use Rattle.std.specs.List.{AllByRecursion as Every}
use Rattle.std.specs.List.Sorted.{IsPermutation}
use Rattle.queue.specs.Heaps.{Heaped}
use Rattle.queue.specs.Kinds.{Descending}
use Rattle.queue.specs.declared.rank.Upper.{Upper}

-- how many of the numbers are below v
abbrev pub below : ℕ → List ℕ → ℕ
below v xs = count_by (λ x. nat_lt x v) xs

-- how many of the numbers are at most v
abbrev pub at_most : ℕ → List ℕ → ℕ
at_most v xs = count_by (λ x. nat_le x v) xs

-- v is the k-th least of the numbers, the first being k = 1
pub record KthLeast (k v : ℕ) (xs : List ℕ) : Type 0 where
  pub fewer : below v xs < k
  pub enough : k ≤ at_most v xs

-- no other number is the k-th least
abbrev pub Only : ℕ → ℕ → List ℕ → Type 0
Only k v xs = (w : ℕ) → KthLeast k w xs → w ≡ v

-- the numbers of records
abbrev pub numbers : List Upper → List ℕ
numbers us = map (λ u. u.0) us

-- us has the k least of the numbers p, or all where there are fewer, as a heap with the greatest first; the others are none of them less
pub record Kept (k : ℕ) (p : List ℕ) (us : List Upper) : Type 0 where
  pub size : length us ≡ min k (length p)
  pub others : List ℕ
  pub items : IsPermutation p (numbers us ++ others)
  pub least : Every (λ y. Every (λ x. x ≤ y) (numbers us)) others
  pub heap : Heaped Descending us

-- x was offered to the first n of xs, of which k are kept at most, and this gave the first m of ys:
-- where those were the k least of p, these are the k least of p and x
pub record Offered (k n x : ℕ) (xs : List Upper) (m : ℕ) (ys : List Upper) : Type 0 where
  pub fits : n ≤ k
  pub room : k ≤ length xs
  pub size : m ≡ min k (n + 1)
  pub dropped : List ℕ
  pub items : IsPermutation (x ∷ numbers (take n xs)) (numbers (take m ys) ++ dropped)
  pub rest : drop m ys ≡ drop m xs
  pub keeps : (p : List ℕ) → Kept k p (take n xs) → Kept k (p ++ x ∷ []) (take m ys)

-- v is the first of the first n of xs, where n is k at least: the k-th least of whatever these are kept of
pub record Threshold (k n v : ℕ) (xs : List Upper) : Type 0 where
  pub some : 0 < n
  pub full : k ≤ n
  pub within : n ≤ length xs
  pub is : (d : Upper) → v ≡ (slice_index_or xs 0 d).0
  pub kth : (p : List ℕ) → Kept k p (take n xs) → KthLeast k v p × Only k v p

-- v is the k-th least of the numbers; the k least are the first of ys, which was xs
pub record Selected (k v : ℕ) (values : List ℕ) (xs ys : List Upper) : Type 0 where
  pub room : k ≤ length xs
  pub kth : KthLeast k v values
  pub only : Only k v values
  pub kept : Kept k values (take k ys)
  pub rest : drop k ys ≡ drop k xs
