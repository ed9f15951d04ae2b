-- The k-th least of some numbers.
use Rattle.std.proofs.Common.{◌≡◌, ℕ, zero, suc, ◌+◌, ◌-◌, ◌<◌, ◌≤◌, Bool, true, false, cond, eqb, ltb, leb, ◌⊎◌, List, [], ◌∷◌, length, refl, ap, ◌∙◌, inl, inr, arith, le-ltb, lt-ltb, eqb-true, le-leb, leb-false, leb-true}
use mathlib.Core.Option.{none, some}
use lib.ListN.{get_elem?}
use borrow.Author.Tests.{eqb-false}
use Rattle.std.specs.List.{AllByRecursion as Every}
use Rattle.std.proofs.ByRecursion.{All-weaker}
use Rattle.std.proofs.lemmas.List.Sorted.{length_permutation}
use Rattle.std.proofs.lemmas.Bool.{cases_order, lt-leb}
use Rattle.refine.specs.Orders.{sorted_by}
use Rattle.refine.specs.OrderLaws.{numbers}
use Rattle.refine.specs.Chains.{Table}
use Rattle.refine.specs.Theorems.{KthByCounts}
use Rattle.refine.proofs.Reorders.{Reordered, same, skip, swap, chain, shuffled, perm_all}
use Rattle.refine.proofs.Lists.{adding, adding_is, perm_adding}
use Rattle.refine.proofs.Ranks.{insert, insert_comm, insert_perm, rank_perm}

abbrev pub plain : Table ℕ ℕ
plain = record { ord = numbers; key = λ n t. n; m = 0; within = λ n. true }

abbrev pub Weak : List ℕ → Type 0
Weak [] = Unit {0}
Weak (a ∷ l) = Every (λ b. a ≤ b) l × Weak l

insert_weak : (a : ℕ) (l : List ℕ) → Weak l → Weak (insert plain a l)
insert_weak a [] h = (tt, tt)
insert_weak a (b ∷ l) h = go (leb a b) refl (insert_weak a l h.1)
  where
    go : (t : Bool) → leb a b ≡ t → Weak (insert plain a l) → Weak (cond t (a ∷ b ∷ l) (b ∷ insert plain a l))
    go true e ih = let f = leb-true a b e in ((f, All-weaker _ _ (λ c g. omega arith) l h.0), h)
    go false e ih = let f = leb-false a b e in (perm_all (λ c. b ≤ c) (insert_perm plain a l) (omega arith, h.0), ih)

pub rank_weak : (l : List ℕ) → Weak (sorted_by leb l)
rank_weak [] = tt
rank_weak (a ∷ l) = insert_weak a (sorted_by leb l) (rank_weak l)

abbrev pub upon : ℕ → List ℕ → ℕ
upon v l = adding (λ u. cond (leb u v) 1 0) l

at_least : (a : ℕ) (l : List ℕ) (j v : ℕ) → Every (λ b. a ≤ b) l → get_elem? l j ≡ some v → a ≤ v
at_least a [] j v h e = absurd (let z : ◌≡◌ {A = ℕ} 0 1 = cc in omega arith)
at_least a (b ∷ l) zero v h e = let f : b ≡ v = cc in let g = h.0 in omega arith
at_least a (b ∷ l) (suc j) v h e = at_least a l j v h.1 e

pub kth_upon : (l : List ℕ) (j v : ℕ) → Weak l → get_elem? l j ≡ some v → suc j ≤ upon v l
kth_upon [] j v h e = absurd (let z : ◌≡◌ {A = ℕ} 0 1 = cc in omega arith)
kth_upon (a ∷ l) zero v h e =
    let f : a ≡ v = cc in
    let g = le-leb a v (omega arith) in
    rw g (omega arith)
kth_upon (a ∷ l) (suc j) v h e =
    let g = le-leb a v (at_least a l j v h.0 e) in
    let ih = kth_upon l j v h.1 e in
    rw g (omega arith)

-- the ranking of numbers does not hang on their order, though some may be equal
number_comm : (a b : ℕ) (l : List ℕ) → insert plain a (insert plain b l) ≡ insert plain b (insert plain a l)
number_comm a b l = go (eqb a b) refl
  where
    go : (t : Bool) → eqb a b ≡ t → insert plain a (insert plain b l) ≡ insert plain b (insert plain a l)
    go true e = let f = eqb-true a b e in rw f refl
    go false e = insert_comm plain a b l (eqb-false a b e)

pub number_rank : {l l' : List ℕ} → Reordered l l' → sorted_by leb l ≡ sorted_by leb l'
number_rank same = refl
number_rank (skip {a = a} p) = ap (insert plain a) (number_rank p)
number_rank (swap {a = a} {b = b} {l = l}) = number_comm a b (sorted_by leb l)
number_rank (chain p q) = number_rank p ∙ number_rank q

-- by counts
abbrev under : ℕ → List ℕ → ℕ
under v l = adding (λ u. cond (ltb u v) 1 0) l

none_under : (v : ℕ) (l : List ℕ) → Every (λ b. v ≤ b) l → under v l ≡ 0
none_under v [] h = refl
none_under v (b ∷ l) h = let ih = none_under v l h.1 in rw (le-ltb b v h.0) (omega arith)

none_upon : (v : ℕ) (l : List ℕ) → Every (λ b. v < b) l → upon v l ≡ 0
none_upon v [] h = refl
none_upon v (b ∷ l) h = let ih = none_upon v l h.1 in rw (lt-leb b v h.0) (omega arith)

at_kth : (l : List ℕ) (j v : ℕ) → Weak l → under v l ≤ j → j < upon v l → get_elem? l j ≡ some v
at_kth [] j v w h g = absurd (omega arith)
at_kth (a ∷ l) zero v w h g = go (cases_order a v)
  where
    go : (a ≡ v) ⊎ ((a < v) ⊎ (v < a)) → some a ≡ some v
    go (inl e) = ap some e
    go (inr (inl e)) = absurd (let h' : 1 + under v l ≤ 0 = rw (lt-ltb a v e) at h in omega arith)
    go (inr (inr e)) = absurd (let n = none_upon v (a ∷ l) (e, All-weaker _ _ (λ b f. omega arith) l w.0) in omega arith)
at_kth (a ∷ l) (suc j) v w h g = go (cases_order a v) (at_kth l j v w.1)
  where
    go : (a ≡ v) ⊎ ((a < v) ⊎ (v < a)) → (under v l ≤ j → j < upon v l → get_elem? l j ≡ some v) → get_elem? l j ≡ some v
    go (inl e) more =
        let g' : suc j < 1 + upon v l = rw (le-leb a v (omega arith)) at g in
        let n = none_under v l (All-weaker _ _ (λ b f. omega arith) l w.0) in
        more (omega arith) (omega arith)
    go (inr (inl e)) more =
        let g' : suc j < 1 + upon v l = rw (le-leb a v (omega arith)) at g in
        let h' : 1 + under v l ≤ suc j = rw (lt-ltb a v e) at h in
        more (omega arith) (omega arith)
    go (inr (inr e)) more = absurd (let n = none_upon v (a ∷ l) (e, All-weaker _ _ (λ b f. omega arith) l w.0) in omega arith)

past : (l : List ℕ) (j : ℕ) → length l ≤ j → get_elem? l j ≡ none
past [] j h = refl
past (a ∷ l) zero h = absurd (omega arith)
past (a ∷ l) (suc j) h = past l j (omega arith)

pub kth_by_counts : KthByCounts
kth_by_counts zero us h = absurd (omega arith)
kth_by_counts (suc k) us h = (
  (λ few. let n = length_permutation us (sorted_by leb us) (shuffled (rank_perm plain us)) in rw back (past (sorted_by leb us) k (omega arith))),
  (λ v fewer enough.
      let a = adding_is (λ u. cond (ltb u v) 1 0) us in
      let b = adding_is (λ u. cond (leb u v) 1 0) us in
      let c = perm_adding (λ u. cond (ltb u v) 1 0) (rank_perm plain us) in
      let d = perm_adding (λ u. cond (leb u v) 1 0) (rank_perm plain us) in
      rw back (at_kth (sorted_by leb us) k v (rank_weak us) (omega arith) (omega arith))),
)
  where
    back : suc k - 1 ≡ k
    back = omega arith
