-- The same elements in another order, as an inductive family: the library's IsPermutation says it by exchanges of places, and its Perm is
-- truncated; inductions want neither. The two conversions show that this is IsPermutation.
use Rattle.std.proofs.Common.{ℕ, zero, suc, ◌<◌, Bool, true, false, cond, List, [], ◌∷◌, map, length, get_or, set, filter, refl, arith}
use Rattle.std.specs.List.Sorted.{IsPermutation}
use Rattle.std.specs.List.{swap as exchanged, AllByRecursion as Every}
use Rattle.std.proofs.lemmas.List.Sorted.{IsPermutation-keeps, IsPermutation-refl, IsPermutation-cons, IsPermutation-swap, IsPermutation-trans}
use Rattle.refine.specs.Chains.{EachTwo}

pub data Reordered {A : Type 0} : List A → List A → Type 0 where
  same : {l : List A} → Reordered l l
  skip : {a : A} {l l' : List A} → Reordered l l' → Reordered (a ∷ l) (a ∷ l')
  swap : {a b : A} {l : List A} → Reordered (a ∷ b ∷ l) (b ∷ a ∷ l)
  chain : {l l' l'' : List A} → Reordered l l' → Reordered l' l'' → Reordered l l''

put : {A : Type 0} (v : A) (l : List A) (i : ℕ) (d : A) → i < length l → Reordered (v ∷ l) (get_or l i d ∷ set l i v)
put v [] i d h = absurd (omega arith)
put v (a ∷ l) zero d h = swap
put v (a ∷ l) (suc i) d h = chain swap (chain (skip (put v l i d (omega arith))) swap)

exchange : {A : Type 0} (l : List A) (i j : ℕ) (d : A) → i < length l → j < length l → Reordered l (set (set l i (get_or l j d)) j (get_or l i d))
exchange [] i j d h g = absurd (omega arith)
exchange (a ∷ l) zero zero d h g = same
exchange (a ∷ l) zero (suc j) d h g = put a l j d (omega arith)
exchange (a ∷ l) (suc i) zero d h g = put a l i d (omega arith)
exchange (a ∷ l) (suc i) (suc j) d h g = skip (exchange l i j d (omega arith) (omega arith))

pub reordered : {A : Type 0} {l l' : List A} → IsPermutation l l' → Reordered l l'
reordered {A} {l} {l'} h = IsPermutation-keeps l (λ w. Reordered l w) same (λ w i j hi hj p. chain p (one w i j hi hj)) l' h
  where
    one : (w : List A) (i j : ℕ) → i < length w → j < length w → Reordered w (exchanged w i j)
    one [] i j hi hj = same
    one (d ∷ w) i j hi hj = exchange (d ∷ w) i j d hi hj

pub shuffled : {A : Type 0} {l l' : List A} → Reordered l l' → IsPermutation l l'
shuffled {l = l} same = IsPermutation-refl l
shuffled (skip {a = a} {l = l} {l' = l'} p) = IsPermutation-cons a l l' (shuffled p)
shuffled (swap {a = a} {b = b} {l = l}) = IsPermutation-swap (a ∷ b ∷ l) (b ∷ a ∷ l) 0 1 (omega arith) (omega arith) refl
shuffled {l = l} {l' = l''} (chain {l' = l'} p q) = IsPermutation-trans l l' l'' (shuffled p) (shuffled q)

pub perm_sym : {A : Type 0} {l l' : List A} → Reordered l l' → Reordered l' l
perm_sym same = same
perm_sym (skip p) = skip (perm_sym p)
perm_sym swap = swap
perm_sym (chain p q) = chain (perm_sym q) (perm_sym p)

pub perm_all : {A : Type 0} (P : A → Type 0) {l l' : List A} → Reordered l l' → Every P l → Every P l'
perm_all P same h = h
perm_all P (skip p) h = (h.0, perm_all P p h.1)
perm_all P swap h = (h.1.0, (h.0, h.1.1))
perm_all P (chain p q) h = perm_all P q (perm_all P p h)

pub perm_map : {A B : Type 0} (f : A → B) {l l' : List A} → Reordered l l' → Reordered (map f l) (map f l')
perm_map f same = same
perm_map f (skip p) = skip (perm_map f p)
perm_map f swap = swap
perm_map f (chain p q) = chain (perm_map f p) (perm_map f q)

pub perm_two : {A : Type 0} (R : A → A → Type 0) → ((a b : A) → R a b → R b a) → {l l' : List A} → Reordered l l' → EachTwo R l → EachTwo R l'
perm_two R s same h = h
perm_two R s (skip {a = a} p) h = (perm_all (R a) p h.0, perm_two R s p h.1)
perm_two R s (swap {a = a} {b = b}) h = ((s a b h.0.0, h.1.0), (h.0.1, h.1.1))
perm_two R s (chain p q) h = perm_two R s q (perm_two R s p h)

pub perm_kept : {A : Type 0} (p : A → Bool) {l l' : List A} → Reordered l l' → Reordered (filter p l) (filter p l')
perm_kept p same = same
perm_kept p (skip {a = a} {l = l} {l' = l'} q) = go (p a) (perm_kept p q)
  where
    go : (t : Bool) → Reordered (filter p l) (filter p l') → Reordered (cond t (a ∷ filter p l) (filter p l)) (cond t (a ∷ filter p l') (filter p l'))
    go true h = skip h
    go false h = h
perm_kept p (swap {a = a} {b = b} {l = l}) = go (p a) (p b)
  where
    go : (t u : Bool) → Reordered (cond t (a ∷ cond u (b ∷ filter p l) (filter p l)) (cond u (b ∷ filter p l) (filter p l))) (cond u (b ∷ cond t (a ∷ filter p l) (filter p l)) (cond t (a ∷ filter p l) (filter p l)))
    go true true = swap
    go true false = same
    go false true = same
    go false false = same
perm_kept p (chain q r) = chain (perm_kept p q) (perm_kept p r)
