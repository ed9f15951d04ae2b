-- More on lists with the same elements.
use Rattle.std.proofs.Common.{◌≡◌, ℕ, zero, suc, ◌<◌, ◌⊎◌, List, [], ◌∷◌, length, get_or, set, sym, refl, ap, ◌∙◌, subst, inl, inr, ⊎_elim, arith}
use Rattle.std.specs.List.Sorted.{IsPermutation}
use Rattle.std.specs.List.{swap as exchanged}
use Rattle.std.proofs.lemmas.Bool.{cases_eq}
use Rattle.std.proofs.lemmas.List.{get_or_default}
use Rattle.std.proofs.lemmas.List.Edits.{length-swap, swapped_from_swap}
use Rattle.std.proofs.lemmas.List.Sorted.{IsPermutation-keeps}
-- The library's lemmas under the names that callers cite.
pub use Rattle.std.proofs.lemmas.List.Sorted.{IsPermutation-map as shuffled_map, IsPermutation-append_left as shuffled_before, IsPermutation-append_right as shuffled_after}

-- a relation that holds between a list and itself, goes under a first element, holds where the first two change places,
-- and goes on from list to list, holds of lists with the same elements
module _ {X : Type 0} (S : List X → List X → Type 0) (same : (l : List X) → S l l) (skip : (a : X) (l m : List X) → S l m → S (a ∷ l) (a ∷ m)) (swap : (a b : X) (l : List X) → S (a ∷ b ∷ l) (b ∷ a ∷ l)) (chain : (l m n : List X) → S l m → S m n → S l n) where
  first_with : (x : X) (l : List X) (j : ℕ) → j < length l → S (x ∷ l) (get_or l j x ∷ set l j x)
  first_with x [] j lt = absurd (omega arith)
  first_with x (y ∷ l) zero lt = swap x y l
  first_with x (y ∷ l) (suc j) lt = chain _ _ _ (swap x y l) (chain _ _ _ (skip y _ _ (first_with x l j (omega arith))) (swap y (get_or l j x) (set l j x)))

  pair : (l : List X) (i j : ℕ) (d : X) → i < length l → j < length l → S l (set (set l i (get_or l j d)) j (get_or l i d))
  pair [] i j d p q = absurd (omega arith)
  pair (x ∷ l) zero zero d p q = same (x ∷ l)
  pair (x ∷ l) zero (suc j) d p q = subst (λ y. S (x ∷ l) (y ∷ set l j x)) (get_or_default l j x d (omega arith)) (first_with x l j (omega arith))
  pair (x ∷ l) (suc i) zero d p q = subst (λ y. S (x ∷ l) (y ∷ set l i x)) (get_or_default l i x d (omega arith)) (first_with x l i (omega arith))
  pair (x ∷ l) (suc i) (suc j) d p q = skip x _ _ (pair l i j d (omega arith) (omega arith))

  exchange : (l : List X) (i j : ℕ) → i < length l → j < length l → S l (exchanged l i j)
  exchange [] i j p q = same []
  exchange (x ∷ l) i j p q = pair (x ∷ l) i j x p q

  pub from_shuffled : (xs ys : List X) → IsPermutation xs ys → S xs ys
  from_shuffled xs ys = IsPermutation-keeps xs (S xs) (same xs) (λ l i j p q was. chain _ _ _ was (exchange l i j p q)) ys

-- no two elements have one number, and so after a shuffle
module _ {X : Type 0} (f : X → ℕ) where
  abbrev pub Distinct : List X → Type 0
  Distinct xs = (i j : ℕ) (d : X) → i < length xs → j < length xs → (i ≡ j → ⊥) → f (get_or xs i d) ≡ f (get_or xs j d) → ⊥

  -- where the element at a was before the exchange
  source : (l w : List X) (i j : ℕ) → i < length l → j < length l → w ≡ exchanged l i j → (a : ℕ) → a < length l →
      (b : ℕ) × (b < length l) × ((d : X) → get_or w a d ≡ get_or l b d) × (((a ≡ i) × (b ≡ j)) ⊎ (((a ≡ j) × (b ≡ i)) ⊎ ((a ≡ i → ⊥) × (a ≡ j → ⊥) × (b ≡ a))))
  source l w i j p q e a lt = ⊎_elim
      (λ u. (j, q, (λ d. ap (λ k. get_or w k d) u ∙ (swapped_from_swap l w i j d p q e).0), inl (u, refl)))
      (λ u. ⊎_elim
      (λ v. (i, p, (λ d. ap (λ k. get_or w k d) v ∙ (swapped_from_swap l w i j d p q e).1), inr (inl (v, refl))))
      (λ v. (a, lt, (λ d. (swapped_from_swap l w i j d p q e).2 a u v), inr (inr (u, v, refl)))) (cases_eq a j)) (cases_eq a i)

  pub distinct_shuffled : (xs ys : List X) → IsPermutation xs ys → Distinct xs → Distinct ys
  distinct_shuffled xs ys s h = IsPermutation-keeps xs Distinct h step ys s
    where
      step : (l : List X) (i j : ℕ) → i < length l → j < length l → Distinct l → Distinct (exchanged l i j)
      step l i j p q was = λ a b d la lb ne same.
          let n = length-swap l i j in
          let w = exchanged l i j in
          let s = source l w i j p q refl a (omega arith) in
          let t = source l w i j p q refl b (omega arith) in
          let apart : s.0 ≡ t.0 → ⊥ = grind arith in
          was s.0 t.0 d s.1 t.1 apart (ap f (sym (s.2 d)) ∙ same ∙ ap f (t.2 d))
