-- Which keys do not come after the k-th of a rising list.
use Rattle.std.proofs.Common.{◌≡◌, ℕ, zero, suc, ◌+◌, ◌≤◌, Bool, true, false, cond, ◌⊎◌, List, [], ◌∷◌, take, filter, refl, ap, inl, inr, arith}
use lib.ListN.{get_elem?}
use Rattle.std.specs.List.{ContainsAt as Has, AllByRecursion as Every}
use Rattle.std.proofs.ByRecursion.{all_kept_by, All-weaker, all-has}
use Rattle.refine.specs.Chains.{Table}
use Rattle.refine.specs.Scan.{final, not_after}
use Rattle.refine.proofs.Lists.{adding, has_here, has_there, has_cases}
use Rattle.refine.proofs.Ranks.{le_refl, Ascending}

module _ {A K : Type 0} (x : Table A K) where
  -- y does not come after the k-th, where there is one; with k = 0 nothing passes
  abbrev pub upto : ℕ → List A → K → Bool
  upto zero l y = false
  upto (suc k) [] y = true
  upto (suc zero) (a ∷ l) y = x.ord.le y (final x a)
  upto (suc (suc k)) (a ∷ l) y = upto (suc k) l y

  pub upto_is : (k : ℕ) (l : List A) (y : K) → not_after x (get_elem? (take (suc k) l) k) y ≡ upto (suc k) l y
  upto_is zero [] y = refl
  upto_is (suc k) [] y = refl
  upto_is zero (a ∷ l) y = refl
  upto_is (suc k) (a ∷ l) y = upto_is k l y

  pub upto_take : (k : ℕ) (l : List A) (y : K) → upto k (take k l) y ≡ upto k l y
  upto_take zero l y = refl
  upto_take (suc k) [] y = refl
  upto_take (suc zero) (a ∷ l) y = refl
  upto_take (suc (suc k)) (a ∷ l) y = upto_take (suc k) l y

  pub upto_true : (k : ℕ) (l : List A) (y : K) → Every (λ a. x.ord.le y (final x a) ≡ true) l → upto (suc k) l y ≡ true
  upto_true k [] y h = refl
  upto_true zero (a ∷ l) y h = h.0
  upto_true (suc k) (a ∷ l) y h = upto_true k l y h.1

  -- how many final keys come before y
  abbrev pub below : K → List A → ℕ
  below y l = adding (λ a. cond (x.ord.le y (final x a)) 0 1) l

  pub below_none : (y : K) (l : List A) → Every (λ a. x.ord.le y (final x a) ≡ true) l → below y l ≡ 0
  below_none y [] h = refl
  below_none y (a ∷ l) h = let e = h.0 in let f = below_none y l h.1 in rw e (omega arith)

  -- what comes after the first comes after none of a rising list
  pub from_first : (y : K) (a : A) (l : List A) → Ascending x (a ∷ l) → x.ord.le y (final x a) ≡ true → Every (λ b. x.ord.le y (final x b) ≡ true) l
  from_first y a l s e = All-weaker _ _ (λ b g. x.ord.transitive _ _ _ e (x.ord.connected _ _ g)) l s.0

  pub upto_false : (k : ℕ) (l : List A) (y : K) → Ascending x l → k ≤ below y l → upto k l y ≡ false
  upto_false zero l y s h = refl
  upto_false (suc k) [] y s h = absurd (omega arith)
  upto_false (suc zero) (a ∷ l) y s h = go (x.ord.le y (final x a)) refl
    where
      go : (t : Bool) → x.ord.le y (final x a) ≡ t → x.ord.le y (final x a) ≡ false
      go false e = e
      go true e = let f = below_none y (a ∷ l) (e, from_first y a l s e) in absurd (omega arith)
  upto_false (suc (suc k)) (a ∷ l) y s h = go (x.ord.le y (final x a)) refl (upto_false (suc k) l y s.1)
    where
      go : (t : Bool) → x.ord.le y (final x a) ≡ t → (suc k ≤ below y l → upto (suc k) l y ≡ false) → upto (suc k) l y ≡ false
      go false e ih = let h' : suc (suc k) ≤ 1 + below y l = rw e at h in ih (omega arith)
      go true e ih = let f = below_none y (a ∷ l) (e, from_first y a l s e) in absurd (omega arith)

  -- the first k of a rising list are those that do not come after the k-th
  pub has_upto : (k : ℕ) (l : List A) (a : A) → Ascending x l → Has l a → upto k l (final x a) ≡ true → Has (take k l) a
  has_upto zero l a s i h = absurd (let e : ◌≡◌ {A = ℕ} 0 1 = cc in omega arith)
  has_upto (suc k) [] a s i h = i
  has_upto (suc zero) (b ∷ l) a s i h = go (has_cases a b l i)
    where
      go : (b ≡ a) ⊎ Has l a → Has (b ∷ []) a
      go (inl e) = has_here a b [] e
      go (inr j) = absurd (let f = all-has _ l a s.0 j in let e : ◌≡◌ {A = ℕ} 0 1 = cc in omega arith)
  has_upto (suc (suc k)) (b ∷ l) a s i h = go (has_cases a b l i) (λ j. has_upto (suc k) l a s.1 j h)
    where
      go : (b ≡ a) ⊎ Has l a → (Has l a → Has (take (suc k) l) a) → Has (b ∷ take (suc k) l) a
      go (inl e) more = has_here a b (take (suc k) l) e
      go (inr j) more = has_there a b (take (suc k) l) (more j)

  pub upto_first : (k : ℕ) (l : List A) → Ascending x l → Every (λ a. upto k l (final x a) ≡ true) (take k l)
  upto_first zero l s = tt
  upto_first (suc k) [] s = tt
  upto_first (suc zero) (a ∷ l) s = (le_refl x.ord (final x a), tt)
  upto_first (suc (suc k)) (a ∷ l) s =
      (upto_true k l (final x a) (from_first (final x a) a l s (le_refl x.ord (final x a))), upto_first (suc k) l s.1)

  cond_le : (b : Bool) → cond b 0 1 ≤ 1
  cond_le true = omega arith
  cond_le false = omega arith

  -- to drop an element that k kept ones come before changes nothing of the first k
  pub take_kept : (p : A → Bool) (k : ℕ) (l : List A) → Ascending x l → Every (λ a. p a ≡ false → k ≤ below (final x a) (filter p l)) l → take k l ≡ take k (filter p l)
  take_kept p k [] s h = refl
  take_kept p k (a ∷ l) s h = go (p a) refl k h (λ j. take_kept p j l s.1)
    where
      go : (t : Bool) → p a ≡ t → (k : ℕ) → Every (λ b. p b ≡ false → k ≤ below (final x b) (cond t (a ∷ filter p l) (filter p l))) (a ∷ l)
          → ((j : ℕ) → Every (λ b. p b ≡ false → j ≤ below (final x b) (filter p l)) l → take j l ≡ take j (filter p l))
          → take k (a ∷ l) ≡ take k (cond t (a ∷ filter p l) (filter p l))
      go true e zero h ih = refl
      go true e (suc k) h ih =
          ap (λ r. a ∷ r) (ih k (All-weaker _ _ (λ b g f. let g' = g f in omega (arith, cond_le (x.ord.le (final x b) (final x a)))) l h.1))
      go false e k h ih =
          let f = below_none (final x a) (filter p l) (all_kept_by p _ l (from_first (final x a) a l s (le_refl x.ord (final x a)))) in
          let g = h.0 e in
          let z : k ≡ 0 = omega arith in
          rw z refl
