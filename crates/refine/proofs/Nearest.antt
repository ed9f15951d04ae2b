-- The finished list is the k nearest.
use Rattle.std.proofs.Common.{◌≡◌, ℕ, zero, suc, ◌≤◌, Bool, true, false, ◌⊎◌, List, [], ◌∷◌, length, take, sym, refl, ap, ◌∙◌, ap₂, inl, inr, arith}
use Rattle.std.specs.List.{ContainsAt as Has, AllByRecursion as Every}
use Rattle.std.proofs.ByRecursion.{All-weaker, All-take, all_kept_by, kept_by_passes, all-has, all_has_itself, has_shuffled}
use Rattle.std.proofs.lemmas.List.{length-take}
use Rattle.refine.specs.Chains.{Table, EachTwo}
use Rattle.refine.specs.Scan.{final, ranking, full_scan, finished}
use Rattle.refine.specs.Theorems.{Nearest}
use Rattle.refine.proofs.Reorders.{shuffled, perm_all}
use Rattle.refine.proofs.Lists.{has_here, has_there, has_cases, has_none, has_kept, all_from_has, all_both}
use Rattle.refine.proofs.Ranks.{le_refl, Ascending, rank_perm}
use Rattle.refine.proofs.Run.{Apart}
use Rattle.refine.proofs.Admit.{scan_ascending}

module _ {A K : Type 0} (x : Table A K) where
  rises : (k : ℕ) (w : List A) → Ascending x w → EachTwo (λ a b. x.ord.le (final x b) (final x a) ≡ false) (take k w)
  rises zero w s = tt
  rises (suc k) [] s = tt
  rises (suc k) (a ∷ w) s = (All-take _ k w s.0, rises k w s.1)

  -- what the first k of a rising list leave out comes after all of them
  later : (k : ℕ) (w : List A) (a : A) → Ascending x w → Has w a → (Has (take k w) a → ⊥) → (length (take k w) ≡ k) × Every (λ b. x.ord.le (final x b) (final x a) ≡ true) (take k w)
  later zero w a s i n = (refl, tt)
  later (suc k) [] a s i n = absurd (has_none a i)
  later (suc k) (b ∷ w) a s i n = go (has_cases a b w i) (later k w a s.1)
    where
      go : (b ≡ a) ⊎ Has w a → (Has w a → (Has (take k w) a → ⊥) → (length (take k w) ≡ k) × Every (λ b. x.ord.le (final x b) (final x a) ≡ true) (take k w))
          → (suc (length (take k w)) ≡ suc k) × Every (λ b. x.ord.le (final x b) (final x a) ≡ true) (b ∷ take k w)
      go (inl e) more = absurd (n (has_here a b (take k w) e))
      go (inr j) more =
          let r = more j (λ h. n (has_there a b (take k w) h)) in
          (ap suc r.0, (x.ord.connected (final x a) (final x b) (all-has _ w a s.0 j), r.1))

  pub nearest : (k : ℕ) (l : List A) → EachTwo (Apart x) l → Nearest x k l (finished x k l)
  nearest k l apart = record {
    held = All-take _ k _ (all_kept_by _ _ (ranking x l) (perm_all _ (rank_perm x l) (all_has_itself l)));
    near = All-take _ k _ (kept_by_passes _ (ranking x l));
    rising = rises k (full_scan x l) (scan_ascending x l apart);
    few = omega (arith, length-take k (full_scan x l));
    rest = all_from_has _ l (λ a i w n. later k (full_scan x l) a (scan_ascending x l apart) (has_kept _ (ranking x l) a (has_shuffled l (ranking x l) a (shuffled (rank_perm x l)) i) w) n);
  }

  clash : (t : Bool) → t ≡ true → t ≡ false → ⊥
  clash t h g = let z : ◌≡◌ {A = ℕ} 0 1 = cc in omega arith

  -- a list that rises, is of w, and leaves out of w only what comes after it, is a beginning of w
  only : (k : ℕ) (w r : List A) → Ascending x w → EachTwo (λ a b. x.ord.le (final x b) (final x a) ≡ false) r → Every (Has w) r → length r ≤ k
      → ((a : A) → Has w a → (Has r a → ⊥) → (length r ≡ k) × Every (λ b. x.ord.le (final x b) (final x a) ≡ true) r) → r ≡ take k w
  only zero [] [] s t h n f = refl
  only (suc k) [] [] s t h n f = refl
  only k [] (c ∷ r) s t h n f = absurd (has_none c h.0)
  only zero (a ∷ w) [] s t h n f = refl
  only zero (a ∷ w) (c ∷ r) s t h n f = absurd (omega arith)
  only (suc k) (a ∷ w) [] s t h n f = absurd (let q = (f a (has_here a a w refl) (has_none a)).0 in omega arith)
  only (suc k) (a ∷ w) (c ∷ r) s t h n f = go (has_cases c a w h.0) (only k w r s.1 t.1)
    where
      -- the first of r is the first of w
      same_first : a ≡ c → Every (Has w) r × ((b : A) → Has w b → (Has r b → ⊥) → (length r ≡ k) × Every (λ d. x.ord.le (final x d) (final x b) ≡ true) r)
      same_first e = (All-weaker _ _ (λ d g. held d g.0 g.1) r (all_both _ _ r h.1 t.0), after)
        where
          held : (d : A) → Has (a ∷ w) d → x.ord.le (final x d) (final x c) ≡ false → Has w d
          held d i g = elim (has_cases d a w i) [ inl p ↦ absurd (clash _ (ap (λ u. x.ord.le (final x u) (final x c)) (sym p ∙ e) ∙ le_refl x.ord (final x c)) g) | inr j ↦ j ]

          not_in : (b : A) → Has w b → (Has r b → ⊥) → Has (c ∷ r) b → ⊥
          not_in b i m j = elim (has_cases b c r j) [ inl p ↦ clash _ (ap (λ u. x.ord.le (final x u) (final x a)) (sym (e ∙ p)) ∙ le_refl x.ord (final x a)) (all-has _ w b s.0 i) | inr q ↦ m q ]

          after : (b : A) → Has w b → (Has r b → ⊥) → (length r ≡ k) × Every (λ d. x.ord.le (final x d) (final x b) ≡ true) r
          after b i m = let q = f b (has_there b a w i) (not_in b i m) in ((let z = q.0 in omega arith), q.1.1)

      -- it is no later one of w: the first of w would be left out
      later_first : Has w c → ⊥
      later_first j = clash _ (f a (has_here a a w refl) out).1.0 lt
        where
          lt : x.ord.le (final x c) (final x a) ≡ false
          lt = all-has _ w c s.0 j

          out : Has (c ∷ r) a → ⊥
          out i = elim (has_cases a c r i) [ inl p ↦ clash _ (ap (λ u. x.ord.le (final x u) (final x a)) p ∙ le_refl x.ord (final x a)) lt | inr q ↦ clash _ (x.ord.connected (final x c) (final x a) lt) (all-has _ r a t.0 q) ]

      go : (a ≡ c) ⊎ Has w c → (Every (Has w) r → length r ≤ k → ((b : A) → Has w b → (Has r b → ⊥) → (length r ≡ k) × Every (λ d. x.ord.le (final x d) (final x b) ≡ true) r) → r ≡ take k w) → c ∷ r ≡ a ∷ take k w
      go (inl e) more = let q = same_first e in ap₂ (λ y l. y ∷ l) (sym e) (more q.0 (omega arith) q.1)
      go (inr j) more = absurd (later_first j)

  pub nearest_once : (k : ℕ) (l r : List A) → EachTwo (Apart x) l → Nearest x k l r → r ≡ finished x k l
  nearest_once k l r apart h = only k (full_scan x l) r (scan_ascending x l apart) h.rising
      (All-weaker _ _ (λ a g. into a g.0 g.1) r (all_both _ _ r h.held h.near)) h.few
      (λ a i n. all-has _ l a h.rest (back a i) (all-has _ (full_scan x l) a (kept_by_passes _ (ranking x l)) i) n)
    where
      into : (a : A) → Has l a → x.within (final x a) ≡ true → Has (full_scan x l) a
      into a i w = has_kept _ (ranking x l) a (has_shuffled l (ranking x l) a (shuffled (rank_perm x l)) i) w

      back : (a : A) → Has (full_scan x l) a → Has l a
      back a i = all-has (Has l) (full_scan x l) a (all_kept_by _ _ (ranking x l) (perm_all _ (rank_perm x l) (all_has_itself l))) i
