-- The theorems over tables: how runs end, and what plans cost.
use Rattle.std.proofs.Common.{◌≡◌, ℕ, suc, ◌+◌, ◌*◌, ◌<◌, ◌≤◌, Bool, true, false, cond, ◌&&◌, List, [], ◌∷◌, map, length, take, filter, sym, refl, ap, ◌∙◌, append-nil, arith}
use mathlib.Core.Bool.{false≢true}
use mathlib.Core.Option.{Option, none, some}
use Rattle.std.specs.List.{ContainsAt as Has, AllByRecursion as Every}
use Rattle.std.proofs.ByRecursion.{all_kept_by, All-weaker, All-map, kept_by_passes, All-take, all-has, has_shuffled}
use Rattle.refine.specs.Chains.{Table, EachTwo}
use Rattle.refine.specs.Scan.{final, ranking, full_scan, finished, not_after, needed, need}
use Rattle.refine.specs.Steps.{State, Runs, start, run}
use Rattle.refine.specs.Plans.{Past, Settles}
use Rattle.refine.specs.Theorems.{Outcome}
use Rattle.refine.proofs.Reorders.{Reordered, shuffled, perm_all}
use Rattle.refine.proofs.Lists.{adding, adding_le, passing, passing_le, two_kept, two_map, two_weaker, all_from_has, has_kept}
use Rattle.refine.proofs.Ranks.{lt_le, insert, rank_perm, rank_same}
use Rattle.refine.proofs.Threshold.{upto, has_upto, upto_first}
use Rattle.refine.proofs.Run.{Rising, Apart, Closed, Tame, climbs, outside, patches, ok, left, Good, Sep, Ending, ends}
use Rattle.refine.proofs.Steps.{size, run_ends}
use Rattle.refine.proofs.Admit.{Admits, first_kept, need_is, need_adds, patches_start, scan_ascending}

module _ {A K : Type 0} (x : Table A K) where
  module _ (k : ℕ) (adm : A → Bool) (l : List A) (t : Tame x l) where
    good_start : Every (Good x) (start adm l).live
    good_start = All-map _ _ (filter adm l) (all_kept_by adm _ l (All-weaker _ _ (λ a r. (omega arith, r)) l t.rising))

    pub sep_start : EachTwo (Sep x) (start adm l).live
    sep_start = two_map (Sep x) (λ a. record { patch = a; t = 0 }) (filter adm l) (two_kept _ adm l t.apart)

    -- every run ends so
    pub outcome : (B : ℕ) → Admits x (suc k) adm l → {b : Bool} {e : State A} → Runs x (suc k) B (start adm l) b e → Outcome x (suc k) B l b e
    outcome B admits {b} {e} r = close b (ends x t.closed (suc k) B r (suc k) (omega arith) (omega arith) good_start sep_start)
      where
        same_list : take (suc k) (full_scan x (patches x (start adm l).live)) ≡ finished x (suc k) l
        same_list = ap (λ v. take (suc k) (full_scan x v)) (patches_start x (filter adm l)) ∙ sym (first_kept x (suc k) adm l t admits)

        close : (b : Bool) → Ending x t.closed (suc k) B b (take (suc k) (full_scan x (patches x (start adm l).live))) (0 + left x (suc k) (start adm l).live) e → Outcome x (suc k) B l b e
        close true h =
            let n = need_is x k adm l t admits in
            record {
              begins = ([], append-nil e.named ∙ h.0 ∙ same_list);
              count = omega arith;
              enough = λ i. refl;
              afforded = λ i. omega arith;
              whole = λ i. h.0 ∙ same_list;
            }
        close false h =
            let n = need_is x k adm l t admits in
            record {
              begins = (h.0.0, h.0.1 ∙ same_list);
              count = omega arith;
              enough = λ i. absurd (omega arith);
              afforded = λ i. absurd (false≢true i);
              whole = λ i. absurd (false≢true i);
            }

    size_start : (l : List A) → size x (map (λ a. record { patch = a; t = 0 }) (filter adm l)) ≤ length l * suc x.m
    size_start [] = omega arith
    size_start (a ∷ l) = go (adm a) (size_start l)
      where
        go : (t : Bool) → size x (map (λ a. record { patch = a; t = 0 }) (filter adm l)) ≤ length l * suc x.m
            → size x (map (λ a. record { patch = a; t = 0 }) (cond t (a ∷ filter adm l) (filter adm l))) ≤ suc (length l) * suc x.m
        go true ih = omega arith
        go false ih = omega arith

    -- and there is one, computed in at most length l * (m + 1) + 1 steps
    pub runs : (B n : ℕ) → length l * suc x.m < n → (b : Bool) × (e : State A) × (run x (suc k) B n (start adm l) ≡ some (b, e)) × Runs x (suc k) B (start adm l) b e
    runs B n h = run_ends x t.closed (suc k) B n (start adm l) (All-weaker _ _ (λ c g. g.0) (start adm l).live good_start) (omega (arith, size_start l))

  -- a plan that settles the list takes at least what is needed
  past_fails : Closed x → (o : Option A) (y z : K) → Past x o y → x.ord.le y z ≡ true → (x.within z && not_after x o z) ≡ false
  past_fails closed none y z p h = let e = outside x closed y z h p in grind arith
  past_fails closed (some a) y z p h = let e = lt_le x.ord (final x a) y z p h in grind arith

  pub plan_least : (k : ℕ) (l : List A) → Tame x l → (c : A → ℕ) → Settles x (suc k) l c → need x (suc k) l ≤ adding c l
  plan_least k l t c s = let n = need_adds x (suc k) l in let g = adding_le _ c l (all_from_has _ l one) in omega arith
    where
      one : (a : A) → Has l a → passing (λ u. needed x (suc k) l (x.key a u)) x.m 0 ≤ c a
      one a i = go (ok x (suc k) (full_scan x l) (final x a)) refl
        where
          r : Rising x a
          r = all-has _ l a t.rising i

          go : (b : Bool) → ok x (suc k) (full_scan x l) (final x a) ≡ b → passing (λ u. needed x (suc k) l (x.key a u)) x.m 0 ≤ c a
          go true e =
              let w : x.within (final x a) ≡ true = grind arith in
              let v : upto x (suc k) (full_scan x l) (final x a) ≡ true = grind arith in
              let j = has_upto x (suc k) (full_scan x l) a (scan_ascending x l t.apart) (has_kept _ (ranking x l) a (has_shuffled l (ranking x l) a (shuffled (rank_perm x l)) i) w) v in
              let q = all-has _ (finished x (suc k) l) a s.listed j in
              let p = passing_le (λ u. needed x (suc k) l (x.key a u)) x.m x.m 0 (λ u f g. absurd (omega arith)) (omega arith) in
              omega arith
          go false e =
              let h = all-has _ l a s.others i (λ j.
              let v = all-has _ (finished x (suc k) l) a (upto_first x (suc k) (full_scan x l) (scan_ascending x l t.apart)) j in
              let w = all-has _ (finished x (suc k) l) a (All-take _ (suc k) (full_scan x l) (kept_by_passes _ (ranking x l))) j in
              let z : ◌≡◌ {A = ℕ} 0 1 = grind arith in omega arith) in
              let p = passing_le (λ u. needed x (suc k) l (x.key a u)) (c a) x.m 0 (λ u f g. past_fails t.closed _ _ _ h (climbs x a r (c a) u f (omega arith))) (omega arith) in
              omega arith

-- two tables over the same order and radius with the same final keys list the same patches, in whatever order these stand
module _ {A K : Type 0} (x : Table A K) (key' : A → ℕ → K) (m' : ℕ) where
  abbrev pub other : Table A K
  other = record { ord = x.ord; key = key'; m = m'; within = x.within }

  insert_alike : (a : A) (l : List A) → final x a ≡ final other a → Every (λ b. final x b ≡ final other b) l → insert x a l ≡ insert other a l
  insert_alike a [] e h = refl
  insert_alike a (b ∷ l) e h = let f = h.0 in let ih = insert_alike a l e h.1 in cc

  rank_alike : (l : List A) → Every (λ b. final x b ≡ final other b) l → ranking x l ≡ ranking other l
  rank_alike [] h = refl
  rank_alike (a ∷ l) h = insert_alike a (ranking x l) h.0 (perm_all _ (rank_perm x l) h.1) ∙ ap (insert other a) (rank_alike l h.1)

  kept_alike : (l : List A) → Every (λ b. final x b ≡ final other b) l → filter (λ a. x.within (final x a)) l ≡ filter (λ a. x.within (final other a)) l
  kept_alike [] h = refl
  kept_alike (a ∷ l) h = let e = h.0 in let ih = kept_alike l h.1 in cc

  pub finished_alike : (k : ℕ) {l l' : List A} → Reordered l l' → EachTwo (Apart x) l → Every (λ b. final x b ≡ final other b) l → finished x k l ≡ finished other k l'
  finished_alike k {l} {l'} p h f =
      let f' = perm_all (λ b. final x b ≡ final other b) p f in
      ap (λ v. take k (filter (λ a. x.within (final x a)) v)) (rank_same x p (two_weaker _ _ (λ a b g. g x.m x.m) l h))
      ∙ ap (take k) (kept_alike (ranking x l') (perm_all _ (rank_perm x l') f'))
      ∙ ap (λ v. take k (filter (λ a. x.within (final other a)) v)) (rank_alike l' f')
