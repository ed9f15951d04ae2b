-- A patch that is not admitted is neither in the finished list nor needed.
use Rattle.std.proofs.Common.{◌≡◌, ℕ, suc, ◌-◌, ◌≤◌, Bool, true, false, cond, List, [], ◌∷◌, map, take, filter, sym, refl, ap, ◌∙◌, subst, arith}
use Rattle.std.specs.List.{ContainsAt as Has, AllByRecursion as Every}
use Rattle.std.proofs.ByRecursion.{all_kept_by, All-weaker, kept_by_passes, All-take, all-has}
use Rattle.refine.specs.Chains.{Table, EachTwo}
use Rattle.refine.specs.Scan.{final, ranking, full_scan, finished, needed, need}
use Rattle.refine.specs.Steps.{Candidate, start}
use Rattle.refine.proofs.Reorders.{perm_all}
use Rattle.refine.proofs.Lists.{adding, adding_is, perm_adding, adding_same, adding_le, adding_kept, adding_map, passing, passing_is, passing_same, passing_none, all_both, all_by, kept_swap, two_kept, two_weaker}
use Rattle.refine.proofs.Ranks.{lt_le, Other, Ascending, rank_perm, rank_kept, rank_ascending, ascending_kept}
use Rattle.refine.proofs.Threshold.{upto_is, upto_take, upto_false, below, take_kept}
use Rattle.refine.proofs.Run.{Rising, Apart, Closed, Tame, climbs, patches, ok, due, left}

module _ {A K : Type 0} (x : Table A K) where
  -- before z, within the radius, come only patches within it
  below_kept : Closed x → (z : K) (l : List A) → x.within z ≡ true → below x z (filter (λ a. x.within (final x a)) l) ≡ below x z l
  below_kept closed z l w = adding_kept _ _ l (all_by one l)
    where
      one : (a : A) → x.within (final x a) ≡ false → ◌≡◌ {A = ℕ} (cond (x.ord.le z (final x a)) 0 1) 0
      one a e = grind (arith, closed (final x a) z, x.ord.connected z (final x a))

  below_grows : (y z : K) (l : List A) → x.ord.le y z ≡ true → below x y l ≤ below x z l
  below_grows y z l h = adding_le _ _ l (all_by one l)
    where
      one : (a : A) → cond (x.ord.le y (final x a)) 0 1 ≤ cond (x.ord.le z (final x a)) 0 1
      one a = grind (arith, lt_le x.ord (final x a) y z)

  below_scan : Closed x → (y z : K) (l : List A) → x.ord.le y z ≡ true → x.within z ≡ true → below x y l ≤ below x z (full_scan x l)
  below_scan closed y z l h w =
      let e₁ = below_kept closed z (ranking x l) w in
      let e₂ = perm_adding (λ a. cond (x.ord.le z (final x a)) 0 1) (rank_perm x l) in
      let e₃ = below_grows y z l h in
      omega arith

  apart_other : (l : List A) → EachTwo (Apart x) l → EachTwo (Other x) l
  apart_other l h = two_weaker _ _ (λ a b g. g x.m x.m) l h

  pub scan_ascending : (l : List A) → EachTwo (Apart x) l → Ascending x (full_scan x l)
  scan_ascending l h = ascending_kept x _ (ranking x l) (rank_ascending x l (apart_other l h))

  -- k admitted patches come before a patch that is within the radius and not admitted
  abbrev pub Admits : ℕ → (A → Bool) → List A → Type 0
  Admits k adm l = Every (λ a. adm a ≡ false → x.within (x.key a 0) ≡ true → k ≤ below x (x.key a 0) (filter adm l)) l

  module _ (k : ℕ) (adm : A → Bool) (l : List A) (t : Tame x l) (admits : Admits k adm l) where
    scan_kept : full_scan x (filter adm l) ≡ filter adm (full_scan x l)
    scan_kept = ap (filter (λ a. x.within (final x a))) (rank_kept x adm l (apart_other l t.apart)) ∙ kept_swap _ adm (ranking x l)

    pub first_kept : take k (full_scan x l) ≡ take k (full_scan x (filter adm l))
    first_kept = take_kept x adm k (full_scan x l) (scan_ascending l t.apart) (All-weaker _ _ one (full_scan x l) facts) ∙ ap (take k) (sym scan_kept)
      where
        Fact : A → Type 0
        Fact a = Rising x a × (adm a ≡ false → x.within (x.key a 0) ≡ true → k ≤ below x (x.key a 0) (filter adm l))

        facts : Every (λ a. Fact a × (x.within (final x a) ≡ true)) (full_scan x l)
        facts = all_both Fact _ (full_scan x l) (all_kept_by _ _ (ranking x l) (perm_all _ (rank_perm x l) (all_both _ _ l t.rising admits))) (kept_by_passes _ (ranking x l))

        one : (a : A) → Fact a × (x.within (final x a) ≡ true) → adm a ≡ false → k ≤ below x (final x a) (filter adm (full_scan x l))
        one a h e =
            let c = climbs x a h.0.0 0 x.m (omega arith) (omega arith) in
            let n = h.0.1 e (t.closed _ _ c h.1) in
            let g = below_scan t.closed _ _ (filter adm l) c h.1 in
            let g' : below x (x.key a 0) (filter adm l) ≤ below x (final x a) (filter adm (full_scan x l)) = rw scan_kept at g in
            omega arith

    -- what such a patch would have measured does not pass
    not_ok : (a : A) → Rising x a → (adm a ≡ false → x.within (x.key a 0) ≡ true → k ≤ below x (x.key a 0) (filter adm l)) → adm a ≡ false
        → (u : ℕ) → u ≤ x.m → ok x k (full_scan x (filter adm l)) (x.key a u) ≡ false
    not_ok a r h e u i = go (x.within (x.key a u)) refl
      where
        go : (b : Bool) → x.within (x.key a u) ≡ b → ok x k (full_scan x (filter adm l)) (x.key a u) ≡ false
        go false f = grind arith
        go true f =
            let c = climbs x a r 0 u (omega arith) i in
            let n = h e (t.closed _ _ c f) in
            let g = below_scan t.closed _ _ (filter adm l) c f in
            let z = upto_false x k (full_scan x (filter adm l)) (x.key a u) (scan_ascending (filter adm l) (two_kept _ adm l t.apart)) (omega arith) in
            grind arith

    not_due : (a : A) → Rising x a → (adm a ≡ false → x.within (x.key a 0) ≡ true → k ≤ below x (x.key a 0) (filter adm l)) → adm a ≡ false
        → passing (λ u. ok x k (full_scan x (filter adm l)) (x.key a u)) x.m 0 ≡ 0
    not_due a r h e = passing_none _ x.m 0 (λ u i j. not_ok a r h e u (omega arith))

  -- the need, by recursion
  pub need_adds : (k : ℕ) (l : List A) → need x k l ≡ adding (λ a. passing (λ t. needed x k l (x.key a t)) x.m 0) l
  need_adds k l = adding_is _ l ∙ adding_same _ _ l (all_by (λ a. passing_is (λ t. needed x k l (x.key a t)) x.m 0) l)

  pub patches_start : (l : List A) → patches x (map (λ a. record { patch = a; t = 0 }) l) ≡ l
  patches_start [] = refl
  patches_start (a ∷ l) = ap (λ r. a ∷ r) (patches_start l)

  module _ (k : ℕ) (adm : A → Bool) (l : List A) (t : Tame x l) (admits : Admits (suc k) adm l) where
    needed_is : (y : K) → needed x (suc k) l y ≡ ok x (suc k) (full_scan x (filter adm l)) y
    needed_is y =
        let n : suc k - 1 ≡ k = omega arith in
        let e₁ = upto_is x k (full_scan x l) y in
        let e₂ = upto_take x (suc k) (full_scan x l) y in
        let e₃ = upto_take x (suc k) (full_scan x (filter adm l)) y in
        let e₄ = first_kept (suc k) adm l t admits in
        rw n (rw e₁ (rw (← e₂) (rw e₄ (rw e₃ refl))))

    pub need_is : need x (suc k) l ≡ left x (suc k) (start adm l).live
    need_is =
        let w : List A = full_scan x (filter adm l) in
        let f : A → ℕ = λ a. passing (λ u. ok x (suc k) w (x.key a u)) x.m 0 in
        let e₁ : need x (suc k) l ≡ adding f l = need_adds (suc k) l ∙ adding_same _ f l (all_by (λ a. passing_same _ _ x.m 0 (λ u i j. needed_is (x.key a u))) l) in
        let e₂ : adding f (filter adm l) ≡ adding f l = adding_kept adm f l (All-weaker _ _ (λ a h. not_due (suc k) adm l t admits a h.0 h.1) l (all_both _ _ l t.rising admits)) in
        let e₃ : adding (due x (suc k) w) (map cand (filter adm l)) ≡ adding f (filter adm l) = adding_map cand (due x (suc k) w) (filter adm l) ∙ adding_same _ f (filter adm l) (all_by full_due (filter adm l)) in
        let e₄ : left x (suc k) (map cand (filter adm l)) ≡ adding (due x (suc k) w) (map cand (filter adm l)) = ap (λ v. adding (due x (suc k) (full_scan x v)) (map cand (filter adm l))) (patches_start (filter adm l)) in
        omega arith
      where
        cand : A → Candidate A
        cand a = record { patch = a; t = 0 }

        full_due : (a : A) → due x (suc k) (full_scan x (filter adm l)) (record { patch = a; t = 0 }) ≡ passing (λ u. ok x (suc k) (full_scan x (filter adm l)) (x.key a u)) x.m 0
        full_due a = let n : x.m - 0 ≡ x.m = omega arith in rw n refl

    -- a patch that is not admitted is not in the finished list, and none of its keys is needed
    pub not_listed : (a : A) → adm a ≡ false → Has (finished x (suc k) l) a → ⊥
    not_listed a e h = clash (all-has _ (finished x (suc k) l) a (subst (Every (λ b. adm b ≡ true)) (sym (first_kept (suc k) adm l t admits)) admitted_only) h)
      where
        clash : adm a ≡ true → ⊥
        clash g = let z : ◌≡◌ {A = ℕ} 0 1 = cc in omega arith

        admitted_only : Every (λ b. adm b ≡ true) (take (suc k) (full_scan x (filter adm l)))
        admitted_only = All-take _ (suc k) _ (all_kept_by _ _ (ranking x (filter adm l)) (perm_all _ (rank_perm x (filter adm l)) (kept_by_passes adm l)))

    pub not_needed : (a : A) → Has l a → adm a ≡ false → (u : ℕ) → u ≤ x.m → needed x (suc k) l (x.key a u) ≡ false
    not_needed a i e u h = let f = all-has _ l a (all_both _ _ l t.rising admits) i in needed_is (x.key a u) ∙ not_ok (suc k) adm l t admits a f.0 f.1 e u h
