-- The theorems over families: patches with identifiers, bounds and upper bounds.
use Rattle.std.proofs.Common.{◌≡◌, ℕ, zero, suc, ◌+◌, ◌-◌, ◌<◌, ◌≤◌, Bool, true, false, cond, ◌&&◌, leb, ◌⊎◌, List, [], ◌∷◌, map, length, filter, refl, ap, ◌∙◌, subst, inl, inr, arith, le-ltb, ne_eqb, le-leb, leb-false, leb-true}
use mathlib.Core.List.{IsPrefix}
use mathlib.Core.Option.{Option, none, some}
use lib.ListN.{get_elem?}
use Rattle.std.specs.List.{AllByRecursion as Every}
use Rattle.std.proofs.ByRecursion.{All-weaker, All-take, all_kept_by}
use Rattle.refine.specs.Orders.{number_first, sorted_by}
use Rattle.refine.specs.OrderLaws.{first_lt, first_eq, first_cases}
use Rattle.refine.specs.Chains.{Family, LawfulFamily, table, threshold, not_above, admitted}
use Rattle.refine.specs.Scan.{ranking, finished}
use Rattle.refine.specs.Steps.{enough_steps, step}
use Rattle.refine.specs.Theorems.{FinishedNearest, LiveOrderIsFree, RunsEnd, StepsEnd, NeedIsLeast, UnadmittedIdle, rebound, given, answer, BoundsOnlyDelay, OrderIsFree}
use Rattle.refine.proofs.Reorders.{Reordered, reordered, perm_all, perm_map, perm_kept}
use Rattle.refine.proofs.Lists.{adding, adding_is, perm_adding, adding_map, all_both, two_weaker, map_same, fronts, front_map}
use Rattle.refine.proofs.Ranks.{le_refl, rank_perm}
use Rattle.refine.proofs.Threshold.{below}
use Rattle.refine.proofs.Run.{Closed, Tame}
use Rattle.refine.proofs.Steps.{step_moves, shrinks}
use Rattle.refine.proofs.Nearest.{nearest, nearest_once}
use Rattle.refine.proofs.Admit.{Admits, not_listed, not_needed}
use Rattle.refine.proofs.Same.{runs_same, runs_shuffled}
use Rattle.refine.proofs.Kth.{plain, rank_weak, kth_upon, number_rank}
use Rattle.refine.proofs.Main.{sep_start, outcome, runs, plan_least, finished_alike}

into_kept : {A : Type 0} (p : A → Bool) (f g : A → ℕ) (l : List A) → Every (λ a. f a ≤ cond (p a) (g a) 0) l → adding f l ≤ adding g (filter p l)
into_kept p f g [] h = omega arith
into_kept p f g (a ∷ l) h = go (p a) h.0 (into_kept p f g l h.1)
  where
    go : (t : Bool) → f a ≤ cond t (g a) 0 → adding f l ≤ adding g (filter p l) → f a + adding f l ≤ adding g (cond t (a ∷ filter p l) (filter p l))
    go true i ih = omega arith
    go false i ih = omega arith

-- ---- the laws of the table

module _ {A I : Type 0} (f : Family A I) where
  first_gt : (p q : ℕ × I) → q.0 < p.0 → number_first f.ids.le p q ≡ false
  first_gt p q h = rw (ne_eqb p.0 q.0 (omega arith)) (le-ltb p.0 q.0 (omega arith))

  first_le : (p q : ℕ × I) → number_first f.ids.le p q ≡ true → p.0 ≤ q.0
  first_le p q h = go (first_cases f.ids p q h)
    where
      go : (p.0 < q.0) ⊎ ((p.0 ≡ q.0) × (f.ids.le p.1 q.1 ≡ true)) → p.0 ≤ q.0
      go (inl a) = omega arith
      go (inr a) = omega arith

  key_rises : (b c : ℕ) (i : I) → b ≤ c → number_first f.ids.le (b, i) (c, i) ≡ true
  key_rises b c i h = go (c - b) refl
    where
      go : (n : ℕ) → c - b ≡ n → number_first f.ids.le (b, i) (c, i) ≡ true
      go zero e = first_eq f.ids (b, i) (c, i) (omega arith) (le_refl f.ids i)
      go (suc n) e = first_lt f.ids (b, i) (c, i) (omega arith)

  bound_rises : (a : A) → ((t : ℕ) → t < f.m → f.bound a t ≤ f.bound a (suc t)) → (n : ℕ) → n ≤ f.m → f.bound a 0 ≤ f.bound a n
  bound_rises a r zero h = omega arith
  bound_rises a r (suc n) h = let ih = bound_rises a r n (omega arith) in let g = r n h in omega arith

  closed : (R : ℕ) → Closed (table f R)
  closed R y z h g = le-leb y.0 R (let h' = first_le y z h in let g' = leb-true z.0 R g in omega arith)

  module _ (R : ℕ) (l : List A) (law : LawfulFamily f l) where
    pub tame : Tame (table f R) l
    tame = record {
      closed = closed R;
      rising = All-weaker _ _ (λ a r t h. key_rises (f.bound a t) (f.bound a (suc t)) (f.id a) (r t h)) l law.rising;
      apart = two_weaker _ _ (λ a b h t u e. h (ap (λ p. p.1) e)) l law.distinct;
    }

    admits : (k : ℕ) → Admits (table f R) (suc k) (admitted f (suc k) R l) l
    admits k = All-weaker _ _ (λ a r e w. go a e w (threshold f (suc k) l) refl) l law.rising
      where
        go : (a : A) → admitted f (suc k) R l a ≡ false → leb (f.bound a 0) R ≡ true → (o : Option ℕ) → threshold f (suc k) l ≡ o
            → suc k ≤ below (table f R) (f.bound a 0, f.id a) (filter (admitted f (suc k) R l) l)
        go a e w none q = absurd (let z : ◌≡◌ {A = ℕ} 0 1 = cc in omega arith)
        go a e w (some v) q =
            let n : suc k - 1 ≡ k = omega arith in
            let q' : get_elem? (sorted_by leb (map f.upper l)) k ≡ some v = rw n at q in
            let c = kth_upon (sorted_by leb (map f.upper l)) k v (rank_weak (map f.upper l)) q' in
            let c₁ = perm_adding (λ u. cond (leb u v) 1 0) (rank_perm plain (map f.upper l)) in
            let c₂ = adding_map f.upper (λ u. cond (leb u v) 1 0) l in
            let v' : v < f.bound a 0 = leb-false (f.bound a 0) v (let w' = w in grind arith) in
            let R' : f.bound a 0 ≤ R = leb-true (f.bound a 0) R w in
            let c₃ = into_kept (admitted f (suc k) R l) (λ p. cond (leb (f.upper p) v) 1 0) (λ p. cond (number_first f.ids.le (f.bound a 0, f.id a) (f.bound p f.m, f.id p)) 0 1) l
            (All-weaker _ _ (λ p h. one p h.0 h.1 v' R' (leb (f.upper p) v) refl) l (all_both _ _ l law.rising law.above)) in
            omega arith
          where
            one : (p : A) → ((t : ℕ) → t < f.m → f.bound p t ≤ f.bound p (suc t)) → f.bound p f.m ≤ f.upper p → v < f.bound a 0 → f.bound a 0 ≤ R
                → (b : Bool) → leb (f.upper p) v ≡ b → cond b 1 0 ≤ cond (admitted f (suc k) R l p) (cond (number_first f.ids.le (f.bound a 0, f.id a) (f.bound p f.m, f.id p)) 0 1) 0
            one p r u v' R' false e = omega arith
            one p r u v' R' true e =
                let u' = leb-true (f.upper p) v e in
                let s = bound_rises p r f.m (omega arith) in
                let g₁ = first_gt (f.bound a 0, f.id a) (f.bound p f.m, f.id p) (omega arith) in
                let g₂ = le-leb (f.bound p 0) R (omega arith) in
                let g₃ = le-leb (f.bound p 0) v (omega arith) in
                rw g₁ (rw g₂ (rw q (rw g₃ (omega arith))))

pub runs_end : (A I : Type 0) → RunsEnd A I
runs_end A I f l zero R B law h = absurd (omega arith)
runs_end A I f l (suc k) R B law h = (
  (λ b e r. outcome (table f R) k (admitted f (suc k) R l) l (tame f R l law) B (admits f R l law k) r),
  runs (table f R) k (admitted f (suc k) R l) l (tame f R l law) B (enough_steps (length l) f.m) (omega arith),
)

pub steps_end : (A I : Type 0) → StepsEnd A I
steps_end A I f k R B s h = ((step (table f R) k B s, step_moves (table f R) (closed f R) k B s), λ s' v. shrinks (table f R) (closed f R) k B v h)

pub need_is_least : (A I : Type 0) → NeedIsLeast A I
need_is_least A I f l zero R law h c s = absurd (omega arith)
need_is_least A I f l (suc k) R law h c s = let n = plan_least (table f R) k l (tame f R l law) c s in let e = adding_is c l in omega arith

pub unadmitted_idle : (A I : Type 0) → UnadmittedIdle A I
unadmitted_idle A I f l zero R law h a i e = absurd (omega arith)
unadmitted_idle A I f l (suc k) R law h a i e = (
  not_listed (table f R) k (admitted f (suc k) R l) l (tame f R l law) (admits f R l law k) a e,
  λ t g. not_needed (table f R) k (admitted f (suc k) R l) l (tame f R l law) (admits f R l law k) a i e t (omega arith),
)

pub bounds_only_delay : (A I : Type 0) → BoundsOnlyDelay A I
bounds_only_delay A I f m bound upper l l' k R B B' p law law' h d b b' e e' r r' =
    fronts (answer f e) (answer g e') (map (given g) (finished (table g R) k l'))
    (subst (λ w. IsPrefix (answer f e) w) same_list (front_map _ e.named _ ((runs_end A I f l k R B law h).0 b e r).begins))
    (front_map _ e'.named _ ((runs_end A I g l' k R B' law' h).0 b' e' r').begins)
  where
    g : Family A I
    g = rebound f m bound upper

    alike : Every (λ a. given f a ≡ given g a) (finished (table f R) k l)
    alike = All-take _ k _ (all_kept_by _ _ (ranking (table f R) l) (perm_all _ (rank_perm (table f R) l) (All-weaker _ _ (λ a q. ap (λ n. (f.id a, n)) q) l d)))

    same_list : map (given f) (finished (table f R) k l) ≡ map (given g) (finished (table g R) k l')
    same_list = map_same _ _ (finished (table f R) k l) alike
        ∙ ap (map (given g)) (finished_alike (table f R) (table g R).key m k (reordered p) (tame f R l law).apart (All-weaker _ _ (λ a q. ap (λ n. (n, f.id a)) q) l d))

pub order_is_free : (A I : Type 0) → OrderIsFree A I
order_is_free A I f l l' k R B p law b b' e e' r r' =
    runs_same (table f R) k B r r'
    (perm_map _ (subst (λ v. Reordered (filter (admitted f k R l) l) (filter (λ a. leb (f.bound a 0) R && not_above v (f.bound a 0)) l')) same_threshold (perm_kept (admitted f k R l) (reordered p))), refl, refl)
    (sep_start (table f R) k (admitted f k R l) l (tame f R l law))
  where
    same_threshold : threshold f k l ≡ threshold f k l'
    same_threshold = ap (λ v. get_elem? v (k - 1)) (number_rank (perm_map f.upper (reordered p)))

pub live_order_is_free : (A I : Type 0) → LiveOrderIsFree A I
live_order_is_free A I f k R B l l' named measured p b e r = runs_shuffled (table f R) k B l l' named measured p b e r

pub finished_nearest : (A I : Type 0) → FinishedNearest A I
finished_nearest A I f l k R law = (nearest (table f R) k l (tame f R l law).apart, λ r h. nearest_once (table f R) k l r (tame f R l law).apart h)
