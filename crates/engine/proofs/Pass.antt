-- One slot more in each of the two passes, and the threshold that the first one gives.
use Rattle.std.proofs.Common.{◌≡◌, ℕ, ◌+◌, ◌-◌, ◌<◌, ◌≤◌, Bool, true, false, cond, ◌≢◌, ◌⊎◌, List, [], ◌∷◌, ◌++◌, map, length, get_or, take, set, Some, None, filter, sym, refl, ap, ◌∙◌, subst, inl, inr, ⊎_elim, arith, below_more, MatchOption}
use Rattle.std.specs.List.{range_with_len}
use Rattle.std.specs.List.Sorted.{IsPermutation}
use Rattle.std.specs.declared.option.Option as rust
use Rattle.std.proofs.lemmas.Bool.{cases_lt}
use Rattle.std.proofs.lemmas.List.{length-take-le, get_or-set_same, get_or-set_other, get_or-drop, append-nil, map_push}
use Rattle.std.proofs.lemmas.List.Elements.{filter-append}
use Rattle.std.proofs.lemmas.List.Sorted.{IsPermutation-refl, IsPermutation-sym, IsPermutation-trans, IsPermutation-cons, IsPermutation-to_front}
use Rattle.std.proofs.ByRecursion.{all_shuffled}
use Rattle.queue.specs.Heaps.{Pushed}
use Rattle.queue.specs.Selection.{KthLeast, Offered, Threshold}
use Rattle.queue.specs.declared.rank.Upper.{Upper}
use Rattle.queue.proofs.KLeast.{Keeping}
use Rattle.queue.proofs.Shuffles.{shuffled_map}
use Rattle.queue.proofs.Sifts.{none_heaped}
use Rattle.refine.specs.Chains.{Family, kth_least}
use Rattle.refine.specs.Steps as steps
use Rattle.refine.proofs.Kth.{kth_by_counts}
use Rattle.engine.specs.declared.records.Candidate.{Candidate}
use Rattle.engine.specs.Tables.{Tables}
use Rattle.engine.specs.Kinds.{ByBound, no_candidate}
use Rattle.engine.specs.Slots.{Unmeasured}
use Rattle.engine.specs.Passes.{plain, bound_at, FirstBounds, spot, untouched, Admits}
use Rattle.engine.proofs.Places.{counting_more}

-- ---- the first pass

pub bounds_more : (f : Family ℕ ℕ) (i : ℕ) (xs : List Candidate) (x : Candidate) → i < length xs → x.bound ≡ f.bound i 0 → FirstBounds f i xs → FirstBounds f (i + 1) (set xs i x)
bounds_more f i xs x h e was =
    below_more (λ k. bound_at (set xs i x) k ≡ f.bound k 0) i
    (λ k l. let ne : k ≢ i = omega arith in ap (λ (y : Candidate). y.bound) (get_or-set_other xs i k x no_candidate ne) ∙ was k l)
    (ap (λ (y : Candidate). y.bound) (get_or-set_same xs i x no_candidate h) ∙ e)

pub keeps_more : (n m x : ℕ) (p : List ℕ) (xs ys zs : List Upper) → length zs ≡ length ys → Offered (length ys) n x ys m zs → Keeping n p xs ys → Keeping m (p ++ x ∷ []) xs zs
keeps_more n m x p xs ys zs long h was = record { long = long ∙ was.long; kept = (subst (λ (k : ℕ). Offered k n x ys m zs) was.long h).keeps p was.kept }

-- the k-th least of the numbers offered, where k is how many slots are lent
pub kth_kept : (n m : ℕ) (p : List ℕ) (xs ys : List Upper) (r : rust.Option ℕ) → n ≤ length ys → length p ≡ m → Keeping n p xs ys
    → MatchOption r ((n < length ys) ⊎ (n ≡ 0)) (λ v. Threshold (length ys) n v ys) → MatchOption r ((m < length xs) ⊎ (length xs ≡ 0)) (λ v. KthLeast (length xs) v p)
kth_kept n m p xs ys None fits all was h =
    let z = was.kept.size in
    let long = was.long in
    let s = length-take-le n ys fits in
    ⊎_elim (λ a. inl (omega arith)) (λ a. inr (⊎_elim (λ b. omega arith) (λ b. omega arith) h)) (cases_lt (length p) (length xs))
kth_kept n m p xs ys (Some v) fits all was h = ((subst (λ (k : ℕ). Threshold k n v ys) was.long h).kth p was.kept).0

-- from the slots lent, which are k or none, to k
pub threshold_found : (k m n : ℕ) (us : List Upper) (p : List ℕ) (r : rust.Option ℕ) → 1 ≤ k → length p ≡ n → (m < k → n < k × m ≡ 0) → m ≤ k → length us ≡ m
    → MatchOption r ((n < length us) ⊎ (length us ≡ 0)) (λ v. KthLeast (length us) v p) → plain r ≡ kth_least k p
threshold_found k m n us p None wanted long none le room h = sym ((kth_by_counts k p wanted).0 (⊎_elim (λ a. omega arith) (λ a. let b = (none (omega arith)).0 in omega arith) h))
threshold_found k m n us p (Some v) wanted long none le room h =
    let fewer = h.fewer in
    let e : length us ≡ k = ⊎_elim (λ a. absurd (let b = (none a).1 in omega arith)) (λ a. omega arith) (cases_lt m k) in
    sym ((kth_by_counts k p wanted).1 v (omega arith) (omega (arith, h.enough)))

-- ---- the second pass

module _ (t : Tables) (w : List ℕ) (admits : ℕ → Bool) (xs : List Candidate) where
  pub admits_none : (n : ℕ) → n ≡ 0 → Admits t w admits 0 n xs xs
  admits_none n none = subst (λ (m : ℕ). Admits t w admits 0 m xs xs) (sym none) (record { few = omega arith; stand = λ j h. refl; heap = none_heaped ByBound xs 0 refl; sound = tt; live = IsPermutation-refl [] })

  module _ (i n : ℕ) (ys : List Candidate) (was : Admits t w admits i n xs ys) where
    kept_yes : admits i ≡ true → filter admits (range_with_len 0 (i + 1)) ≡ filter admits (range_with_len 0 i) ++ i ∷ []
    kept_yes e = ap (filter admits) (counting_more i) ∙ filter-append admits (range_with_len 0 i) (i ∷ []) ∙ ap (λ b. filter admits (range_with_len 0 i) ++ cond b (i ∷ []) []) e

    kept_no : admits i ≡ false → filter admits (range_with_len 0 (i + 1)) ≡ filter admits (range_with_len 0 i)
    kept_no e = ap (filter admits) (counting_more i) ∙ filter-append admits (range_with_len 0 i) (i ∷ []) ∙ ap (λ b. filter admits (range_with_len 0 i) ++ cond b (i ∷ []) []) e ∙ append-nil _

    pub admits_no : admits i ≡ false → Admits t w admits (i + 1) n xs ys
    admits_no e = record {
      few = let f = was.few in omega arith;
      stand = λ j h. was.stand j (omega arith);
      heap = was.heap;
      sound = was.sound;
      live = subst (λ (l : List ℕ). IsPermutation (map spot (take n ys)) (map untouched l)) (sym (kept_no e)) was.live;
    }

    pub admits_yes : (x : Candidate) (zs : List Candidate) (b : ℕ) → b ≡ bound_at ys i → Unmeasured t w i b x → Pushed ByBound n x ys zs → admits i ≡ true → Admits t w admits (i + 1) (n + 1) xs zs
    admits_yes x zs b eb u p e = record {
      few = let f = was.few in omega arith;
      stand = λ j h. stays j h ∙ was.stand j (omega arith);
      heap = p.heap was.heap;
      sound = all_shuffled (λ (y : Candidate). Unmeasured t w y.slot (bound_at xs y.slot) y) (x ∷ take n ys) (take (n + 1) zs) p.items (own, was.sound);
      live = IsPermutation-trans (map spot (take (n + 1) zs)) (untouched i ∷ map spot (take n ys)) (map untouched (filter admits (range_with_len 0 (i + 1)))) first (IsPermutation-trans (untouched i ∷ map spot (take n ys)) (untouched i ∷ map untouched (filter admits (range_with_len 0 i))) (map untouched (filter admits (range_with_len 0 (i + 1)))) (IsPermutation-cons (untouched i) (map spot (take n ys)) (map untouched (filter admits (range_with_len 0 i))) was.live) last);
    }
      where
        stays : (j : ℕ) → i + 1 ≤ j → bound_at zs j ≡ bound_at ys j
        stays j h =
            let f = was.few in
            let s : (n + 1) + (j - (n + 1)) ≡ j = omega arith in
            ap (λ (y : Candidate). y.bound)
            (ap (λ (q : ℕ). get_or zs q no_candidate) (sym s) ∙ sym (get_or-drop (n + 1) zs (j - (n + 1)) no_candidate)
            ∙ ap (λ (l : List Candidate). get_or l (j - (n + 1)) no_candidate) p.rest
            ∙ get_or-drop (n + 1) ys (j - (n + 1)) no_candidate ∙ ap (λ (q : ℕ). get_or ys q no_candidate) s)

        own : Unmeasured t w x.slot (bound_at xs x.slot) x
        own = record {
          sound = u.sound;
          slot = refl;
          bound = u.bound ∙ eb ∙ was.stand i (omega arith) ∙ ap (bound_at xs) (sym u.slot);
          measured = u.measured;
        }

        seen : spot x ≡ untouched i
        seen = let a = u.slot in let b = u.measured in λ k. record { patch = a k; t = b k }

        first : IsPermutation (map spot (take (n + 1) zs)) (untouched i ∷ map spot (take n ys))
        first = subst (λ (y : steps.Candidate ℕ). IsPermutation (map spot (take (n + 1) zs)) (y ∷ map spot (take n ys))) seen
            (IsPermutation-sym (map spot (x ∷ take n ys)) (map spot (take (n + 1) zs)) (shuffled_map spot (x ∷ take n ys) (take (n + 1) zs) p.items))

        last : IsPermutation (untouched i ∷ map untouched (filter admits (range_with_len 0 i))) (map untouched (filter admits (range_with_len 0 (i + 1))))
        last = subst (λ (l : List (steps.Candidate ℕ)). IsPermutation (untouched i ∷ map untouched (filter admits (range_with_len 0 i))) l)
            (sym (ap (map untouched) (kept_yes e) ∙ map_push untouched (filter admits (range_with_len 0 i)) i))
            (IsPermutation-sym _ _ (IsPermutation-to_front (map untouched (filter admits (range_with_len 0 i))) (untouched i)))
