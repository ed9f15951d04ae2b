-- Where a run ends: by induction over its steps, from what is left to list and to measure.
use Rattle.std.proofs.Common.{◌≡◌, ℕ, zero, suc, ◌+◌, ◌-◌, ◌<◌, ◌≤◌, Bool, true, false, ◌&&◌, List, [], ◌∷◌, ◌++◌, map, length, take, filter, sym, refl, ap, ◌∙◌, subst, subst₂, append_assoc, append-nil, arith, length-append}
use Rattle.std.specs.List.{AllByRecursion as Every}
use Rattle.std.proofs.ByRecursion.{all_kept_by, All-weaker, All-map}
use Rattle.refine.specs.Chains.{Table, EachTwo}
use Rattle.refine.specs.Scan.{final, ranking, full_scan}
use Rattle.refine.specs.Steps.{Candidate, State, key_now, Chosen, full, dry, names, halts, measures, Runs, finishes, stops, goes}
use Rattle.refine.proofs.Reorders.{Reordered, reordered, perm_all, perm_map, perm_two}
use Rattle.refine.proofs.Lists.{adding, perm_adding, adding_same, adding_zero, passing, passing_same, passing_none, all_both, kept_none}
use Rattle.refine.proofs.Ranks.{le_refl, Other, rank_perm, rank_same, insert_least}
use Rattle.refine.proofs.Threshold.{upto, upto_true}

take_nil : {A : Type 0} (n : ℕ) → ◌≡◌ {A = List A} (take n []) []
take_nil zero = refl
take_nil (suc n) = refl

module _ {A K : Type 0} (x : Table A K) where
  -- the chain of a patch rises
  abbrev pub Rising : A → Type 0
  Rising a = (t : ℕ) → t < x.m → x.ord.le (x.key a t) (x.key a (suc t)) ≡ true

  -- two patches never have the same key
  abbrev pub Apart : A → A → Type 0
  Apart a b = (t u : ℕ) → x.key a t ≡ x.key b u → ⊥

  -- what lies before a key within the radius is within it
  abbrev pub Closed : Type 0
  Closed = (y z : K) → x.ord.le y z ≡ true → x.within z ≡ true → x.within y ≡ true

  -- what a table must satisfy over the patches l
  pub record Tame (l : List A) : Type 0 where
    pub closed : Closed
    pub rising : Every Rising l
    pub apart : EachTwo Apart l

  -- a step's candidate, and the others
  pub picked : {s : State A} {c : Candidate A} {rest : List (Candidate A)} → Chosen x s c rest → Reordered s.live (c ∷ rest)
  picked h = reordered h.among

  pub rises : (a : A) → Rising a → (d t u : ℕ) → t + d ≡ u → u ≤ x.m → x.ord.le (x.key a t) (x.key a u) ≡ true
  rises a r zero t u e h = let f : t ≡ u = omega arith in rw f (le_refl x.ord (x.key a u))
  rises a r (suc d) t u e h = x.ord.transitive _ _ _ (r t (omega arith)) (rises a r d (suc t) u (omega arith) h)

  pub climbs : (a : A) → Rising a → (t u : ℕ) → t ≤ u → u ≤ x.m → x.ord.le (x.key a t) (x.key a u) ≡ true
  climbs a r t u h g = rises a r (u - t) t u (omega arith) g

  pub outside : Closed → (y z : K) → x.ord.le y z ≡ true → x.within y ≡ false → x.within z ≡ false
  outside c y z h g = grind (arith, c y z)

  abbrev pub patches : List (Candidate A) → List A
  patches l = map (λ c. c.patch) l

  abbrev pub ok : ℕ → List A → K → Bool
  ok k w y = x.within y && upto x k w y

  -- how much of a candidate is still to be measured, and of all of them
  abbrev pub due : ℕ → List A → Candidate A → ℕ
  due k w c = passing (λ t. ok k w (x.key c.patch t)) (x.m - c.t) c.t

  abbrev pub left : ℕ → List (Candidate A) → ℕ
  left k l = adding (due k (full_scan x (patches l))) l

  abbrev pub Good : Candidate A → Type 0
  Good c = (c.t ≤ x.m) × Rising c.patch

  abbrev pub Sep : Candidate A → Candidate A → Type 0
  Sep c d = Apart c.patch d.patch

  sep_sym : (c d : Candidate A) → Sep c d → Sep d c
  sep_sym c d h t u e = h u t (sym e)

  pub others : (l : List (Candidate A)) → EachTwo Sep l → EachTwo (Other x) (patches l)
  others [] h = tt
  others (c ∷ l) h = (All-map _ _ l (All-weaker _ _ (λ d g. g x.m x.m) l h.0), others l h.1)

  scan_perm : {l l' : List (Candidate A)} → Reordered l l' → EachTwo Sep l → full_scan x (patches l) ≡ full_scan x (patches l')
  scan_perm {l} p h = ap (filter (λ a. x.within (final x a))) (rank_same x (perm_map (λ c. c.patch) p) (others l h))

  left_perm : (k : ℕ) {l l' : List (Candidate A)} → Reordered l l' → EachTwo Sep l → left k l ≡ left k l'
  left_perm k {l} {l'} p h = perm_adding (due k (full_scan x (patches l))) p ∙ ap (λ w. adding (due k w) l') (scan_perm p h)

  -- nothing is left where nothing is wanted, or all is outside
  left_none : (l : List (Candidate A)) → left 0 l ≡ 0
  left_none l = adding_zero _ l (all_here l)
    where
      all_here : (l' : List (Candidate A)) → Every (λ c. due 0 (full_scan x (patches l)) c ≡ 0) l'
      all_here [] = tt
      all_here (c ∷ l') = (passing_none _ (x.m - c.t) c.t (λ u g k. grind arith), all_here l')

  module _ (closed : Closed) where
    dry_left : (k : ℕ) (w : List A) (l : List (Candidate A)) → Every Good l → Every (λ c. x.within (key_now x c) ≡ false) l → adding (due k w) l ≡ 0
    dry_left k w l g h = adding_zero _ l (All-weaker _ _ one l (all_both Good _ l g h))
      where
        one : (c : Candidate A) → Good c × (x.within (key_now x c) ≡ false) → due k w c ≡ 0
        one c h = passing_none _ (x.m - c.t) c.t (λ u i j.
            let e = outside closed _ _ (climbs c.patch h.0.1 c.t u i (omega arith)) h.1 in grind arith)

    dry_scan : (l : List (Candidate A)) → Every Good l → Every (λ c. x.within (key_now x c) ≡ false) l → full_scan x (patches l) ≡ []
    dry_scan l g h = kept_none _ (ranking x (patches l)) (perm_all _ (rank_perm x (patches l)) (All-map _ _ l (All-weaker _ _ one l (all_both Good _ l g h))))
      where
        one : (c : Candidate A) → Good c × (x.within (key_now x c) ≡ false) → x.within (final x c.patch) ≡ false
        one c h = outside closed _ _ (climbs c.patch h.0.1 c.t x.m h.0.0 (omega arith)) h.1

    -- the least candidate comes before every final key
    before_finals : (c : Candidate A) (l : List (Candidate A)) → Every Good l → Every (λ d. x.ord.le (key_now x c) (key_now x d) ≡ true) l → Every (λ a. x.ord.le (key_now x c) (final x a) ≡ true) (ranking x (patches l))
    before_finals c l g h = perm_all _ (rank_perm x (patches l)) (All-map _ _ l (All-weaker _ _ one l (all_both Good _ l g h)))
      where
        one : (d : Candidate A) → Good d × (x.ord.le (key_now x c) (key_now x d) ≡ true) → x.ord.le (key_now x c) (final x d.patch) ≡ true
        one d h = x.ord.transitive _ _ _ h.1 (climbs d.patch h.0.1 d.t x.m h.0.0 (omega arith))

    -- a wholly measured least candidate is the first of the ranking
    names_scan : (c : Candidate A) (l : List (Candidate A)) → Every Good l → Every (λ d. x.ord.le (key_now x c) (key_now x d) ≡ true) l
        → x.within (key_now x c) ≡ true → c.t ≡ x.m → full_scan x (patches (c ∷ l)) ≡ c.patch ∷ full_scan x (patches l)
    names_scan c l g h w e =
        let f = insert_least x c.patch (ranking x (patches l)) (subst (λ y. Every (λ a. x.ord.le y (final x a) ≡ true) (ranking x (patches l))) (ap (x.key c.patch) e) (before_finals c l g h)) in
        let w' : x.within (final x c.patch) ≡ true = rw e at w in
        rw f (rw w' refl)

    -- and what is left to measure stays the same without it
    names_left : (k : ℕ) (c : Candidate A) (l : List (Candidate A)) → Every Good l → Every (λ d. x.ord.le (key_now x c) (key_now x d) ≡ true) l
        → Every (Sep c) l → x.within (key_now x c) ≡ true → c.t ≡ x.m → left (suc k) (c ∷ l) ≡ left k l
    names_left k c l g h s w e =
        let r = names_scan c l g h w e in
        let z : due (suc k) (full_scan x (patches (c ∷ l))) c ≡ 0 = none_due (suc k) (full_scan x (patches (c ∷ l))) in
        let y : adding (due (suc k) (c.patch ∷ full_scan x (patches l))) l ≡ left k l = adding_same _ _ l (All-weaker _ _ (one k) l (all_both Good _ l g (all_both _ _ l h s))) in
        let y' : adding (due (suc k) (full_scan x (patches (c ∷ l)))) l ≡ left k l = rw r y in
        omega arith
      where
        none_due : (k : ℕ) (v : List A) → due k v c ≡ 0
        none_due k v = let n : x.m - c.t ≡ 0 = omega arith in rw n refl

        one : (k : ℕ) (d : Candidate A) → Good d × ((x.ord.le (key_now x c) (key_now x d) ≡ true) × Sep c d) → due (suc k) (c.patch ∷ full_scan x (patches l)) d ≡ due k (full_scan x (patches l)) d
        one (suc k) d h = refl
        one zero d h = passing_same _ _ (x.m - d.t) d.t (λ u i j.
            let e₁ = x.ord.transitive _ _ _ h.1.0 (climbs d.patch h.0.1 d.t u i (omega arith)) in
            let e₂ : x.ord.le (x.key d.patch u) (final x c.patch) ≡ false = after u e₁ in
            rw e₂ refl)
          where
            after : (u : ℕ) → x.ord.le (key_now x c) (x.key d.patch u) ≡ true → x.ord.le (x.key d.patch u) (final x c.patch) ≡ false
            after u h₁ = rw (← e) (go (x.ord.le (x.key d.patch u) (key_now x c)) refl)
              where
                go : (b : Bool) → x.ord.le (x.key d.patch u) (key_now x c) ≡ b → x.ord.le (x.key d.patch u) (key_now x c) ≡ false
                go false q = q
                go true q = absurd (h.1.1 c.t u (x.ord.antisymmetric _ _ h₁ q))

    -- the next channel of the least candidate is needed
    measures_left : (k : ℕ) (c : Candidate A) (l : List (Candidate A)) → Good c → Every Good l → Every (λ d. x.ord.le (key_now x c) (key_now x d) ≡ true) l
        → x.within (key_now x c) ≡ true → c.t < x.m → left (suc k) (c ∷ l) ≡ suc (left (suc k) (record { patch = c.patch; t = suc c.t } ∷ l))
    measures_left k c l gc g h w i =
        let n : x.m - c.t ≡ suc (x.m - suc c.t) = omega arith in
        let u = upto_true x k (full_scan x (patches (c ∷ l))) (key_now x c) (all_kept_by _ _ (ranking x (patches (c ∷ l))) (before_finals c (c ∷ l) (gc, g) (le_refl x.ord (key_now x c), h))) in
        let d : due (suc k) (full_scan x (patches (c ∷ l))) c ≡ suc (due (suc k) (full_scan x (patches (c ∷ l))) (record { patch = c.patch; t = suc c.t })) = rw n (rw w (rw u (omega arith))) in
        omega arith

    module _ (k B : ℕ) where
      -- the end of a run that has `whole` to name and `cost` to count, in all
      abbrev pub Ending : Bool → List A → ℕ → State A → Type 0
      Ending true whole cost e = (e.named ≡ whole) × (e.measured ≡ cost) × (cost ≤ B)
      Ending false whole cost e = ((r : List A) × (e.named ++ r ≡ whole)) × (e.measured ≡ B) × (B < cost)

      lt_of : {a b : ℕ} → a ≤ b → (a ≡ b → ⊥) → a < b
      lt_of h g = omega arith

      pub ends : {s e : State A} {b : Bool} → Runs x k B s b e → (n : ℕ) → n + length s.named ≡ k → s.measured ≤ B
          → Every Good s.live → EachTwo Sep s.live
          → Ending b (s.named ++ take n (full_scan x (patches s.live))) (s.measured + left n s.live) e
      ends (finishes {s = s} (full h)) n q m g p =
          let z : n ≡ 0 = omega arith in
          let y = left_none s.live in
          rw z (sym (append-nil s.named), omega arith, omega arith)
      ends (finishes {s = s} (dry h)) n q m g p =
          let r = dry_scan s.live g h in
          let d = dry_left n (full_scan x (patches s.live)) s.live g h in
          (rw r (sym (append-nil s.named) ∙ ap (λ r. s.named ++ r) (sym (take_nil n))), omega arith, omega arith)
      ends (stops (halts c l y f w t h)) zero q m g i = absurd (omega arith)
      ends (stops {s = s} (halts c l y f w t h)) (suc n) q m g i =
          let g' = perm_all Good (picked y) g in
          let e₁ = left_perm (suc n) (picked y) i in
          let e₂ = measures_left n c l g'.0 g'.1 y.first w (lt_of g'.0.0 t) in
          ((take (suc n) (full_scan x (patches s.live)), refl), omega arith, omega arith)
      ends (goes (names c l y f w t) r) zero q m g i = absurd (omega arith)
      ends (goes {s = s} {e = e} {b = b} (names c l y f w t) r) (suc n) q m g i =
          let g' = perm_all Good (picked y) g in
          let i' = perm_two Sep sep_sym (picked y) i in
          let v = scan_perm (picked y) i ∙ names_scan c l g'.1 y.first w t in
          let e₁ = left_perm (suc n) (picked y) i ∙ names_left n c l g'.1 y.first i'.0 w t in
          subst₂ (λ F z. Ending b F z e)
          (append_assoc s.named (c.patch ∷ []) (take n (full_scan x (patches l))) ∙ ap (λ v. s.named ++ take (suc n) v) (sym v))
          (ap (λ z. s.measured + z) (sym e₁))
          (ends r n (omega (arith, length-append s.named (c.patch ∷ []))) m g'.1 i'.1)
      ends (goes (measures c l y f w t h) r) zero q m g i = absurd (omega arith)
      ends (goes {s = s} {e = e} {b = b} (measures c l y f w t h) r) (suc n) q m g i =
          let g' = perm_all Good (picked y) g in
          let i' = perm_two Sep sep_sym (picked y) i in
          let v = scan_perm (picked y) i in
          let lt = lt_of g'.0.0 t in
          let e₁ = left_perm (suc n) (picked y) i ∙ measures_left n c l g'.0 g'.1 y.first w lt in
          subst₂ (λ F z. Ending b F z e)
          (ap (λ v. s.named ++ take (suc n) v) (sym v))
          (omega arith)
          (ends r (suc n) q h ((lt, g'.0.1), g'.1) i')
