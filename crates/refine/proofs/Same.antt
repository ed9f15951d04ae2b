-- A run's answer does not hang on the order in which the candidates are kept.
use Rattle.std.proofs.Common.{◌≡◌, ℕ, suc, ◌<◌, ◌≤◌, Bool, true, false, ◌⊎◌, List, [], ◌∷◌, ◌++◌, length, sym, refl, ap, ◌∙◌, subst, ap₂, inl, inr, arith}
use Rattle.std.specs.List.Sorted.{IsPermutation}
use Rattle.std.specs.List.{AllByRecursion as Every}
use Rattle.std.proofs.lemmas.List.Sorted.{IsPermutation-sym, IsPermutation-trans, IsPermutation-refl}
use Rattle.std.proofs.ByRecursion.{all_shuffled}
use Rattle.refine.specs.Chains.{Table, EachTwo}
use Rattle.refine.specs.Steps.{Candidate, State, Next, done, halt, on, key_now, Chosen, Move, full, dry, names, halts, measures, Runs, finishes, stops, goes}
use Rattle.refine.proofs.Reorders.{Reordered, same, skip, swap, chain, perm_all, perm_sym, perm_two}
use Rattle.refine.proofs.Run.{Sep, picked}

-- the second list is the first with a put in somewhere
data Ins {A : Type 0} (a : A) : List A → List A → Type 0 where
  here : {r : List A} → Ins a r (a ∷ r)
  there : {b : A} {r l : List A} → Ins a r l → Ins a (b ∷ r) (b ∷ l)

perm_ins : {A : Type 0} (a : A) {l l' : List A} → Reordered l l' → {r : List A} → Ins a r l → (r' : List A) × Ins a r' l' × Reordered r r'
perm_ins a same {r} i = (r, i, same)
perm_ins a (skip p) here = (_, here, p)
perm_ins a (skip p) (there i) = let q = perm_ins a p i in (_ ∷ q.0, there q.1, skip q.2)
perm_ins a swap here = (_, there here, same)
perm_ins a swap (there here) = (_, here, same)
perm_ins a swap (there (there i)) = (_, there (there i), swap)
perm_ins a (chain p q) i =
    let u = perm_ins a p i in
    let v = perm_ins a q u.1 in
    (v.0, v.1, chain u.2 v.2)

ins_all : {A : Type 0} (P : A → Type 0) (a : A) {r l : List A} → Ins a r l → Every P l → P a
ins_all P a here h = h.0
ins_all P a (there i) h = ins_all P a i h.1

split : {A : Type 0} (a : A) (r : List A) (b : A) (l : List A) → Ins a r (b ∷ l) → ((a ≡ b) × (r ≡ l)) ⊎ ((q : List A) × (r ≡ b ∷ q) × Ins a q l)
split a r b l here = inl (refl, refl)
split a r b l (there {r = q} i) = inr (q, refl, i)

module _ {A K : Type 0} (x : Table A K) where
  sep_sym : (c d : Candidate A) → Sep x c d → Sep x d c
  sep_sym c d h t u e = h u t (sym e)

  -- the least candidate is one, and so are the others
  one_least : (c c' : Candidate A) (l l' : List (Candidate A)) → Reordered (c ∷ l) (c' ∷ l') → Every (λ d. x.ord.le (key_now x c) (key_now x d) ≡ true) l
      → Every (λ d. x.ord.le (key_now x c') (key_now x d) ≡ true) l' → EachTwo (Sep x) (c ∷ l) → (c ≡ c') × Reordered l l'
  one_least c c' l l' p h h' s = pick (perm_ins c p here)
    where
      pick : (r : List (Candidate A)) × Ins c r (c' ∷ l') × Reordered l r → (c ≡ c') × Reordered l l'
      pick u = case (split c u.0 c' l' u.1)
        where
          case : ((c ≡ c') × (u.0 ≡ l')) ⊎ ((w : List (Candidate A)) × (u.0 ≡ c' ∷ w) × Ins c w l') → (c ≡ c') × Reordered l l'
          case (inl e) = (e.0, subst (λ r. Reordered l r) e.1 u.2)
          case (inr e) =
              let q : Reordered l (c' ∷ e.0) = subst (λ r. Reordered l r) e.1 u.2 in
              let i₁ = (perm_all (λ d. x.ord.le (key_now x c) (key_now x d) ≡ true) q h).0 in
              let i₂ = ins_all (λ d. x.ord.le (key_now x c') (key_now x d) ≡ true) c e.2 h' in
              let z = ins_all (Sep x c') c e.2 (perm_two (Sep x) sep_sym p s).0 in
              absurd (z c'.t c.t (x.ord.antisymmetric _ _ i₂ i₁))

  -- states that differ in the order of their candidates
  abbrev pub Like : State A → State A → Type 0
  Like s s' = Reordered s.live s'.live × (s.named ≡ s'.named) × (s.measured ≡ s'.measured)

  abbrev Match : Next A → Next A → Type 0
  Match done done = Unit {0}
  Match done halt = ⊥
  Match done (on s') = ⊥
  Match halt done = ⊥
  Match halt halt = Unit {0}
  Match halt (on s') = ⊥
  Match (on s) done = ⊥
  Match (on s) halt = ⊥
  Match (on s) (on s') = Like s s' × EachTwo (Sep x) s.live

  module _ (k B : ℕ) where
    one_pick : (s s' : State A) (c c' : Candidate A) (l l' : List (Candidate A)) → Like s s' → EachTwo (Sep x) s.live
        → Chosen x s c l → Chosen x s' c' l'
        → (c ≡ c') × Reordered l l' × EachTwo (Sep x) (c ∷ l)
    one_pick s s' c c' l l' y i z z' =
        let i' = perm_two (Sep x) sep_sym (picked x z) i in
        let u = one_least c c' l l' (chain (perm_sym (picked x z)) (chain y.0 (picked x z'))) z.first z'.first i' in
        (u.0, u.1, i')

    too_many : (s s' : State A) → Like s s' → k ≤ length s.named → length s'.named < k → ⊥
    too_many s s' y h h' = omega (arith, ap length y.1)

    too_few : (s s' : State A) → Like s s' → length s.named < k → k ≤ length s'.named → ⊥
    too_few s s' y h h' = omega (arith, ap length y.1)

    clash : (t : Bool) → t ≡ true → t ≡ false → ⊥
    clash t h g = let z : ◌≡◌ {A = ℕ} 0 1 = cc in omega arith

    not_dry : (s s' : State A) (c : Candidate A) (l : List (Candidate A)) → Like s s' → Every (λ c. x.within (key_now x c) ≡ false) s.live → Reordered s'.live (c ∷ l) → x.within (key_now x c) ≡ true → ⊥
    not_dry s s' c l y h p w = clash _ w (perm_all (λ c. x.within (key_now x c) ≡ false) (chain y.0 p) h).0

    not_dry' : (s s' : State A) (c : Candidate A) (l : List (Candidate A)) → Like s s' → Every (λ c. x.within (key_now x c) ≡ false) s'.live → Reordered s.live (c ∷ l) → x.within (key_now x c) ≡ true → ⊥
    not_dry' s s' c l y h p w = clash _ w (perm_all (λ c. x.within (key_now x c) ≡ false) (chain (perm_sym y.0) p) h).0

    pub moves_match : (s s' : State A) {n n' : Next A} → Like s s' → EachTwo (Sep x) s.live → Move x k B s n → Move x k B s' n' → Match n n'
    moves_match s s' y i (full h) (full h') = tt
    moves_match s s' y i (full h) (dry h') = tt
    moves_match s s' y i (full h) (names c' l' z' f' w' t') = too_many s s' y h f'
    moves_match s s' y i (full h) (halts c' l' z' f' w' t' b') = too_many s s' y h f'
    moves_match s s' y i (full h) (measures c' l' z' f' w' t' b') = too_many s s' y h f'
    moves_match s s' y i (dry h) (full h') = tt
    moves_match s s' y i (dry h) (dry h') = tt
    moves_match s s' y i (dry h) (names c' l' z' f' w' t') = not_dry s s' c' l' y h (picked x z') w'
    moves_match s s' y i (dry h) (halts c' l' z' f' w' t' b') = not_dry s s' c' l' y h (picked x z') w'
    moves_match s s' y i (dry h) (measures c' l' z' f' w' t' b') = not_dry s s' c' l' y h (picked x z') w'
    moves_match s s' y i (names c l z f w t) (full h') = too_few s s' y f h'
    moves_match s s' y i (names c l z f w t) (dry h') = not_dry' s s' c l y h' (picked x z) w
    moves_match s s' y i (names c l z f w t) (names c' l' z' f' w' t') =
        let u = one_pick s s' c c' l l' y i z z' in
        ((u.1, ap₂ (λ r d. r ++ d.patch ∷ []) y.1 u.0, y.2), u.2.1)
    moves_match s s' y i (names c l z f w t) (halts c' l' z' f' w' t' b') =
        let u = one_pick s s' c c' l l' y i z z' in t' (sym (ap (λ d. d.t) u.0) ∙ t)
    moves_match s s' y i (names c l z f w t) (measures c' l' z' f' w' t' b') =
        let u = one_pick s s' c c' l l' y i z z' in absurd (t' (sym (ap (λ d. d.t) u.0) ∙ t))
    moves_match s s' y i (halts c l z f w t b) (full h') = too_few s s' y f h'
    moves_match s s' y i (halts c l z f w t b) (dry h') = not_dry' s s' c l y h' (picked x z) w
    moves_match s s' y i (halts c l z f w t b) (names c' l' z' f' w' t') =
        let u = one_pick s s' c c' l l' y i z z' in t (ap (λ d. d.t) u.0 ∙ t')
    moves_match s s' y i (halts c l z f w t b) (halts c' l' z' f' w' t' b') = tt
    moves_match s s' y i (halts c l z f w t b) (measures c' l' z' f' w' t' b') = let e = y.2 in absurd (omega arith)
    moves_match s s' y i (measures c l z f w t b) (full h') = too_few s s' y f h'
    moves_match s s' y i (measures c l z f w t b) (dry h') = not_dry' s s' c l y h' (picked x z) w
    moves_match s s' y i (measures c l z f w t b) (names c' l' z' f' w' t') =
        let u = one_pick s s' c c' l l' y i z z' in absurd (t (ap (λ d. d.t) u.0 ∙ t'))
    moves_match s s' y i (measures c l z f w t b) (halts c' l' z' f' w' t' b') = let e = y.2 in absurd (omega arith)
    moves_match s s' y i (measures c l z f w t b) (measures c' l' z' f' w' t' b') =
        let u = one_pick s s' c c' l l' y i z z' in
        ((subst (λ d. Reordered (record { patch = c.patch; t = suc c.t } ∷ l) (record { patch = d.patch; t = suc d.t } ∷ l')) u.0 (skip u.1), y.1, ap suc y.2), u.2)

    pub runs_same : {s s' e e' : State A} {b b' : Bool} → Runs x k B s b e → Runs x k B s' b' e' → Like s s' → EachTwo (Sep x) s.live
        → (b ≡ b') × (e.named ≡ e'.named) × (e.measured ≡ e'.measured)
    runs_same (finishes v) (finishes v') y i = (refl, y.1, y.2)
    runs_same (finishes v) (stops v') y i = absurd (moves_match _ _ y i v v')
    runs_same (finishes v) (goes v' r') y i = absurd (moves_match _ _ y i v v')
    runs_same (stops v) (finishes v') y i = absurd (moves_match _ _ y i v v')
    runs_same (stops v) (stops v') y i = (refl, y.1, y.2)
    runs_same (stops v) (goes v' r') y i = absurd (moves_match _ _ y i v v')
    runs_same (goes v r) (finishes v') y i = absurd (moves_match _ _ y i v v')
    runs_same (goes v r) (stops v') y i = absurd (moves_match _ _ y i v v')
    runs_same (goes v r) (goes v' r') y i = let u = moves_match _ _ y i v v' in runs_same r r' u.0 u.1

    -- the same run from the same candidates in another order
    pub runs_shuffled : (l l' : List (Candidate A)) (named : List A) (measured : ℕ) → IsPermutation l l'
        → (b : Bool) (e : State A) → Runs x k B (record { live = l'; named = named; measured = measured }) b e
        → (e' : State A) × Runs x k B (record { live = l; named = named; measured = measured }) b e' × IsPermutation e'.live e.live × (e'.named ≡ e.named) × (e'.measured ≡ e.measured)
    runs_shuffled l l' named measured p b e (finishes (full h)) = (record { live = l; named = named; measured = measured }, finishes (full h), p, refl, refl)
    runs_shuffled l l' named measured p b e (finishes (dry h)) = (record { live = l; named = named; measured = measured }, finishes (dry (all_shuffled _ l' l (IsPermutation-sym l l' p) h)), p, refl, refl)
    runs_shuffled l l' named measured p b e (stops (halts c rest z f w t h)) =
        (record { live = l; named = named; measured = measured }, stops (halts c rest (record { among = IsPermutation-trans l l' (c ∷ rest) p z.among; first = z.first }) f w t h), p, refl, refl)
    runs_shuffled l l' named measured p b e (goes (names c rest z f w t) r) =
        (e, goes (names c rest (record { among = IsPermutation-trans l l' (c ∷ rest) p z.among; first = z.first }) f w t) r, IsPermutation-refl e.live, refl, refl)
    runs_shuffled l l' named measured p b e (goes (measures c rest z f w t h) r) =
        (e, goes (measures c rest (record { among = IsPermutation-trans l l' (c ∷ rest) p z.among; first = z.first }) f w t h) r, IsPermutation-refl e.live, refl, refl)
