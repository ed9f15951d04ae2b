-- Lists: sums and counts by recursion, each two, membership, filters, beginnings.
use Rattle.std.proofs.Common.{◌≡◌, ℕ, zero, suc, ◌+◌, ◌-◌, ◌<◌, ◌≤◌, Bool, true, false, cond, ◌⊎◌, List, [], ◌∷◌, map, length, get_or, sum_by, count_by, filter, sym, refl, ap, ◌∙◌, subst, ap₂, inl, inr, add-one, arith}
use mathlib.Core.List.{tail, map-append, IsPrefix}
use Rattle.std.specs.List.{range_with_len, ContainsAt as Has, AllByRecursion as Every}
use Rattle.std.proofs.ByRecursion.{all_kept_by, All-weaker, All-map}
use Rattle.std.proofs.lemmas.List.Sums.{sum_by-cons}
use Rattle.refine.specs.Chains.{EachTwo}
use Rattle.refine.proofs.Reorders.{Reordered, same, skip, swap, chain}

-- ---- sums, by recursion: the library's sum_by carries what it has so far along

abbrev pub adding : {A : Type 0} → (A → ℕ) → List A → ℕ
adding f [] = 0
adding f (a ∷ l) = f a + adding f l

pub adding_is : {A : Type 0} (f : A → ℕ) (l : List A) → sum_by f l ≡ adding f l
adding_is f [] = refl
adding_is f (a ∷ l) = sum_by-cons f a l ∙ ap (λ n. f a + n) (adding_is f l)

pub perm_adding : {A : Type 0} (f : A → ℕ) {l l' : List A} → Reordered l l' → adding f l ≡ adding f l'
perm_adding f same = refl
perm_adding f (skip p) = let e = perm_adding f p in omega arith
perm_adding f swap = omega arith
perm_adding f (chain p q) = perm_adding f p ∙ perm_adding f q

pub adding_same : {A : Type 0} (f g : A → ℕ) (l : List A) → Every (λ a. f a ≡ g a) l → adding f l ≡ adding g l
adding_same f g [] h = refl
adding_same f g (a ∷ l) h = let e = adding_same f g l h.1 in let d = h.0 in omega arith

pub adding_le : {A : Type 0} (f g : A → ℕ) (l : List A) → Every (λ a. f a ≤ g a) l → adding f l ≤ adding g l
adding_le f g [] h = omega arith
adding_le f g (a ∷ l) h = let e = adding_le f g l h.1 in let d = h.0 in omega arith

pub adding_zero : {A : Type 0} (f : A → ℕ) (l : List A) → Every (λ a. f a ≡ 0) l → adding f l ≡ 0
adding_zero f [] h = refl
adding_zero f (a ∷ l) h = let e = adding_zero f l h.1 in let d = h.0 in omega arith

pub adding_kept : {A : Type 0} (p : A → Bool) (f : A → ℕ) (l : List A) → Every (λ a. p a ≡ false → f a ≡ 0) l → adding f (filter p l) ≡ adding f l
adding_kept p f [] h = refl
adding_kept p f (a ∷ l) h = go (p a) refl (adding_kept p f l h.1)
  where
    go : (t : Bool) → p a ≡ t → adding f (filter p l) ≡ adding f l → adding f (cond t (a ∷ filter p l) (filter p l)) ≡ f a + adding f l
    go true e ih = omega arith
    go false e ih = let z = h.0 e in omega arith

pub adding_map : {A B : Type 0} (g : A → B) (f : B → ℕ) (l : List A) → adding f (map g l) ≡ adding (λ a. f (g a)) l
adding_map g f [] = refl
adding_map g f (a ∷ l) = let ih = adding_map g f l in omega arith

-- ---- how many of t, t + 1, .., t + d - 1 pass, by recursion

abbrev pub passing : (ℕ → Bool) → ℕ → ℕ → ℕ
passing p zero t = 0
passing p (suc d) t = cond (p t) 1 0 + passing p d (suc t)

pub passing_is : (p : ℕ → Bool) (d t : ℕ) → count_by p (range_with_len t d) ≡ passing p d t
passing_is p zero t = refl
passing_is p (suc d) t = sum_by-cons (λ u. cond (p u) 1 0) t (range_with_len (t + 1) d) ∙ ap (λ n. cond (p t) 1 0 + n) (subst (λ (u : ℕ). count_by p (range_with_len (t + 1) d) ≡ passing p d u) (add-one t) (passing_is p d (t + 1)))

pub passing_same : (p q : ℕ → Bool) (d t : ℕ) → ((u : ℕ) → t ≤ u → u < t + d → p u ≡ q u) → passing p d t ≡ passing q d t
passing_same p q zero t h = refl
passing_same p q (suc d) t h =
    let e : p t ≡ q t = h t (omega arith) (omega arith) in
    let f = passing_same p q d (suc t) (λ u g k. h u (omega arith) (omega arith)) in
    cc

pub passing_none : (p : ℕ → Bool) (d t : ℕ) → ((u : ℕ) → t ≤ u → u < t + d → p u ≡ false) → passing p d t ≡ 0
passing_none p zero t h = refl
passing_none p (suc d) t h =
    let e : p t ≡ false = h t (omega arith) (omega arith) in
    let f = passing_none p d (suc t) (λ u g k. h u (omega arith) (omega arith)) in
    rw e (omega arith)

pub cond_le : (b : Bool) → cond b 1 0 ≤ 1
cond_le true = omega arith
cond_le false = omega arith

-- where nothing from c on passes, at most c - t pass
pub passing_le : (p : ℕ → Bool) (c d t : ℕ) → ((u : ℕ) → c ≤ u → u < t + d → p u ≡ false) → t ≤ c → t + passing p d t ≤ c
passing_le p c zero t h le = omega arith
passing_le p c (suc d) t h le = go (c - t) refl (λ k. passing_le p c d (suc t) (λ u g k. h u g (omega arith)) k)
  where
    go : (n : ℕ) → c - t ≡ n → (suc t ≤ c → suc t + passing p d (suc t) ≤ c) → t + (cond (p t) 1 0 + passing p d (suc t)) ≤ c
    go zero e ih =
        let f = passing_none p d (suc t) (λ u g k. h u (omega arith) (omega arith)) in
        let b : p t ≡ false = h t (omega arith) (omega arith) in
        rw b (omega arith)
    go (suc n) e ih =
        let f = ih (omega arith) in
        omega (arith, cond_le (p t))

-- ---- each element, each two

pub all_by : {A : Type 0} {P : A → Type 0} → ((a : A) → P a) → (l : List A) → Every P l
all_by f [] = tt
all_by f (a ∷ l) = (f a, all_by f l)

pub all_both : {A : Type 0} (P Q : A → Type 0) (l : List A) → Every P l → Every Q l → Every (λ a. P a × Q a) l
all_both P Q [] h g = tt
all_both P Q (a ∷ l) h g = ((h.0, g.0), all_both P Q l h.1 g.1)

pub two_kept : {A : Type 0} (R : A → A → Type 0) (p : A → Bool) (l : List A) → EachTwo R l → EachTwo R (filter p l)
two_kept R p [] h = tt
two_kept R p (a ∷ l) h = go (p a) (two_kept R p l h.1)
  where
    go : (t : Bool) → EachTwo R (filter p l) → EachTwo R (cond t (a ∷ filter p l) (filter p l))
    go true ih = (all_kept_by p (R a) l h.0, ih)
    go false ih = ih

pub two_map : {A B : Type 0} (R : B → B → Type 0) (g : A → B) (l : List A) → EachTwo (λ a b. R (g a) (g b)) l → EachTwo R (map g l)
two_map R g [] h = tt
two_map R g (a ∷ l) h = (All-map (R (g a)) g l h.0, two_map R g l h.1)

pub two_weaker : {A : Type 0} (R S : A → A → Type 0) → ((a b : A) → R a b → S a b) → (l : List A) → EachTwo R l → EachTwo S l
two_weaker R S f [] h = tt
two_weaker R S f (a ∷ l) h = (All-weaker (R a) (S a) (f a) l h.0, two_weaker R S f l h.1)

-- ---- membership

pub has_here : {A : Type 0} (a b : A) (l : List A) → b ≡ a → Has (b ∷ l) a
has_here a b l e = (0, omega arith, λ d. e)

pub has_there : {A : Type 0} (a b : A) (l : List A) → Has l a → Has (b ∷ l) a
has_there a b l h = (suc h.0, omega (arith, h.1), λ d. h.2 d)

pub has_cases : {A : Type 0} (a b : A) (l : List A) → Has (b ∷ l) a → (b ≡ a) ⊎ Has l a
has_cases a b l h = go h.0 h.1 h.2
  where
    go : (k : ℕ) → k < suc (length l) → ((d : _) → get_or (b ∷ l) k d ≡ a) → (b ≡ a) ⊎ Has l a
    go zero i e = inl (e b)
    go (suc k) i e = inr (k, omega arith, λ d. e d)

pub has_none : {A : Type 0} (a : A) → Has [] a → ⊥
has_none a h = omega (arith, h.1)

pub all_from_has : {A : Type 0} (P : A → Type 0) (l : List A) → ((a : A) → Has l a → P a) → Every P l
all_from_has P [] h = tt
all_from_has P (a ∷ l) h = (h a (has_here a a l refl), all_from_has P l (λ b i. h b (has_there b a l i)))

pub has_kept : {A : Type 0} (p : A → Bool) (l : List A) (a : A) → Has l a → p a ≡ true → Has (filter p l) a
has_kept p [] a i h = i
has_kept p (b ∷ l) a i h = go (p b) refl (has_cases a b l i) (λ j. has_kept p l a j h)
  where
    go : (t : Bool) → p b ≡ t → (b ≡ a) ⊎ Has l a → (Has l a → Has (filter p l) a) → Has (cond t (b ∷ filter p l) (filter p l)) a
    go true f (inl e) more = has_here a b (filter p l) e
    go true f (inr j) more = has_there a b (filter p l) (more j)
    go false f (inl e) more = absurd (let z : ◌≡◌ {A = ℕ} 0 1 = cc in omega arith)
    go false f (inr j) more = more j

-- ---- filters, maps

pub kept_none : {A : Type 0} (p : A → Bool) (l : List A) → Every (λ a. p a ≡ false) l → filter p l ≡ []
kept_none p [] h = refl
kept_none p (a ∷ l) h = let e = h.0 in let f = kept_none p l h.1 in cc

pub kept_swap : {A : Type 0} (p q : A → Bool) (l : List A) → filter p (filter q l) ≡ filter q (filter p l)
kept_swap p q [] = refl
kept_swap p q (a ∷ l) = let ih = kept_swap p q l in grind arith

pub map_same : {X Y : Type 0} (f g : X → Y) (l : List X) → Every (λ x. f x ≡ g x) l → map f l ≡ map g l
map_same f g [] h = refl
map_same f g (x ∷ l) h = ap₂ (λ y r. y ∷ r) h.0 (map_same f g l h.1)

-- ---- beginnings

-- of two lists that begin the same list, one begins the other
pub fronts : {A : Type 0} (l l' w : List A) → IsPrefix l w → IsPrefix l' w → IsPrefix l l' ⊎ IsPrefix l' l
fronts [] l' w f g = inl (l', refl)
fronts (a ∷ l) [] w f g = inr (a ∷ l, refl)
fronts (a ∷ l) (b ∷ l') w f g = go (fronts l l' (tail w) (f.0, ap tail f.1) (g.0, ap tail g.1))
  where
    go : IsPrefix l l' ⊎ IsPrefix l' l → IsPrefix (a ∷ l) (b ∷ l') ⊎ IsPrefix (b ∷ l') (a ∷ l)
    go (inl h) = inl (h.0, (let e = h.1 in let p = f.1 in let q = g.1 in cc))
    go (inr h) = inr (h.0, (let e = h.1 in let p = f.1 in let q = g.1 in cc))

pub front_map : {X Y : Type 0} (f : X → Y) (l l' : List X) → IsPrefix l l' → IsPrefix (map f l) (map f l')
front_map f l l' h = (map f h.0, sym (map-append f l h.0) ∙ ap (map f) h.1)
