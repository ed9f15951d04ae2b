-- What one number more does to the k least so far, and what the first of them is.
use Rattle.std.proofs.Common.{◌≡◌, ℕ, ◌+◌, ◌-◌, ◌<◌, ◌≤◌, ◌⊎◌, min, Option, None, Some, MatchOption, Result, Ok, Err, MatchResult, Bool, cond, ltb, leb, List, [], ◌∷◌, ◌++◌, length, get_or, take, drop, sym, refl, ap, ◌∙◌, subst, subst₂, inl, ⊎_elim, not-suc-le-zero, arith, le-ltb, le-leb}
use Rattle.std.specs.List.Sorted.{IsPermutation, IsNonDecreasing}
use Rattle.std.specs.List.{AllByRecursion as Every}
use Rattle.std.proofs.lemmas.Bool.Decides.{nat_tests}
use Rattle.std.proofs.lemmas.Bool.{cases_order}
use Rattle.std.proofs.lemmas.List.{append_assoc, append-nil, length-append, length-map, length_push, length-take-le, length-drop, get_or-take, get_or-drop, nil_from_length, take_all, take_at, drop_at, drop_all, take-append-le, take-append-drop, drop-append-le}
use Rattle.std.proofs.ByRecursion.{All-append, All-from_get_or, All-map, All-weaker, all_shuffled}
use Rattle.std.proofs.lemmas.List.Sums.{sum_by-cons, sum_by-append, sum_by-take-drop, sum_by-take-le, count_by-le-length}
use Rattle.std.proofs.lemmas.List.Sorted.{IsPermutation-refl, IsPermutation-sym, IsPermutation-trans, IsPermutation-cons, IsPermutation-map, IsPermutation-append_left, IsPermutation-to_front, length_permutation, sum_by-IsPermutation}
use Rattle.queue.specs.Kinds.{Descending}
use Rattle.queue.specs.Heaps.{Heaped, Least, Pushed, Peeked, Replaced}
use Rattle.queue.specs.Selection.{below, at_most, numbers, KthLeast, Only, Kept, Offered, Threshold, Selected}
use Rattle.queue.specs.declared.rank.Upper.{Upper}

-- y is at least each of the numbers
abbrev Over : List ℕ → ℕ → Type 0
Over xs y = Every (λ x. x ≤ y) xs

length_numbers : (us : List Upper) → length (numbers us) ≡ length us
length_numbers us = length-map us (λ u. u.0)

shuffled_numbers : (us vs : List Upper) → IsPermutation us vs → IsPermutation (numbers us) (numbers vs)
shuffled_numbers us vs s = IsPermutation-map (λ u. u.0) us vs s

pub none_kept : (k : ℕ) → Kept k [] []
unfolding Heaped
none_kept k = record { size = omega arith; others = []; items = IsPermutation-refl []; least = tt; heap = λ p k d lo a b f. absurd (omega arith) }

-- one number more
module _ (k x : ℕ) (p : List ℕ) (us vs : List Upper) (out : List ℕ) (was : Kept k p us) where
  kept_next : IsPermutation (x ∷ numbers us) (numbers vs ++ out) → length vs ≡ min k (length p + 1) → Every (Over (numbers vs)) out → Every (Over (numbers vs)) was.others → Heaped Descending vs → Kept k (p ++ x ∷ []) vs
  kept_next s n a b h = record {
    size = n ∙ ap (min k) (sym (length_push p x));
    others = out ++ was.others;
    items = subst (IsPermutation (p ++ x ∷ [])) (append_assoc (numbers vs) out was.others)
        (IsPermutation-trans _ _ _ (IsPermutation-to_front p x) (IsPermutation-trans _ _ _ (IsPermutation-cons x _ _ was.items) (IsPermutation-append_left was.others _ _ s)));
    least = All-append _ out was.others a b;
    heap = h;
  }

-- where fewer than k are kept, they are all
none_out : (k : ℕ) (p : List ℕ) (us : List Upper) (was : Kept k p us) → length us < k → was.others ≡ []
none_out k p us was lt =
    let a = was.size in
    let b = length_permutation _ _ was.items in
    let c = length-append (numbers us) was.others in
    let d = length_numbers us in
    nil_from_length was.others (omega arith)

-- the first of the records has what each of them has
first_has : (P : ℕ → Type 0) (us : List Upper) (t : Upper) → 0 < length us → t ≡ get_or us 0 t → Every P (numbers us) → P t.0
first_has P [] t l e a = absurd (not-suc-le-zero l)
first_has P (u ∷ us) t l e a = subst (λ (w : Upper). P w.0) (sym e) a.0

all_under : (us : List Upper) (t : Upper) → Least Descending t us → Over (numbers us) t.0
unfolding Least
all_under us t h = All-map (λ x. x ≤ t.0) (λ u. u.0) us (All-from_get_or (λ u. u.0 ≤ t.0) us t (λ i l. h i t l))

others_over : (us : List Upper) (t : Upper) (others : List ℕ) → 0 < length us → t ≡ get_or us 0 t → Every (Over (numbers us)) others → Every (λ y. t.0 ≤ y) others
others_over us t others l e a = All-weaker (Over (numbers us)) (λ y. t.0 ≤ y) (λ y h. first_has (λ x. x ≤ y) us t l e h) others a

over_over : (xs : List ℕ) (v : ℕ) (others : List ℕ) → Over xs v → Every (λ y. v ≤ y) others → Every (Over xs) others
over_over xs v others a b = All-weaker (λ y. v ≤ y) (Over xs) (λ y h. All-weaker (λ x. x ≤ v) (λ x. x ≤ y) (λ x g. omega arith) xs a) others b

-- the ways of `KLeast::offer`: x is let in where fewer than k are kept, and is held against the greatest of them where k are
module _ (k n m x : ℕ) (xs ys : List Upper) (le : n ≤ k) (room : k ≤ length xs) (long : length ys ≡ length xs) where
  front : length (take n xs) ≡ n
  front = length-take-le n xs (omega arith)

  pub takes : (u : Upper) → u.0 ≡ x → m ≡ n + 1 → n < k → Pushed Descending n u xs ys → Offered k n x xs m ys
  takes u e next lt h = subst (λ j. Offered k n x xs j ys) (sym next) (
      let s : IsPermutation (x ∷ numbers (take n xs)) (numbers (take (n + 1) ys) ++ []) =
      subst (IsPermutation (x ∷ numbers (take n xs))) (sym (append-nil (numbers (take (n + 1) ys)))) (subst (λ y. IsPermutation (y ∷ numbers (take n xs)) (numbers (take (n + 1) ys))) e (shuffled_numbers _ _ h.items)) in
      let f = front in
      let g : length (take (n + 1) ys) ≡ n + 1 = length-take-le (n + 1) ys (omega arith) in
      record {
        fits = le;
        room = room;
        size = omega arith;
        dropped = [];
        items = s;
        rest = h.rest;
        keeps = λ p was.
            let z = was.size in
            kept_next k x p (take n xs) (take (n + 1) ys) [] was s (omega arith) tt
            (subst (Every (Over (numbers (take (n + 1) ys)))) (sym (none_out k p (take n xs) was (omega arith))) tt) (h.heap was.heap);
      }
      )

  pub let_in : {E : Type 0} (u : Upper) (r : Result (Unit {0}) E) → u.0 ≡ x → n < k → MatchResult r (λ _. Pushed Descending n u xs ys × (m ≡ n + 1)) (λ _. (length xs ≡ n) × (ys ≡ xs) × (m ≡ n)) → Offered k n x xs m ys
  let_in u (Ok w) e lt h = takes u e h.1 lt h.0
  let_in u (Err w) e lt h = absurd (omega (arith, h.0))

  module _ (same_count : m ≡ n) (full : n ≡ k) where
    stays : ys ≡ xs → (Heaped Descending (take n xs) → Over (numbers (take n xs)) x) → Offered k n x xs m ys
    stays same over =
        let l = numbers (take n xs) in
        let s : IsPermutation (x ∷ l) (l ++ x ∷ []) = IsPermutation-sym _ _ (IsPermutation-to_front l x) in
        let f = front in
        subst (λ j. Offered k n x xs j ys) (sym same_count) (subst (Offered k n x xs n) (sym same) (record {
          fits = le;
          room = room;
          size = omega arith;
          dropped = x ∷ [];
          items = s;
          rest = refl;
          keeps = λ p was. let z = was.size in kept_next k x p (take n xs) (take n xs) (x ∷ []) was s (omega arith) (over was.heap, tt) was.least was.heap;
        }))

    pub outside : ys ≡ xs → n ≡ 0 → Offered k n x xs m ys
    outside same z = stays same (λ _. subst (λ j. Over (numbers (take j xs)) x) (sym z) tt)

    module _ (t : Upper) (top : Peeked Descending n t xs) where
      pub passes : ys ≡ xs → t.0 ≤ x → Offered k n x xs m ys
      passes same least =
          stays same (λ heap. All-weaker (λ y. y ≤ t.0) (λ y. y ≤ x) (λ y g. omega arith) (numbers (take n xs)) (all_under (take n xs) t (top.least heap)))

      -- the first of the whole is the first of the part
      first : t ≡ get_or (take n xs) 0 t
      first = top.is t ∙ sym (get_or-take n xs 0 t top.some)

      displaced : (u t' : Upper) → u.0 ≡ x → x < t.0 → Replaced Descending n u t' xs ys → Offered k n x xs m ys
      displaced u t' e less r = subst (λ j. Offered k n x xs j ys) (sym same_count) (
          let same : t' ≡ t = r.top.is t ∙ sym (top.is t) in
          let some = top.some in
          let f = front in
          let g : length (take n ys) ≡ n = length-take-le n ys (omega arith) in
          let mapped : IsPermutation (x ∷ numbers (take n xs)) (t.0 ∷ numbers (take n ys)) =
          subst (λ (w : Upper). IsPermutation (x ∷ numbers (take n xs)) (w.0 ∷ numbers (take n ys))) same (subst (λ y. IsPermutation (y ∷ numbers (take n xs)) (t'.0 ∷ numbers (take n ys))) e (shuffled_numbers _ _ r.items)) in
          let s : IsPermutation (x ∷ numbers (take n xs)) (numbers (take n ys) ++ t.0 ∷ []) = IsPermutation-trans _ _ _ mapped (IsPermutation-sym _ _ (IsPermutation-to_front (numbers (take n ys)) t.0)) in
          record {
            fits = le;
            room = room;
            size = omega arith;
            dropped = t.0 ∷ [];
            items = s;
            rest = r.rest;
            keeps = λ p was.
                let z = was.size in
                let under : Over (numbers (take n ys)) t.0 = (all_shuffled (λ y. y ≤ t.0) _ _ mapped (omega arith, all_under (take n xs) t (top.least was.heap))).1 in
                kept_next k x p (take n xs) (take n ys) (t.0 ∷ []) was s (omega arith) (under, tt)
                (over_over _ t.0 was.others under (others_over (take n xs) t was.others (omega arith) first was.least)) (r.heap was.heap);
          }
          )

      pub displaces : (u : Upper) (r : Option Upper) → u.0 ≡ x → x < t.0 → MatchOption r ((n ≡ 0) × (ys ≡ xs)) (λ t'. Replaced Descending n u t' xs ys) → Offered k n x xs m ys
      displaces u None e less h = let some = top.some in absurd (omega (arith, h.0))
      displaces u (Some t') e less h = displaced u t' e less h

-- counting
abbrev one : Bool → ℕ
one b = cond b 1 0

none_below : (v : ℕ) (xs : List ℕ) → Every (λ y. v ≤ y) xs → below v xs ≡ 0
none_below v [] a = refl
none_below v (x ∷ xs) a =
    let e = sum_by-cons (λ y. one (ltb y v)) x xs in
    let n : one (ltb x v) ≡ 0 = ap one (le-ltb x v a.0) in
    let m = none_below v xs a.1 in
    omega (arith, e, n, m)

all_at_most : (v : ℕ) (xs : List ℕ) → Over xs v → length xs ≤ at_most v xs
all_at_most v [] a = omega arith
all_at_most v (x ∷ xs) a =
    let e = sum_by-cons (λ y. one (leb y v)) x xs in
    let n : one (leb x v) ≡ 1 = ap one (le-leb x v a.0) in
    let m = all_at_most v xs a.1 in
    omega (arith, e, n, m)

not_all_below : (us : List Upper) (t : Upper) → 0 < length us → t ≡ get_or us 0 t → below t.0 (numbers us) < length us
not_all_below [] t l e = absurd (not-suc-le-zero l)
not_all_below (u ∷ us) t l e =
    let v = t.0 in
    let same : v ≡ u.0 = ap (λ (w : Upper). w.0) e in
    let c = sum_by-cons (λ y. one (ltb y v)) u.0 (numbers us) in
    let n : one (ltb u.0 v) ≡ 0 = ap one (le-ltb u.0 v (omega arith)) in
    let m = count_by-le-length (λ y. ltb y v) (numbers us) in
    let k = length_numbers us in
    omega (arith, c, n, m, k)

-- the first of k kept is the k-th least
pub kth_kept : (k : ℕ) (p : List ℕ) (us : List Upper) (t : Upper) → 0 < k → k ≤ length us → t ≡ get_or us 0 t → Least Descending t us → Kept k p us → KthLeast k t.0 p
kth_kept k p us t pos full is top was =
    let v = t.0 in
    let z = was.size in
    let n = length_numbers us in
    let b₀ = sum_by-IsPermutation (λ y. one (ltb y v)) _ _ was.items in
    let b₁ = sum_by-append (λ y. one (ltb y v)) (numbers us) was.others in
    let b₂ = none_below v was.others (others_over us t was.others (omega arith) is was.least) in
    let b₃ = not_all_below us t (omega arith) is in
    let a₀ = sum_by-IsPermutation (λ y. one (leb y v)) _ _ was.items in
    let a₁ = sum_by-append (λ y. one (leb y v)) (numbers us) was.others in
    let a₂ = all_at_most v (numbers us) (all_under us t top) in
    record { fewer = omega (arith, b₀, b₁, b₂, b₃, z); enough = omega (arith, a₀, a₁, a₂, n) }

counts_less : (v w : ℕ) (xs : List ℕ) → v < w → at_most v xs ≤ below w xs
counts_less v w [] lt = omega arith
counts_less v w (x ∷ xs) lt =
    let a = sum_by-cons (λ y. one (leb y v)) x xs in
    let b = sum_by-cons (λ y. one (ltb y w)) x xs in
    let i = counts_less v w xs lt in
    let h : one (leb x v) ≤ one (ltb x w) = grind (arith, nat_tests) in
    omega (arith, a, b, i, h)

pub kth_unique : (k v w : ℕ) (xs : List ℕ) → KthLeast k v xs → KthLeast k w xs → v ≡ w
kth_unique k v w xs p q = ⊎_elim (λ e. e)
    (⊎_elim (λ l. absurd (omega (arith, p.enough, q.fewer, counts_less v w xs l))) (λ l. absurd (omega (arith, q.enough, p.fewer, counts_less w v xs l))))
    (cases_order v w)

-- for callers: the k-th least does not depend on the order of the numbers, and in rising order it is the one at k - 1
pub kth_shuffled : (k v : ℕ) (xs ys : List ℕ) → IsPermutation xs ys → KthLeast k v xs → KthLeast k v ys
kth_shuffled k v xs ys s h =
    let b = sum_by-IsPermutation (λ y. one (ltb y v)) _ _ s in
    let a = sum_by-IsPermutation (λ y. one (leb y v)) _ _ s in
    record { fewer = omega (arith, b, h.fewer); enough = omega (arith, a, h.enough) }

pub kth_rising : (k : ℕ) (xs : List ℕ) → IsNonDecreasing xs → 0 < k → k ≤ length xs → KthLeast k (get_or xs (k - 1) 0) xs
kth_rising k xs up pos le =
    let v = get_or xs (k - 1) 0 in
    let front = take k xs in
    let back = drop (k - 1) xs in
    let lf : length front ≡ k = length-take-le k xs le in
    let lt : length (take (k - 1) xs) ≡ k - 1 = length-take-le (k - 1) xs (omega arith) in
    let lb = length-drop (k - 1) xs in
    let over : Every (λ y. v ≤ y) back = All-from_get_or (λ y. v ≤ y) back 0 (λ i l. subst (λ y. v ≤ y) (sym (get_or-drop (k - 1) xs i 0)) (up (k - 1) (k - 1 + i) 0 (omega arith) (omega arith))) in
    let under : Over front v = All-from_get_or (λ y. y ≤ v) front 0 (λ i l. subst (λ y. y ≤ v) (sym (get_or-take k xs i 0 (omega arith))) (up i (k - 1) 0 (omega arith) (omega arith))) in
    let b₀ = sum_by-take-drop (λ y. one (ltb y v)) xs (k - 1) in
    let b₁ = count_by-le-length (λ y. ltb y v) (take (k - 1) xs) in
    let b₂ = none_below v back over in
    let a₀ = sum_by-take-le (λ y. one (leb y v)) xs k in
    let a₁ = all_at_most v front under in
    record { fewer = omega (arith, b₀, b₁, b₂); enough = omega (arith, a₀, a₁) }

pub threshold_is : (k n : ℕ) (t : Upper) (xs : List Upper) → k ≤ n → Peeked Descending n t xs → Threshold k n t.0 xs
threshold_is k n t xs full h =
    let l = length-take-le n xs h.within in
    record {
      some = h.some;
      full = full;
      within = h.within;
      is = λ d. ap (λ (w : Upper). w.0) (h.is d);
      kth = λ p was.
          let z = was.size in
          let some = h.some in
          let kth = kth_kept k p (take n xs) t (omega arith) (omega arith) (h.is t ∙ sym (get_or-take n xs 0 t some)) (h.least was.heap) was in
          (kth, λ w q. kth_unique k w t.0 p q kth);
    }

-- `select`: the first n of ys are kept of the numbers p so far
pub record Keeping (n : ℕ) (p : List ℕ) (xs ys : List Upper) : Type 0 where
  pub long : length ys ≡ length xs
  pub kept : Kept (length xs) p (take n ys)

pub keep_begins : (n : ℕ) (xs ys : List Upper) → n ≡ 0 → ys ≡ xs → Keeping n [] xs ys
keep_begins n xs ys z same = subst (λ m. Keeping m [] xs ys) (sym z) (record { long = ap length same; kept = none_kept (length xs) })

pub selects : (n : ℕ) (p : List ℕ) (xs ys zs : List Upper) (r : Option ℕ) → ys ≡ zs → length xs ≤ length p → n ≤ length ys → Keeping n p xs ys → MatchOption r ((n < length ys) ⊎ (n ≡ 0)) (λ v. Threshold (length ys) n v ys) → MatchOption r (length xs ≡ 0) (λ v. Selected (length xs) v p xs zs)
selects n p xs ys zs None same enough le was h =
    let z = was.kept.size in
    let long = was.long in
    let l = length-take-le n ys le in
    ⊎_elim (λ a. absurd (omega arith)) (λ b. omega arith) h
selects n p xs ys zs (Some v) same enough le was h = subst (Selected (length xs) v p xs) same (
    let full = h.full in
    let long = was.long in
    let all : take n ys ≡ take (length xs) ys = take_all n ys (omega arith) ∙ sym (take_all (length xs) ys (omega arith)) in
    let kth = h.kth p (subst (λ j. Kept j p (take n ys)) (sym long) was.kept) in
    record {
      room = omega arith;
      kth = subst (λ j. KthLeast j v p) long kth.0;
      only = subst (λ j. Only j v p) long kth.1;
      kept = subst (Kept (length xs) p) all was.kept;
      rest = drop_all (length xs) ys (omega arith) ∙ sym (drop_all (length xs) xs (omega arith));
    }
    )

-- from the first m of xs to all of them
pub selected_in_front : (k m : ℕ) (p : List ℕ) (xs ys : List Upper) (r : Option ℕ) (P : Type 0) → k ≡ m → 0 < m → m ≤ length xs → length ys ≡ length (take m xs) → MatchOption r (length (take m xs) ≡ 0) (λ v. Selected (length (take m xs)) v p (take m xs) ys) → MatchOption r P (λ v. Selected k v p xs (ys ++ drop m xs))
selected_in_front k m p xs ys None P e some room long h = let l = length-take-le m xs room in absurd (omega arith)
selected_in_front k m p xs ys (Some v) P e some room long h = subst (λ j. Selected j v p xs (ys ++ drop m xs)) (sym e) (
    let l : length (take m xs) ≡ m = length-take-le m xs room in
    let g : length ys ≡ m = long ∙ l in
    let front : take (length (take m xs)) ys ≡ take m (ys ++ drop m xs) = take_all (length (take m xs)) ys (omega arith) ∙ sym (take_at ys (drop m xs) m g) in
    record {
      room = room;
      kth = subst (λ j. KthLeast j v p) l h.kth;
      only = subst (λ j. Only j v p) l h.only;
      kept = subst₂ (λ j s. Kept j p s) l front h.kept;
      rest = drop_at ys (drop m xs) m g;
    }
    )

pub offered_in_front : (k n m x : ℕ) (xs ys : List Upper) (r : Option ℕ) → k ≡ m → m ≤ length xs → length ys ≡ length (take m xs)
    → MatchOption r ((length (take m xs) < n) × (ys ≡ take m xs)) (λ j. Offered (length (take m xs)) n x (take m xs) j ys)
    → MatchOption r (((k < n) ⊎ (length xs < k)) × (ys ++ drop m xs ≡ xs)) (λ j. Offered k n x xs j (ys ++ drop m xs))
offered_in_front k n m x xs ys None e room long h =
    let l : length (take m xs) ≡ m = length-take-le m xs room in
    (inl (omega (arith, h.0)), ap (λ l. l ++ drop m xs) h.1 ∙ take-append-drop m xs)
offered_in_front k n m x xs ys (Some j) e room long h = subst (λ i. Offered i n x xs j (ys ++ drop m xs)) (sym e) (
    let l : length (take m xs) ≡ m = length-take-le m xs room in
    let fits = h.fits in
    let z = h.size in
    let front : take n (take m xs) ≡ take n xs = sym (take-append-le n (take m xs) (drop m xs) (omega arith)) ∙ ap (take n) (take-append-drop m xs) in
    let back : take j (ys ++ drop m xs) ≡ take j ys = take-append-le j ys (drop m xs) (omega arith) in
    record {
      fits = omega arith;
      room = room;
      size = omega arith;
      dropped = h.dropped;
      items = subst₂ (λ a b. IsPermutation (x ∷ numbers a) (numbers b ++ h.dropped)) front (sym back) h.items;
      rest = drop-append-le j ys (drop m xs) (omega arith) ∙ ap (λ l. l ++ drop m xs) h.rest ∙ sym (drop-append-le j (take m xs) (drop m xs) (omega arith)) ∙ ap (drop j) (take-append-drop m xs);
      keeps = λ p was. subst₂ (λ i s. Kept i (p ++ x ∷ []) s) l (sym back) (h.keeps p (subst₂ (λ i s. Kept i p s) (sym l) (sym front) was));
    }
    )
