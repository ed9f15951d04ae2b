-- What a write to the store leaves of its parts.
use Rattle.std.proofs.Common.{◌≡◌, ℕ, zero, suc, ◌+◌, ◌-◌, ◌<◌, ◌≤◌, ◌⊎◌, List, length, take, drop, replicate, sym, ap, ◌∙◌, inl, inr, arith, rules}
use lib.Seq.{paste}
use Rattle.std.proofs.lemmas.List.{places, same_lists, length-take, length-drop, length-append}
use Rattle.index.specs.Bytes.{put, part}
use Rattle.index.specs.Steps.{each, moved}

-- two stretches of bytes that do not overlap
abbrev pub Apart : (at n from len : ℕ) → Type 0
Apart at n from len = (at + n ≤ from) ⊎ (from + len ≤ at)

pub length_part : (at n : ℕ) (xs : List ℕ) → at + n ≤ length xs → length (part at n xs) ≡ n
length_part at n xs h = simp (length-take, length-drop) (omega arith)

-- a part of a part
pub part_part : (from len k n : ℕ) (xs : List ℕ) → k + n ≤ len → part k n (part from len xs) ≡ part (from + k) n xs
part_part from len k n xs h = same_lists _ _ (search (rules, places)) (λ j d q. grind (arith, places))

abbrev pub zeros : ℕ → List ℕ
zeros n = replicate n 0

pub part_zeros : (k n len : ℕ) → k + n ≤ len → part k n (zeros len) ≡ zeros n
part_zeros k n len h = same_lists _ _ (search (rules, places)) (λ j d q. grind (arith, places))

module _ (at : ℕ) (ys xs : List ℕ) (fits : at + length ys ≤ length xs) where
  pub length_put : length (put at ys xs) ≡ length xs
  length_put = simp (length-append, length-take, length-drop) (omega arith)

  -- what is read from the bytes written, behind them, and beside them
  pub part_put_in : (k n : ℕ) → k + n ≤ length ys → part (at + k) n (put at ys xs) ≡ part k n ys
  part_put_in k n h = same_lists _ _ (search (rules, places)) (λ j d q. grind (arith, places))

  pub part_put_same : (n : ℕ) → n ≡ length ys → part at n (put at ys xs) ≡ ys
  part_put_same n e = same_lists _ _ (search (rules, places)) (λ k d h. grind (arith, places))

  pub drop_put : (n : ℕ) → at + length ys ≤ n → drop n (put at ys xs) ≡ drop n xs
  drop_put n h = same_lists _ _ (search (rules, places)) (λ k d q. grind (arith, places))

  pub part_put_other : (from n : ℕ) → Apart from n at (length ys) → part from n (put at ys xs) ≡ part from n xs
  part_put_other from n (inl e) = same_lists _ _ (search (rules, places)) (λ k d h. grind (arith, places))
  part_put_other from n (inr e) = same_lists _ _ (search (rules, places)) (λ k d h. grind (arith, places))

-- a write at n or past it leaves the first n
pub take_put : (n at : ℕ) (ys xs : List ℕ) → n ≤ at → at + length ys ≤ length xs → take n (put at ys xs) ≡ take n xs
take_put n at ys xs h fits = same_lists _ _ (search (rules, places)) (λ k d q. grind (arith, places))

-- a part of the first n, whatever lies past them
pub part_take : (n from w : ℕ) (xs : List ℕ) → from + w ≤ n → part from w (take n xs) ≡ part from w xs
part_take n from w xs h = same_lists _ _ (search (rules, places)) (λ k d q. grind (arith, places))

pub part_same : (n from w : ℕ) (xs ys : List ℕ) → from + w ≤ n → take n xs ≡ take n ys → part from w xs ≡ part from w ys
part_same n from w xs ys h e = sym (part_take n from w xs h) ∙ ap (part from w) e ∙ part_take n from w ys h

-- a part as code cuts it
pub cut : (at w : ℕ) (xs : List ℕ) → take ((at + w) - at) (drop at xs) ≡ part at w xs
cut at w xs = let e : (at + w) - at ≡ w = omega arith in ap (λ (n : ℕ). take n (drop at xs)) e

-- a loop keeps what each of its steps keeps
pub each_keeps : (P : ℕ → List ℕ → Type 0) (f : ℕ → List ℕ → List ℕ) (b : List ℕ) (n : ℕ) → P 0 b → ((i : ℕ) (x : List ℕ) → i < n → P i x → P (suc i) (f i x)) → P n (each n f b)
each_keeps P f b zero start step = start
each_keeps P f b (suc n) start step =
    step n (each n f b) (omega arith) (each_keeps P f b n start (λ i x h p. step i x (omega arith) p))

module _ (from to len : ℕ) (y : List ℕ) (ff : from + len ≤ length y) (ft : to + len ≤ length y) where
  pub length_moved : length (moved from to len y) ≡ length y
  length_moved = search (rules, places)

  pub drop_moved : (n : ℕ) → from + len ≤ n → to + len ≤ n → drop n (moved from to len y) ≡ drop n y
  drop_moved n p q = same_lists _ _ (search (rules, places)) (λ k d h. grind (arith, places))

  pub moved_zero : (k n : ℕ) → k + n ≤ len → part (from + k) n (moved from to len y) ≡ zeros n
  moved_zero k n h = same_lists _ _ (search (rules, places)) (λ j d q. grind (arith, places))

  pub moved_taken : (k n : ℕ) → k + n ≤ len → Apart to len from len → part (to + k) n (moved from to len y) ≡ part (from + k) n y
  moved_taken k n h (inl a) = same_lists _ _ (search (rules, places)) (λ j d q. grind (arith, places))
  moved_taken k n h (inr a) = same_lists _ _ (search (rules, places)) (λ j d q. grind (arith, places))

  pub moved_other : (at n : ℕ) → Apart at n from len → Apart at n to len → part at n (moved from to len y) ≡ part at n y
  moved_other at n (inl p) (inl q) = same_lists _ _ (search (rules, places)) (λ j d h. grind (arith, places))
  moved_other at n (inl p) (inr q) = same_lists _ _ (search (rules, places)) (λ j d h. grind (arith, places))
  moved_other at n (inr p) (inl q) = same_lists _ _ (search (rules, places)) (λ j d h. grind (arith, places))
  moved_other at n (inr p) (inr q) = same_lists _ _ (search (rules, places)) (λ j d h. grind (arith, places))

-- a copy within the store, as the library says it
pub copied : (from to n m : ℕ) (xs : List ℕ) → m ≡ n → from + n ≤ length xs → to + n ≤ length xs → paste xs to (drop from xs) m ≡ put to (part from n xs) xs
copied from to n m xs e h t = rw e (same_lists _ _ (search (rules, places)) (λ k d q. grind (arith, places)))
