-- A distance of bytes gathered over two rows: what a loop adds, and the laws that it keeps.
use Rattle.std.specs.Prelude.{◌≡◌, ℕ, zero, suc, ◌+◌, ◌*◌, ◌<◌, ◌≤◌, max, List, [], ◌∷◌, length, take, slice_index, refl}
use Rattle.std.proofs.Common.{sym, ap, ◌∙◌, not-suc-le-zero, le_of_suc-le-suc, le_trans, mul-suc, add-one, arith, take_all}
use Rattle.std.proofs.lemmas.Nat.{mul-le}
use Rattle.metric.specs.Model.{Lawful}
use Rattle.metric.specs.Distances.{across}

-- op gathers: it is a monoid's, rises with its entries, and gathers two ways by no more than both
pub record Gathering (op : ℕ → ℕ → ℕ) : Type 0 where
  pub left : (a : ℕ) → op 0 a ≡ a
  pub right : (a : ℕ) → op a 0 ≡ a
  pub assoc : (a b c : ℕ) → op (op a b) c ≡ op a (op b c)
  pub rises : (a b c d : ℕ) → a ≤ b → c ≤ d → op a c ≤ op b d
  pub spreads : (a b c d : ℕ) → op (a + b) (c + d) ≤ op a c + op b d

pub by_sum : Gathering ◌+◌
by_sum = record {
  left = λ a. omega arith;
  right = λ a. omega arith;
  assoc = λ a b c. omega arith;
  rises = λ a b c d h k. omega arith;
  spreads = λ a b c d. omega arith;
}

pub by_max : Gathering max
by_max = record {
  left = λ a. omega arith;
  right = λ a. omega arith;
  assoc = λ a b c. omega arith;
  rises = λ a b c d h k. omega arith;
  spreads = λ a b c d. omega arith;
}

-- top c n is above n entries of at most c each, gathered, and leaves room above it
pub record Topped (op top : ℕ → ℕ → ℕ) : Type 0 where
  pub more : (c n : ℕ) → op c (top c n) ≤ top c (suc n)
  pub small : (c n : ℕ) → c ≤ 255 → n ≤ 256 → top c n ≤ 65280

pub sum_topped : Topped ◌+◌ ◌*◌
sum_topped = record { more = λ c n. omega (arith, mul-suc c n); small = λ c n h k. mul-le c n 255 256 h k }

pub max_topped : Topped max (λ c _. c)
max_topped = record { more = λ c n. omega arith; small = λ c n h k. omega arith }

-- f is a distance of bytes, at most c
pub record Gauge (f : ℕ → ℕ → ℕ) (c : ℕ) : Type 0 where
  pub same : (x : ℕ) → x < 256 → f x x ≡ 0
  pub symmetric : (x y : ℕ) → x < 256 → y < 256 → f x y ≡ f y x
  pub triangle : (x y z : ℕ) → x < 256 → y < 256 → z < 256 → f x z ≤ f x y + f y z
  pub bounded : (x y : ℕ) → x < 256 → y < 256 → f x y ≤ c

abbrev Bytes : List ℕ → Type 0
Bytes x = (k : ℕ) → slice_index x k < 256

module _ {op : ℕ → ℕ → ℕ} (o : Gathering op) (f : ℕ → ℕ → ℕ) where
  across_suc : (i : ℕ) (xs ys : List ℕ) → i < length xs → i < length ys
      → across op f (take (suc i) xs) (take (suc i) ys) ≡ op (across op f (take i xs) (take i ys)) (f (slice_index xs i) (slice_index ys i))
  across_suc i [] ys h k = absurd (not-suc-le-zero h)
  across_suc i (x ∷ xs) [] h k = absurd (not-suc-le-zero k)
  across_suc zero (x ∷ xs) (y ∷ ys) h k = o.right (f x y) ∙ sym (o.left (f x y))
  across_suc (suc i) (x ∷ xs) (y ∷ ys) h k =
      ap (op (f x y)) (across_suc i xs ys (le_of_suc-le-suc h) (le_of_suc-le-suc k)) ∙ sym (o.assoc _ _ _)

  -- one more place of both rows
  pub across_more : (i so v r : ℕ) (xs ys : List ℕ) → i < length xs → length xs ≡ length ys → v ≡ f (slice_index xs i) (slice_index ys i)
      → so ≡ across op f (take i xs) (take i ys) → r ≡ op so v → r ≡ across op f (take (i + 1) xs) (take (i + 1) ys)
  across_more i so v r xs ys h e u s z = rw add-one (let m = across_suc i xs ys h (omega arith) in cc)

  pub across_all : (i so : ℕ) (xs ys : List ℕ) → length xs ≤ i → length xs ≡ length ys → so ≡ across op f (take i xs) (take i ys) → so ≡ across op f xs ys
  across_all i so xs ys h e s = let p = take_all i xs h in let q = take_all i ys (omega arith) in cc

  module _ {c : ℕ} (g : Gauge f c) where
    across_same : (xs : List ℕ) → Bytes xs → across op f xs xs ≡ 0
    across_same [] b = refl
    across_same (x ∷ xs) b = rw (g.same x (b 0)) (o.left _ ∙ across_same xs (λ k. b (suc k)))

    across_symmetric : (xs ys : List ℕ) → Bytes xs → Bytes ys → across op f xs ys ≡ across op f ys xs
    across_symmetric [] [] b d = refl
    across_symmetric [] (y ∷ ys) b d = refl
    across_symmetric (x ∷ xs) [] b d = refl
    across_symmetric (x ∷ xs) (y ∷ ys) b d =
        let p = g.symmetric x y (b 0) (d 0) in let q = across_symmetric xs ys (λ k. b (suc k)) (λ k. d (suc k)) in cc

    across_triangle : (xs ys zs : List ℕ) → length xs ≡ length ys → length ys ≡ length zs → Bytes xs → Bytes ys → Bytes zs
        → across op f xs zs ≤ across op f xs ys + across op f ys zs
    across_triangle [] ys zs p q b d e = omega arith
    across_triangle (x ∷ xs) [] zs p q b d e = omega arith
    across_triangle (x ∷ xs) (y ∷ ys) [] p q b d e = omega arith
    across_triangle (x ∷ xs) (y ∷ ys) (z ∷ zs) p q b d e =
        le_trans
        (o.rises _ _ _ _ (g.triangle x y z (b 0) (d 0) (e 0)) (across_triangle xs ys zs (omega arith) (omega arith) (λ k. b (suc k)) (λ k. d (suc k)) (λ k. e (suc k))))
        (o.spreads _ _ _ _)

    -- top n is above n entries of at most c each
    module _ (top : ℕ → ℕ) (more : (n : ℕ) → op c (top n) ≤ top (suc n)) where
      across_bounded : (xs ys : List ℕ) → Bytes xs → Bytes ys → across op f xs ys ≤ top (length xs)
      across_bounded [] ys b d = omega arith
      across_bounded (x ∷ xs) [] b d = omega arith
      across_bounded (x ∷ xs) (y ∷ ys) b d =
          le_trans (o.rises _ _ _ _ (g.bounded x y (b 0) (d 0)) (across_bounded xs ys (λ k. b (suc k)) (λ k. d (suc k)))) (more (length xs))

      pub across_lawful : (w : ℕ) → 1 ≤ w → w ≤ 256 → top w ≤ 65280 → Lawful (record { width = w; top = top w; dist = across op f })
      across_lawful w some few small = record {
        some = some;
        few = few;
        small = small;
        same = λ x r. across_same x r.bytes;
        symmetric = λ x y r s. across_symmetric x y r.bytes s.bytes;
        triangle = λ x y z r s t. across_triangle x y z (r.long ∙ sym s.long) (s.long ∙ sym t.long) r.bytes s.bytes t.bytes;
        bounded = λ x y r s. rw (← r.long) (across_bounded x y r.bytes s.bytes);
      }

module _ {op top f : ℕ → ℕ → ℕ} {c : ℕ} (o : Gathering op) (t : Topped op top) (g : Gauge f c) (byte : c ≤ 255) where
  -- gathered over rows of last + 1 bytes
  pub gathered_lawful : (last : ℕ) → last ≤ 255 → Lawful (record { width = last + 1; top = top c (last + 1); dist = across op f })
  gathered_lawful last h = across_lawful o f g (top c) (t.more c) (last + 1) (omega arith) (omega arith) (t.small c (last + 1) byte (omega arith))
