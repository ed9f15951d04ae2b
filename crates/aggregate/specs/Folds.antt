-- Folds over entries.
use Rattle.std.specs.Prelude.{ℕ, suc, ◌+◌, ◌*◌, ◌≤◌, min, max, List, [], ◌∷◌, length, fold, slice_index}
use Rattle.std.proofs.Common.{arith}
use Rattle.aggregate.specs.Aggregates.{Entries, Raised, LawfulAggregate, total, greatest, smallest}

raised_rest : (x y : ℕ) (xs ys : List ℕ) → Raised (x ∷ xs) (y ∷ ys) → Raised xs ys
raised_rest x y xs ys r = record { long = omega (arith, r.long); up = λ k. r.up (suc k) }

folded_raised : (f : ℕ → ℕ → ℕ) → ((a b x y : ℕ) → a ≤ b → x ≤ y → f a x ≤ f b y) → (xs ys : List ℕ) (a b : ℕ) → a ≤ b → Raised xs ys
    → fold f a xs ≤ fold f b ys
folded_raised f m [] [] a b h r = h
folded_raised f m [] (y ∷ ys) a b h r = omega (arith, r.long)
folded_raised f m (x ∷ xs) [] a b h r = omega (arith, r.long)
folded_raised f m (x ∷ xs) (y ∷ ys) a b h r = folded_raised f m xs ys (f a x) (f b y) (m a b x y h (r.up 0)) (raised_rest x y xs ys r)

folded_within : (f : ℕ → ℕ → ℕ) → ((a x : ℕ) → f a x ≤ a + x) → (xs : List ℕ) (a b : ℕ) → a ≤ b → fold f a xs ≤ fold ◌+◌ b xs
folded_within f m [] a b h = h
folded_within f m (x ∷ xs) a b h = folded_within f m xs (f a x) (b + x) (omega (arith, m a x))

pub total_lawful : LawfulAggregate total
total_lawful = record {
  monotone = λ xs ys e d r. folded_raised ◌+◌ (λ a b x y h k. omega arith) xs ys 0 0 (omega arith) r;
  within = λ xs e. folded_within ◌+◌ (λ a x. omega arith) xs 0 0 (omega arith);
}

pub greatest_lawful : LawfulAggregate greatest
greatest_lawful = record {
  monotone = λ xs ys e d r. folded_raised max (λ a b x y h k. omega arith) xs ys 0 0 (omega arith) r;
  within = λ xs e. folded_within max (λ a x. omega arith) xs 0 0 (omega arith);
}

smallest_within : (xs : List ℕ) → smallest xs ≤ total xs
smallest_within [] = omega arith
smallest_within (x ∷ xs) = folded_within min (λ a y. omega arith) xs (min x x) (0 + x) (omega arith)

pub smallest_lawful : LawfulAggregate smallest
smallest_lawful = record {
  monotone = λ xs ys e d r. folded_raised min (λ a b x y h k. omega arith) xs ys (slice_index xs 0) (slice_index ys 0) (r.up 0) r;
  within = λ xs e. smallest_within xs;
}

folded_bound : (xs : List ℕ) (a : ℕ) → ((k : ℕ) → slice_index xs k ≤ 16711425) → fold ◌+◌ a xs ≤ a + 16711425 * length xs
folded_bound [] a h = omega arith
folded_bound (x ∷ xs) a h = omega (arith, folded_bound xs (a + x) (λ k. h (suc k)), h 0)

-- the sum of entries is at most eight of the greatest
pub total_bound : (xs : List ℕ) → Entries xs → total xs ≤ 133691400
total_bound xs e = omega (arith, folded_bound xs 0 e.small, e.few)
