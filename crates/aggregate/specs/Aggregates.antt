-- One number made of several, and the laws that every aggregate keeps.
use Rattle.std.specs.Prelude.{◌≡◌, ℕ, ◌+◌, ◌≤◌, min, max, List, length, fold, slice_index}

-- what an aggregate may be asked about: 1 to 8 numbers, each at most a weight times a number of 16 bits, 255 * 65535
pub record Entries (xs : List ℕ) : Type 0 where
  pub some : 1 ≤ length xs
  pub few : length xs ≤ 8
  pub small : (k : ℕ) → slice_index xs k ≤ 16711425

-- ys is xs with some entries raised
pub record Raised (xs ys : List ℕ) : Type 0 where
  pub long : length xs ≡ length ys
  pub up : (k : ℕ) → slice_index xs k ≤ slice_index ys k

abbrev pub total : List ℕ → ℕ
total xs = fold ◌+◌ 0 xs

abbrev pub greatest : List ℕ → ℕ
greatest xs = fold max 0 xs

abbrev pub smallest : List ℕ → ℕ
smallest xs = fold min (slice_index xs 0) xs

-- raising an entry never lowers the result, and the result is at most the sum of the entries
pub record LawfulAggregate (f : List ℕ → ℕ) : Type 0 where
  pub monotone : (xs ys : List ℕ) → Entries xs → Entries ys → Raised xs ys → f xs ≤ f ys
  pub within : (xs : List ℕ) → Entries xs → f xs ≤ total xs
