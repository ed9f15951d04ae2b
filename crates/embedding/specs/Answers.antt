-- What is written to the answers.
use Rattle.std.specs.Prelude.{◌≡◌, ℕ, ◌<◌, ◌≤◌, ◌⊎◌, List, length, slice_index}

-- y is x but for the bytes from m up to n
abbrev pub Within : (m n : ℕ) → (x y : List ℕ) → Type 0
Within m n x y = (i : ℕ) → (i < m) ⊎ (n ≤ i) → slice_index y i ≡ slice_index x i

-- the bytes from m up to n were written, and there was room for them
pub record Wrote (m n : ℕ) (x y : List ℕ) : Type 0 where
  pub on : m ≤ n
  pub room : n ≤ length x
  pub else : Within m n x y
