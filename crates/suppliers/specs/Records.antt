-- A metric between single bytes that records what it is asked.
use Rattle.std.specs.Prelude.{◌≡◌, ℕ, ◌+◌, ◌-◌, ◌*◌, min, List, slice_index, slice_index_or}
use Rattle.metric.specs.Model.{Model, Row}

-- 0 at equal bytes, else 1
abbrev pub differs : ℕ → ℕ → ℕ
differs x y = min 1 ((x - y) + (y - x))

abbrev pub discrete : Model
discrete = record { width = 1; top = 1; dist = λ a b. differs (slice_index a 0) (slice_index b 0) }

-- where the record has a pair of bytes
abbrev pub entry_of : ℕ → ℕ → ℕ
entry_of x y = x * 256 + y

-- the record has an entry for the rows a and b
pub record Recorded (book : List ℕ) (a b : List ℕ) : Type 0 where
  pub left : Row 1 a
  pub right : Row 1 b
  pub entry : slice_index_or book (entry_of (slice_index a 0) (slice_index b 0)) 0 ≡ 1
