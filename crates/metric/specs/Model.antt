-- What a metric means, and the laws that every metric keeps.
use Rattle.std.specs.Prelude.{◌≡◌, ℕ, ◌+◌, ◌<◌, ◌≤◌, ◌⊎◌, List, length, slice_index}

-- a metric as its users know it: how many bytes a row has, a number that no distance exceeds, and the distance of two rows
pub record Model : Type 0 where
  pub width : ℕ
  pub top : ℕ
  pub dist : List ℕ → List ℕ → ℕ

-- x is a row of n bytes
pub record Row (n : ℕ) (x : List ℕ) : Type 0 where
  pub long : length x ≡ n
  pub bytes : (k : ℕ) → slice_index x k < 256

-- a bounded pseudometric on rows of one width: different rows may be at distance 0
pub record Lawful (m : Model) : Type 0 where
  pub some : 1 ≤ m.width
  pub few : m.width ≤ 256
  pub small : m.top ≤ 65280
  pub same : (x : List ℕ) → Row m.width x → m.dist x x ≡ 0
  pub symmetric : (x y : List ℕ) → Row m.width x → Row m.width y → m.dist x y ≡ m.dist y x
  pub triangle : (x y z : List ℕ) → Row m.width x → Row m.width y → Row m.width z → m.dist x z ≤ m.dist x y + m.dist y z
  pub bounded : (x y : List ℕ) → Row m.width x → Row m.width y → m.dist x y ≤ m.top

-- a pair recorded after was recorded before, or is the pair (a, b)
abbrev pub Adds : (before after : List ℕ → List ℕ → Type 0) (a b : List ℕ) → Type 0
Adds before after a b = (x y : List ℕ) → after x y → before x y ⊎ ((x ≡ a) × (y ≡ b))
