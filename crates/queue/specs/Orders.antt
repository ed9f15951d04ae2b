-- What a test says, and orders that record kinds cite.
use Rattle.std.specs.Prelude.{◌≡◌, ℕ, ◌<◌, ◌≤◌, Bool, true, false, ◌⊎◌}

-- the answer of a test of P
abbrev pub Says : Bool → Type 0 → Type 0
Says true P = P
Says false P = P → ⊥

-- (a, b) comes no later than (c, d): the numbers a and c decide, and where they are equal what R says of b and d
abbrev pub ThenBy : {B : Type 0} → (B → B → Type 0) → ℕ → B → ℕ → B → Type 0
ThenBy R a b c d = (a < c) ⊎ ((a ≡ c) × R b d)

-- two numbers in lexicographic order
abbrev pub Lex : ℕ → ℕ → ℕ → ℕ → Type 0
Lex a b c d = ThenBy (λ x y. x ≤ y) a b c d
