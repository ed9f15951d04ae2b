-- Numbers as bytes, the most significant first.
use Rattle.std.specs.Prelude.{◌≡◌, ℕ, ◌+◌, ◌/◌, ◌%◌, ◌<◌, List, [], ◌∷◌, ◌++◌, length, Some, None, Option}
use Rattle.std.specs.Borrow.{Bor}

abbrev pub be16 : ℕ → List ℕ
be16 n = n / 256 ∷ n % 256 ∷ []

abbrev pub be32 : ℕ → List ℕ
be32 n = be16 (n / 65536) ++ be16 (n % 65536)

-- a number and what follows it, from the front of the bytes; none where they are fewer than `size`
abbrev pub Front : {X : Type 0} (encode : X → List ℕ) (size : ℕ) (bytes : List ℕ) → Option (X × Bor (List ℕ)) → Type 0
Front encode size bytes None = length bytes < size
Front encode size bytes (Some p) = (bytes ≡ encode p.0 ++ p.1.now) × (length bytes ≡ size + length p.1.now)
