-- The distances of the built metrics, from a distance of two bytes.
use Rattle.std.specs.Prelude.{ℕ, ◌+◌, ◌-◌, ◌*◌, min, max, List, [], ◌∷◌, bit_xor, count_ones}
use Rattle.metric.specs.Model.{Model}

-- f over two rows side by side, gathered by op
abbrev pub across : (op f : ℕ → ℕ → ℕ) → List ℕ → List ℕ → ℕ
across op f [] ys = 0
across op f (x ∷ xs) [] = 0
across op f (x ∷ xs) (y ∷ ys) = op (f x y) (across op f xs ys)

-- the sum of f over two rows side by side
abbrev pub summed : (ℕ → ℕ → ℕ) → List ℕ → List ℕ → ℕ
summed f xs ys = across ◌+◌ f xs ys

-- the largest f over two rows side by side
abbrev pub largest : (ℕ → ℕ → ℕ) → List ℕ → List ℕ → ℕ
largest f xs ys = across max f xs ys

-- by how much two numbers differ
abbrev pub difference : ℕ → ℕ → ℕ
difference x y = (x - y) + (y - x)

-- in how many bits two numbers differ
abbrev pub differing_bits : ℕ → ℕ → ℕ
differing_bits x y = count_ones (bit_xor x y)

-- the shorter way round between two directions, 256 to the circle
abbrev pub shorter_way : ℕ → ℕ → ℕ
shorter_way x y = min (difference x y) (256 - difference x y)

abbrev pub city_block : ℕ → Model
city_block w = record { width = w; top = 255 * w; dist = summed difference }

abbrev pub hamming : ℕ → Model
hamming w = record { width = w; top = 8 * w; dist = summed differing_bits }

abbrev pub circular : ℕ → Model
circular w = record { width = w; top = 128 * w; dist = summed shorter_way }

abbrev pub chebyshev : ℕ → Model
chebyshev w = record { width = w; top = 255; dist = largest difference }
