-- Steps one after the other, and the first slot.
use Rattle.std.specs.List.{find, range_with_len}
use Rattle.std.proofs.Common.{◌≡◌, ℕ, zero, suc, refl, ◌+◌, cond, eqb, List, Some, ap, add-one}
use Rattle.index.specs.Bytes.{get16}
use Rattle.index.specs.Layouts.{number_at}
use Rattle.index.specs.Steps.{each, first_from}

pub each_more : (i : ℕ) (f : ℕ → List ℕ → List ℕ) (b : List ℕ) → each (i + 1) f b ≡ f i (each i f b)
each_more i f b = ap (λ (n : ℕ). each n f b) (add-one i)

-- the first slot, as a search through the numbers of the slots
pub first_find : (b : List ℕ) (a n i : ℕ) → find (λ (s : ℕ). eqb (get16 (number_at s) b) a) (range_with_len i n) ≡ first_from b a n i
first_find b a zero i = refl
first_find b a (suc n) i = ap (cond (eqb (get16 (number_at i) b) a) (Some i)) (first_find b a n (i + 1))
