-- The premises of the theorems can be met.
use Rattle.std.proofs.Common.{ℕ, zero, suc, ◌<◌, [], ◌∷◌, length, get_or, refl, arith}
use Rattle.std.specs.List.{AllByRecursion as Every}
use Rattle.metric.specs.Model.{Row}
use Rattle.metric.specs.Channels.{at, AllLawful}
use Rattle.metric.specs.Gauges.{city_block_lawful}
use Rattle.aggregate.specs.Folds.{total_lawful}
use Rattle.refine.specs.Worked.{blocks, in_first, PremisesMet}

pair_row : (a b : ℕ) → a < 256 → b < 256 → Row 2 (a ∷ b ∷ [])
pair_row a b h g = record { long = refl; bytes = byte }
  where
    byte : (k : ℕ) → get_or (a ∷ b ∷ []) k 0 < 256
    byte zero = h
    byte (suc zero) = g
    byte (suc (suc k)) = omega arith

pub premises_met : PremisesMet
premises_met = record {
  some = omega arith;
  few = omega arith;
  metrics = metrics;
  aggregate = total_lawful;
  fits = record { rows = pair_row 12 1 (omega arith) (omega arith); weights = refl; small = weights; some = omega arith };
  sound = record {
    patches = (pair_row 10 0 (omega arith) (omega arith), (pair_row 20 15 (omega arith) (omega arith), (pair_row 40 0 (omega arith) (omega arith), tt)));
    distinct = ((λ e. omega arith, (λ e. omega arith, tt)), ((λ e. omega arith, tt), (tt, tt)));
    pivots = pivots;
  };
}
  where
    metrics : AllLawful blocks
    metrics zero h = city_block_lawful 0 (omega arith)
    metrics (suc zero) h = city_block_lawful 0 (omega arith)
    metrics (suc (suc c)) h = absurd (omega arith)

    weights : (c : ℕ) → get_or (1 ∷ 1 ∷ []) c 0 < 256
    weights zero = omega arith
    weights (suc zero) = omega arith
    weights (suc (suc c)) = omega arith

    pivot : Row 1 (40 ∷ [])
    pivot = record { long = refl; bytes = byte }
      where
        byte : (k : ℕ) → get_or (40 ∷ []) k 0 < 256
        byte zero = omega arith
        byte (suc k) = omega arith

    pivots : (c : ℕ) → c < length blocks → Every (Row (at blocks c).width) (in_first ((40 ∷ []) ∷ []) c)
    pivots zero h = (pivot, tt)
    pivots (suc zero) h = tt
    pivots (suc (suc c)) h = absurd (omega arith)
