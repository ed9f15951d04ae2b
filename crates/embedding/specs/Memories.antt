-- A memory: the counts of an index, then its store.
use Rattle.std.specs.Prelude.{ℕ, ◌≤◌}
use Rattle.index.specs.declared.counts.Counts.{Counts}
use Rattle.index.specs.Limits.{pivots_in}

-- what every index keeps of its counts
pub record Sane (k : Counts) : Type 0 where
  pub fits : k.held ≤ k.capacity
  pub small : k.capacity ≤ 4096
  pub eight : (c : ℕ) → pivots_in k c ≤ 8
