use Rattle.std.proofs.Common.{◌≡◌, ℕ, ◌≤◌, length, get_or}
use Rattle.index.specs.Limits.{no_record}
use Rattle.embedding.proofs.memory.channels_in.Given as goal

abbrev pub invariant-loop-c : goal.invariant-loop-c
invariant-loop-c l = (length l.channels ≡ 8) × ((k : ℕ) → (get_or l.channels k no_record).pivots ≤ 8)
