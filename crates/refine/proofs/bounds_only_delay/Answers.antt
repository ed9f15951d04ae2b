-- Cites the theorem.
use Rattle.std.proofs.Common.{ℕ}
use Rattle.patch.specs.Patches.{Patch}
use Rattle.refine.proofs.Families.{bounds_only_delay}
use Rattle.refine.proofs.bounds_only_delay.Goals as goal

pub returns : goal.returns
returns c = bounds_only_delay Patch ℕ
