-- Cites the theorem.
use Rattle.std.proofs.Common.{ℕ}
use Rattle.patch.specs.Patches.{Patch}
use Rattle.refine.proofs.Families.{finished_nearest}
use Rattle.refine.proofs.finished_nearest.Goals as goal

pub returns : goal.returns
returns c = finished_nearest Patch ℕ
