-- Cites the theorem.
use Rattle.std.proofs.Common.{ℕ}
use Rattle.patch.specs.Patches.{Patch}
use Rattle.refine.proofs.Families.{unadmitted_idle}
use Rattle.refine.proofs.unadmitted_idle.Goals as goal

pub returns : goal.returns
returns c = unadmitted_idle Patch ℕ
