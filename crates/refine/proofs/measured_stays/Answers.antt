-- Cites the theorem.
use Rattle.std.proofs.Common.{ℕ}
use Rattle.patch.specs.Patches.{Patch}
use Rattle.refine.proofs.Takes.{measured_stays}
use Rattle.refine.proofs.measured_stays.Goals as goal

pub returns : goal.returns
returns c = measured_stays Patch ℕ
