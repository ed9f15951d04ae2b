-- Cites the theorem.
use Rattle.std.proofs.Common.{ℕ}
use Rattle.patch.specs.Patches.{Patch}
use Rattle.refine.proofs.Families.{need_is_least}
use Rattle.refine.proofs.need_is_least.Goals as goal

pub returns : goal.returns
returns c = need_is_least Patch ℕ
