-- Cites the theorem.
use Rattle.std.proofs.Common.{ℕ}
use Rattle.patch.specs.Patches.{Patch}
use Rattle.refine.proofs.Stands.{stand_ins_run}
use Rattle.refine.proofs.stand_ins_run.Goals as goal

pub returns : goal.returns
returns c = stand_ins_run ℕ Patch ℕ
