-- Cites the theorems.
use Rattle.std.proofs.Common.{ℕ}
use Rattle.patch.specs.Patches.{Patch}
use Rattle.refine.proofs.Families.{runs_end, steps_end}
use Rattle.refine.proofs.runs_end.Goals as goal

pub returns : goal.returns
returns c = record { steps = c.steps_enough.ensures; outcome = runs_end Patch ℕ; ends = steps_end Patch ℕ }
