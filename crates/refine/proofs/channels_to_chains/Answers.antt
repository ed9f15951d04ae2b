-- Cites the theorem.
use Rattle.std.proofs.Common.{ℕ}
use Rattle.patch.specs.Patches.{Patch}
use Rattle.refine.proofs.Channels.{channels_to_chains}
use Rattle.refine.proofs.channels_to_chains.Goals as goal

pub returns : goal.returns
returns c = channels_to_chains Patch ℕ
