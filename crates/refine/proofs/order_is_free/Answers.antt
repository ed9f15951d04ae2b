-- Cites the theorem.
use Rattle.std.proofs.Common.{ℕ}
use Rattle.patch.specs.Patches.{Patch}
use Rattle.refine.proofs.Families.{order_is_free, live_order_is_free}
use Rattle.refine.proofs.order_is_free.Goals as goal

pub returns : goal.returns
returns c = record { patches = order_is_free Patch ℕ; candidates = live_order_is_free Patch ℕ }
