use Rattle.std.proofs.Common.{refl, arith, length-set}
use Rattle.embedding.proofs.Lists.{none_many, set_many}
use Rattle.embedding.proofs.memory.channels_in.Goals as goal

pub loop-c-init : goal.loop-c-init
loop-c-init c = (refl, none_many 8)

pub loop-c-preserved : goal.loop-c-preserved
loop-c-preserved c = (simp length-set (omega arith), λ k. set_many c.loop-c.channels c.loop-c.c k _ (omega arith) c.loop-c.invariant.1)
