use Rattle.std.proofs.Common.{arith}
use Rattle.queue.proofs.KLeast.{selected_in_front}
use Rattle.queue.proofs.select.kth_least.Goals as goal

pub returns : goal.returns
returns c = selected_in_front c.args.k _ c.args.values.now c.args.scratch.now c.select.new.slots c.select.result _ (omega arith) (omega arith) (omega arith) (omega arith) c.select.ensures
