use Rattle.std.proofs.Common.{arith}
use Rattle.queue.proofs.KLeast.{offered_in_front}
use Rattle.queue.proofs.select.offer.Goals as goal

pub returns : goal.returns
returns c = offered_in_front c.args.k c.args.len _ c.args.x c.args.scratch.now c.take_in.new.slots c.take_in.result (omega arith) (omega arith) (omega arith) c.take_in.ensures
