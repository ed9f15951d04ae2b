use Rattle.std.proofs.Common.{length, string_bytes, refl, ap}
use Rattle.command.specs.Commands.{meant}
use Rattle.patch.specs.Patches.{few}
use Rattle.search_console.specs.Sessions.{room_of}
use Rattle.console.specs.Sessions.{written}
use Rattle.search_console.proofs.Serving.{searched}
use Rattle.search_console.proofs.serve.serve.Goals as goal

pub returns-in-Nearest : goal.returns-in-Nearest
returns-in-Nearest g c =
    let a = c.args in
    let x = a.index.now in
    let n = c.in-Nearest in
    let f = c.find-reply in
    record {
      serves =
          searched (few (g.S.ChannelSet.models x.set)) (room_of (length a.hits.now) (length a.candidates.now) (length a.uppers.now)) (written x.counts a.store.now) (written f.new.index.counts a.store.now)
          a.command n.aggregate n.weights.now n.k n.radius n.budget n.rows.now (ap meant n.is) f.ensures.counts refl
          f.result a.hits.now f.new.hits f.ensures.replies c.print_reply.result (string_bytes a.out.now) (string_bytes c.print_reply.new.out) c.print_reply.ensures;
      same = f.ensures.same;
    }
