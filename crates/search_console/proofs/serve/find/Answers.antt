use Rattle.patch.specs.Patches.{few}
use Rattle.std.proofs.Common.{length}
use Rattle.search_console.specs.Sessions.{room_of}
use Rattle.console.specs.Sessions.{written}
use Rattle.search_console.proofs.Finding.{replied, named_within}
use Rattle.search_console.proofs.serve.find.Goals as goal

pub returns : goal.returns
returns g c =
    let a = c.args in
    let e = c.nearest.ensures in
    record {
      replies =
          replied (few (g.S.ChannelSet.models a.index.now.set)) (room_of (length a.hits.now) (length a.candidates.now) (length a.uppers.now))
          (written a.index.now.counts a.store.now) a.aggregate a.weights.now a.k a.radius a.budget a.rows.now
          c.in_ok-try_from.field-0 c.in_ok-try_from.ensures c.nearest.result a.hits.now c.nearest.new.hits _ _ e.answer e.searched;
      within = named_within _ _ _ _ _ c.nearest.result a.hits.now c.nearest.new.hits _ _ e.searched;
      counts = e.counts;
      same = e.same;
    }
