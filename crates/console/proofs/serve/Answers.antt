use Rattle.std.proofs.Common.{refl, ap}
use Rattle.command.specs.Commands.{meant, insert, add_pivot}
use Rattle.patch.specs.Patches.{few}
use Rattle.console.specs.Sessions.{written}
use Rattle.console.proofs.Serving.{served}
use Rattle.console.proofs.serve.Goals as goal

pub returns-in-Insert-clause-serves : goal.returns-in-Insert-clause-serves
returns-in-Insert-clause-serves g c =
    let e = c.insert.ensures in
    served (few (g.S.ChannelSet.models c.args.index.now.set)) (written c.args.index.now.counts c.args.store.now) (written c.insert.new.self.counts c.insert.new.store)
    c.args.command (insert c.in-Insert.accession c.in-Insert.rows.now) _ c.insert.result (ap meant c.in-Insert.is) refl e.answer e.counts e.bytes

pub returns-in-AddPivot-clause-serves : goal.returns-in-AddPivot-clause-serves
returns-in-AddPivot-clause-serves g c =
    let e = c.add_pivot.ensures in
    served (few (g.S.ChannelSet.models c.args.index.now.set)) (written c.args.index.now.counts c.args.store.now) (written c.add_pivot.new.self.counts c.add_pivot.new.store)
    c.args.command (add_pivot c.in-AddPivot.channel c.in-AddPivot.accession) _ c.add_pivot.result (ap meant c.in-AddPivot.is) refl e.answer e.counts e.bytes
