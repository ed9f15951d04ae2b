use Rattle.std.proofs.Common.{Some, Ok, rules}
use Rattle.command.proofs.Written.{exact}
use Rattle.command.proofs.Reader.next.Goals as goal

pub returns-clause-exact : goal.returns-clause-exact
returns-clause-exact c = exact c.args.self.now.format c.args.self.now.rest.now c.in-Some.rest.now (Ok (Some c.in-Some.command)) (search rules)
