use Rattle.std.proofs.Common.{rules, ◌<◌, arith}
use Rattle.std.specs.Prelude.{sum}
use Rattle.aggregate.specs.Folds.{total_bound}
use Rattle.aggregate.proofs.SumAggregate.combine.Goals as goal

pub sum-requires-clause-fits : goal.sum-requires-clause-fits
sum-requires-clause-fits c =
    let fits : sum c.args.entries.now < 4294967296 = omega (arith, total_bound _ c.requires) in
    search rules
