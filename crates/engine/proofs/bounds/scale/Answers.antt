use Rattle.std.proofs.Common.{arith}
use Rattle.std.proofs.lemmas.Nat.{mul-le}
use Rattle.engine.proofs.bounds.scale.Goals as goal

pub returns-clause-small : goal.returns-clause-small
returns-clause-small c = mul-le c.from.result c.from-2.result 255 65535 (omega (arith, c.ranges.weight.fits)) (omega (arith, c.ranges.x.fits))
