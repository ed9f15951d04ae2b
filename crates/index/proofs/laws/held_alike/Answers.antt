use Rattle.index.proofs.Readings.{law_alike}
use Rattle.index.proofs.laws.held_alike.Goals as goal

pub returns : goal.returns
returns c = law_alike
