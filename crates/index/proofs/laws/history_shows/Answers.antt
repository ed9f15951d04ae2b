use Rattle.index.proofs.Readings.{law_shows}
use Rattle.index.proofs.laws.history_shows.Goals as goal

pub returns : goal.returns
returns c = law_shows
