use Rattle.std.proofs.Common.{◌∙◌}
use Rattle.index.proofs.Readings.{law_shows, holds_find}
use Rattle.index.proofs.pivot_index.PivotIndex.find.Goals as goal

pub returns-clause-shows : goal.returns-clause-shows
returns-clause-shows g c = law_shows _ _ _

pub returns-clause-held : goal.returns-clause-held
returns-clause-held g c = λ cap b₀ h hold. c.slot_of.ensures ∙ holds_find _ cap _ _ b₀ h hold c.args.accession
