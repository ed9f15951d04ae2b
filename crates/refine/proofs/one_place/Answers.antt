-- Cites the theorem.
use Rattle.refine.proofs.Places.{one_place, one_entry}
use Rattle.refine.proofs.one_place.Goals as goal

pub returns : goal.returns
returns c = record { place = one_place; entry = one_entry }
