-- The bounds from the pivots passed.
use Rattle.std.proofs.Common.{◌≡◌}
use Rattle.refine.specs.Bounds.{lower_of, upper_of}
use Rattle.search.specs.Walks.{firsts, stored}
use Rattle.search.proofs.walk.walk_pivots.Given as goal

abbrev pub invariant-loop-p : goal.invariant-loop-p
invariant-loop-p l = (l.lower ≡ lower_of (firsts l.p l.near) (stored l.p l.far)) × (l.upper ≡ upper_of l.top (firsts l.p l.near) (stored l.p l.far))
