-- The order of the crate's own record kind.
use Rattle.std.specs.Prelude.{◌≤◌}
use Rattle.queue.specs.declared.rank.Upper.{Upper}

-- the greatest comes first
abbrev pub Descending : Upper → Upper → Type 0
Descending x y = y.0 ≤ x.0
