-- The order of the entries that the examples queue.
use Rattle.std.specs.Prelude.{ℕ}
use Rattle.queue.specs.Orders.{Lex}
use Rattle.queue_tests.specs.declared.entry.Entry.{Entry}

-- by bound, and equal bounds by identifier
abbrev pub ByBound : Entry → Entry → Type 0
ByBound x y = Lex x.bound x.id y.bound y.id

-- an entry with another bound
abbrev pub rebound : ℕ → Entry → Entry
rebound b x = record { bound = b; id = x.id; slot = x.slot; parts = x.parts }
