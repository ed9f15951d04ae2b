-- What an index counts.
use Rattle.std.specs.Prelude.{ℕ, replicate, slice_index_or, slice_set}
use Rattle.index.specs.declared.counts.Counts.{Counts}
use Rattle.index.specs.declared.counts.ChannelRecord.{ChannelRecord}

abbrev pub no_record : ChannelRecord
no_record = record { pivots = 0 }

-- how many pivots channel c has
abbrev pub pivots_in : Counts → ℕ → ℕ
pivots_in k c = (slice_index_or k.channels c no_record).pivots

-- a new index holds nothing
abbrev pub no_counts : ℕ → Counts
no_counts cap = record { capacity = cap; held = 0; channels = replicate 8 no_record }

abbrev pub with_held : Counts → ℕ → Counts
with_held k n = record { capacity = k.capacity; held = n; channels = k.channels }

abbrev pub with_pivots : Counts → (c n : ℕ) → Counts
with_pivots k c n = record { capacity = k.capacity; held = k.held; channels = slice_set k.channels c (record { pivots = n }) }
