-- What a search reads of a channel, as the code holds it.
use Rattle.std.specs.Prelude.{◌≡◌, ℕ, ◌*◌, ◌<◌, List, [], map, length, slice_index, slice_index_or}
use Rattle.std.specs.List.{range_with_len}
use Rattle.metric.specs.Model.{Model}
use Rattle.metric.specs.Channels.{at}
use Rattle.index.specs.declared.counts.Counts.{Counts}
use Rattle.index.specs.Bytes.{get16}
use Rattle.index.specs.Limits.{pivots_in}
use Rattle.promise.specs.Held.{near}

-- the first n of some numbers
abbrev pub firsts : ℕ → List ℕ → List ℕ
firsts n xs = map (λ p. slice_index xs p) (range_with_len 0 n)

-- the first n numbers of two bytes
abbrev pub stored : ℕ → List ℕ → List ℕ
stored n bytes = map (λ p. get16 (2 * p) bytes) (range_with_len 0 n)

-- xs are eight numbers, of which the first are the distances from the query q to the pivots of channel c
pub record NearIn (ms : List Model) (k : Counts) (b q : List ℕ) (c : ℕ) (xs : List ℕ) : Type 0 where
  pub long : length xs ≡ 8
  pub first : firsts (pivots_in k c) xs ≡ near ms k b q c

-- so in every channel
pub record NearTable (ms : List Model) (k : Counts) (b q : List ℕ) (table : List (List ℕ)) : Type 0 where
  pub long : length table ≡ 8
  pub in_channel : (c : ℕ) → c < length ms → NearIn ms k b q c (slice_index_or table c [])

-- eight numbers, of which the first are the greatest distances of the channels
pub record TopTable (ms : List Model) (tops : List ℕ) : Type 0 where
  pub long : length tops ≡ 8
  pub in_channel : (c : ℕ) → c < length ms → slice_index tops c ≡ (at ms c).top
