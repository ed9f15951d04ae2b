-- Where a channel of two sets side by side lies.
use Rattle.std.specs.Prelude.{◌≡◌, ℕ, ◌+◌, ◌<◌, List, Option, None, Some}
use Rattle.metric.specs.Model.{Model}
use Rattle.metric.specs.Channels.{count}

-- channel c lies in the first set, whose models are ms, or in the second under what is left
abbrev pub LiesAt : List Model → ℕ → Option ℕ → Type 0
LiesAt ms c None = c < count ms
LiesAt ms c (Some j) = c ≡ count ms + j
