-- What a set of channels means: the models of its metrics, in order.
use Rattle.std.specs.Prelude.{◌≡◌, ℕ, ◌+◌, ◌-◌, ◌^◌, ◌<◌, min, ◌⊎◌, List, length, slice_index_or}
use Rattle.metric.specs.Model.{Model, Lawful}

-- how many channels there are, as far as a usize can say
abbrev pub count : List Model → ℕ
count ms = min (length ms) (2 ^ 64 - 1)

-- what stands past the last channel
abbrev pub no_model : Model
no_model = record { width = 0; top = 0; dist = λ _ _. 0 }

-- the model of channel c
abbrev pub at : List Model → ℕ → Model
at ms c = slice_index_or ms c no_model

abbrev pub AllLawful : List Model → Type 0
AllLawful ms = (c : ℕ) → c < length ms → Lawful (at ms c)

-- by channel, the pairs of rows that are recorded as asked about
abbrev pub Asked : Type 1
Asked = ℕ → List ℕ → List ℕ → Type 0

-- a pair recorded after was recorded before, or is the pair (a, b) in channel c
abbrev pub AddsAt : (before after : Asked) (c : ℕ) (a b : List ℕ) → Type 0
AddsAt before after c a b = (k : ℕ) (x y : List ℕ) → after k x y → before k x y ⊎ ((k ≡ c) × (x ≡ a) × (y ≡ b))

-- two records side by side: the first has n channels, and the second's come after them
abbrev pub beside : ℕ → Asked → Asked → Asked
beside n first second k x y = ((k < n) × first k x y) ⊎ ((j : ℕ) × (k ≡ n + j) × second j x y)
