-- Which pairs of rows a call may add to the metrics' records.
use Rattle.std.specs.Prelude.{◌≡◌, ℕ, ◌<◌, ◌⊎◌, List, length}
use Rattle.metric.specs.Model.{Model}
use Rattle.metric.specs.Channels.{Asked}
use Rattle.patch.specs.Patches.{row}
use Rattle.index.specs.declared.counts.Counts.{Counts}
use Rattle.index.specs.Layouts.{layout_of}
use Rattle.index.specs.Limits.{pivots_in}
use Rattle.index.specs.Steps.{slot_row, pivot_row}

-- a pair recorded after was recorded before, or is among the pairs P
abbrev pub AddsOnly : (before after P : Asked) → Type 0
AddsOnly before after P = (c : ℕ) (x y : List ℕ) → after c x y → before c x y ⊎ P c x y

-- insert asks for the distance of the patch's row to each pivot held in its channel
abbrev pub InsertAsks : List Model → Counts → (b rows : List ℕ) → Asked
InsertAsks ms k b rows c x y =
    (c < length ms) × (x ≡ row ms c rows) × ((p : ℕ) × (p < pivots_in k c) × (y ≡ pivot_row ms (layout_of ms k.capacity) c p b))

-- add pivot asks for the distance of each row held in its channel to the new pivot, which is the row of `slot`
abbrev pub PivotAsks : List Model → Counts → (b : List ℕ) (channel slot : ℕ) → Asked
PivotAsks ms k b channel slot c x y =
    (c ≡ channel) × (y ≡ slot_row ms (layout_of ms k.capacity) channel slot b) × ((i : ℕ) × (i < k.held) × (x ≡ slot_row ms (layout_of ms k.capacity) channel i b))
