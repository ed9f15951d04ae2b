-- Patches: rows joined in channel order, and the weighted distances between two of them.
use Rattle.std.specs.Prelude.{◌≡◌, ℕ, ◌*◌, ◌<◌, ◌⊎◌, List, map, length, take, drop, sum_by, slice_index}
use Rattle.std.specs.List.{range_with_len}
use Rattle.metric.specs.Model.{Model}
use Rattle.metric.specs.Channels.{Asked, at}

-- an accession number, and one row for each channel, joined in channel order
pub record Patch : Type 0 where
  pub accession : ℕ
  pub rows : List ℕ

-- the channels in use: the first eight
abbrev pub few : List Model → List Model
few ms = take 8 ms

abbrev pub width_of : Model → ℕ
width_of m = m.width

-- how many bytes a patch has
abbrev pub patch_width : List Model → ℕ
patch_width ms = sum_by width_of ms

-- where the row of channel c begins
abbrev pub offset : List Model → ℕ → ℕ
offset ms c = sum_by width_of (take c ms)

-- the row of channel c
abbrev pub row : List Model → ℕ → List ℕ → List ℕ
row ms c rows = take (at ms c).width (drop (offset ms c) rows)

-- the distance of q and o in channel c
abbrev pub distance_in : List Model → (q o : List ℕ) → ℕ → ℕ
distance_in ms q o c = (at ms c).dist (row ms c q) (row ms c o)

abbrev pub weighted : List Model → (weights q o : List ℕ) → ℕ → ℕ
weighted ms weights q o c = slice_index weights c * distance_in ms q o c

-- the weighted distances in channel order
abbrev pub all_weighted : List Model → (weights q o : List ℕ) → List ℕ
all_weighted ms weights q o = map (weighted ms weights q o) (range_with_len 0 (length ms))

-- a pair recorded after was recorded before, or is the pair of the rows of q and o in one of the first n channels
abbrev pub AddsRows : (before after : Asked) (ms : List Model) (n : ℕ) (q o : List ℕ) → Type 0
AddsRows before after ms n q o = (k : ℕ) (x y : List ℕ) → after k x y → before k x y ⊎ ((k < n) × (x ≡ row ms k q) × (y ≡ row ms k o))
