-- Where the parts of the store lie: accession numbers, rows, pivot rows, distances to pivots.
use Rattle.std.specs.Prelude.{◌≡◌, ℕ, ◌+◌, ◌*◌, ◌≤◌, List, length}
use Rattle.metric.specs.Model.{Model}
use Rattle.patch.specs.Patches.{patch_width}
use Rattle.index.specs.declared.layout.Layout.{Layout}

-- the layout of a store for the channels ms and a capacity
abbrev pub layout_of : List Model → ℕ → Layout
layout_of ms cap = record {
  channels = length ms;
  capacity = cap;
  row = patch_width ms;
  rows = 2 * cap;
  pivots = 2 * cap + cap * patch_width ms;
  distances = 2 * cap + cap * patch_width ms + 8 * patch_width ms;
  size = cap * (2 + patch_width ms + 16 * length ms) + 8 * patch_width ms;
}

-- the accession number of a slot has two bytes here
abbrev pub number_at : ℕ → ℕ
number_at slot = 2 * slot

-- the rows of a slot
abbrev pub row_at : Layout → ℕ → ℕ
row_at l slot = l.rows + slot * l.row

-- the row of pivot p in a channel that begins at `before` and has `width` bytes
abbrev pub pivot_at : Layout → (before width p : ℕ) → ℕ
pivot_at l before width p = l.pivots + 8 * before + p * width

-- the distance of a slot's row in channel c to pivot p has two bytes here
abbrev pub distance_at : Layout → (slot c p : ℕ) → ℕ
distance_at l slot c p = l.distances + (slot * l.channels + c) * 16 + 2 * p

-- a layout that is sound by itself
pub record Sound (l : Layout) : Type 0 where
  pub rows : l.rows ≡ 2 * l.capacity
  pub pivots : l.pivots ≡ l.rows + l.capacity * l.row
  pub distances : l.distances ≡ l.pivots + 8 * l.row
  pub size : l.size ≡ l.distances + (l.capacity * l.channels) * 16
  pub capacity_few : l.capacity ≤ 4096
  pub row_few : l.row ≤ 2048
  pub channels_few : l.channels ≤ 8
  pub channels_some : 1 ≤ l.channels
