-- What a search reads of an index: the tables that the bytes of its store give for a query, whoever wrote them.
use Rattle.std.specs.Prelude.{◌≡◌, ℕ, ◌<◌, List, map, length}
use Rattle.std.specs.List.{range_with_len}
use Rattle.metric.specs.Model.{Model}
use Rattle.metric.specs.Channels.{Asked, at}
use Rattle.patch.specs.Patches.{row}
use Rattle.refine.specs.Bounds.{lower_of, upper_of}
use Rattle.index.specs.declared.counts.Counts.{Counts}
use Rattle.index.specs.Bytes.{get16}
use Rattle.index.specs.Layouts.{layout_of, number_at, distance_at}
use Rattle.index.specs.Limits.{pivots_in}
use Rattle.index.specs.Steps.{slot_row, pivot_row}
use Rattle.engine.specs.Tables.{Tables}

module _ (ms : List Model) (k : Counts) (b q : List ℕ) where
  -- the distances from the query to the pivots of channel c
  abbrev pub near : ℕ → List ℕ
  near c = map (λ p. (at ms c).dist (row ms c q) (pivot_row ms (layout_of ms k.capacity) c p b)) (range_with_len 0 (pivots_in k c))

  -- the stored distances of slot i to them
  abbrev pub far : (i c : ℕ) → List ℕ
  far i c = map (λ p. get16 (distance_at (layout_of ms k.capacity) i c p) b) (range_with_len 0 (pivots_in k c))

  abbrev pub held_tables : Tables
  held_tables = record {
    slots = k.held;
    channels = length ms;
    number = λ i. get16 (number_at i) b;
    lower = λ i c. lower_of (near c) (far i c);
    upper = λ i c. upper_of (at ms c).top (near c) (far i c);
    dist = λ i c. (at ms c).dist (row ms c q) (slot_row ms (layout_of ms k.capacity) c i b);
    left = λ i c. row ms c q;
    right = λ i c. slot_row ms (layout_of ms k.capacity) c i b;
  }

  -- the pairs that a search asks about before its first step: in each channel the query's row and each pivot held
  abbrev pub NearAsks : Asked
  NearAsks c x y =
      (c < length ms) × (x ≡ row ms c q) × ((p : ℕ) × (p < pivots_in k c) × (y ≡ pivot_row ms (layout_of ms k.capacity) c p b))
