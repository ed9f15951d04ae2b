-- What a question makes of the patches and pivots of an index: distances, the full scan, and the chains to refine.
use Rattle.std.specs.Prelude.{◌≡◌, ℕ, ◌<◌, ◌≤◌, Bool, List, map, length, take, filter, ◌≢◌, nat_le, slice_index}
use Rattle.std.specs.List.{AllByRecursion as Every}
use Rattle.metric.specs.Model.{Model, Row}
use Rattle.metric.specs.Channels.{at, AllLawful}
use Rattle.aggregate.specs.Aggregates.{Entries, LawfulAggregate}
use Rattle.patch.specs.Patches.{Patch, patch_width, row, distance_in, all_weighted}
use Rattle.refine.specs.Orders.{number_first, sorted_by}
use Rattle.refine.specs.OrderLaws.{numbers}
use Rattle.refine.specs.Chains.{Family, Table, EachTwo, table}
use Rattle.refine.specs.Bounds.{Channels, lower_of, upper_of, chained}

-- the query's rows, one after another in channel order; a weight for each channel; how to aggregate; how many patches are wanted,
-- and how far away at most
pub record Question : Type 0 where
  pub rows : List ℕ
  pub weights : List ℕ
  pub aggregate : List ℕ → ℕ
  pub k : ℕ
  pub radius : ℕ

-- the patches held, and the pivots of each channel in order
pub record Contents : Type 0 where
  pub patches : List Patch
  pub pivots : ℕ → List (List ℕ)

module _ (ms : List Model) (q : Question) where
  -- the aggregated distance
  abbrev pub distance_to : Patch → ℕ
  distance_to o = q.aggregate (all_weighted ms q.weights q.rows o.rows)

  -- a patch as an answer gives it
  abbrev pub neighbor : Patch → ℕ × ℕ
  neighbor o = (o.accession, distance_to o)

  -- the lesser distance first, equal distances by lower accession number
  abbrev pub nearer : Patch → Patch → Bool
  nearer o p = number_first nat_le (distance_to o, o.accession) (distance_to p, p.accession)

  -- the full scan, over distances alone: the first k within the radius, nearest first
  abbrev pub scan : List Patch → List (ℕ × ℕ)
  scan l = map neighbor (take q.k (filter (λ o. nat_le (distance_to o) q.radius) (sorted_by nearer l)))

  module _ (pivots : ℕ → List (List ℕ)) where
    -- in channel c, the distances from the query to the pivots, and from the pivots to a patch
    abbrev pub near : ℕ → List ℕ
    near c = map (λ p. (at ms c).dist (row ms c q.rows) p) (pivots c)

    abbrev pub far : ℕ → Patch → List ℕ
    far c o = map (λ p. (at ms c).dist p (row ms c o.rows)) (pivots c)

    -- the channels of a patch: distances are those of the patch, bounds come from the pivots
    abbrev pub channels : Patch → Channels
    channels o c = record {
      weight = slice_index q.weights c;
      lower = lower_of (near c) (far c o);
      dist = distance_in ms q.rows o.rows c;
      upper = upper_of (at ms c).top (near c) (far c o);
    }

    -- the chains, and the table of their keys
    abbrev pub family : Family Patch ℕ
    family = chained numbers (λ (o : Patch). o.accession) q.aggregate (length ms) channels

    abbrev pub refined : Table Patch (ℕ × ℕ)
    refined = table family q.radius

-- the question fits the channels
pub record Fits (ms : List Model) (q : Question) : Type 0 where
  pub rows : Row (patch_width ms) q.rows
  pub weights : length q.weights ≡ length ms
  pub small : (c : ℕ) → slice_index q.weights c < 256
  pub some : 1 ≤ q.k

-- patches and pivots are rows, and no accession number stands twice
pub record Sound (ms : List Model) (s : Contents) : Type 0 where
  pub patches : Every (λ (o : Patch). Row (patch_width ms) o.rows) s.patches
  pub distinct : EachTwo (λ (o p : Patch). o.accession ≢ p.accession) s.patches
  pub pivots : (c : ℕ) → c < length ms → Every (Row (at ms c).width) (s.pivots c)

-- one to eight lawful metrics, a lawful aggregate, a question that fits, sound contents
pub record Posed (ms : List Model) (s : Contents) (q : Question) : Type 0 where
  pub some : 1 ≤ length ms
  pub few : length ms ≤ 8
  pub metrics : AllLawful ms
  pub aggregate : LawfulAggregate q.aggregate
  pub fits : Fits ms q
  pub sound : Sound ms s

-- two lists of metrics are as many, as wide, and measure alike; their greatest distances may differ
pub record Alike (ms ms' : List Model) : Type 0 where
  pub count : length ms ≡ length ms'
  pub widths : (c : ℕ) → c < length ms → (at ms c).width ≡ (at ms' c).width
  pub distances : (c : ℕ) → c < length ms → (x y : List ℕ) → Row (at ms c).width x → Row (at ms c).width y → (at ms c).dist x y ≡ (at ms' c).dist x y

-- the same question, its aggregate by what it gives
pub record Same (q q' : Question) : Type 0 where
  pub rows : q.rows ≡ q'.rows
  pub weights : q.weights ≡ q'.weights
  pub aggregate : (xs : List ℕ) → Entries xs → q.aggregate xs ≡ q'.aggregate xs
  pub k : q.k ≡ q'.k
  pub radius : q.radius ≡ q'.radius
