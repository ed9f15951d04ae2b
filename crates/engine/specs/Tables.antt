-- What a search takes its numbers from, by slot and channel, and the chains that they make.
use Rattle.std.specs.Prelude.{ℕ, List, slice_index}
use Rattle.refine.specs.Chains.{Family}
use Rattle.refine.specs.OrderLaws.{numbers}
use Rattle.refine.specs.Bounds.{Channels, chained}

-- the slots 0 to slots - 1 hold a patch each, with its accession number; in each channel its distance to the query is bounded from
-- both sides, and can be measured: that is a question about a pair of rows
pub record Tables : Type 0 where
  pub slots : ℕ
  pub channels : ℕ
  pub number : ℕ → ℕ
  pub lower : ℕ → ℕ → ℕ
  pub upper : ℕ → ℕ → ℕ
  pub dist : ℕ → ℕ → ℕ
  pub left : ℕ → ℕ → List ℕ
  pub right : ℕ → ℕ → List ℕ

-- the channels of a slot's patch
abbrev pub channels_of : Tables → (weights : List ℕ) → ℕ → Channels
channels_of t weights i c = record { weight = slice_index weights c; lower = t.lower i c; dist = t.dist i c; upper = t.upper i c }

-- the chains of the slots
abbrev pub slot_family : Tables → (weights : List ℕ) → (aggregate : List ℕ → ℕ) → Family ℕ ℕ
slot_family t weights aggregate = chained numbers t.number aggregate t.channels (channels_of t weights)
