-- The numbers of a slot as the code holds them.
use Rattle.std.specs.Prelude.{◌≡◌, ℕ, ◌*◌, ◌<◌, ◌≤◌, List, length, slice_index}
use Rattle.refine.specs.Bounds.{entry}
use Rattle.engine.specs.declared.records.Candidate.{Candidate}
use Rattle.engine.specs.Tables.{Tables, channels_of, slot_family}
use Rattle.engine.specs.Order.{InOrder}

-- a slot's weighted bounds in channel c
abbrev pub weighted_lower : Tables → (weights : List ℕ) → (slot c : ℕ) → ℕ
weighted_lower t weights i c = slice_index weights c * t.lower i c

abbrev pub weighted_upper : Tables → (weights : List ℕ) → (slot c : ℕ) → ℕ
weighted_upper t weights i c = slice_index weights c * t.upper i c

-- the first m entries are those of f, and are such that an aggregate may be asked about them
abbrev pub Filled : (ℕ → ℕ) → ℕ → List ℕ → Type 0
Filled f m xs = (c : ℕ) → c < m → (slice_index xs c ≡ f c) × (slice_index xs c ≤ 16711425)

-- a weight for each of 1 to 8 channels
pub record Weighable (t : Tables) (weights : List ℕ) : Type 0 where
  pub some : 1 ≤ t.channels
  pub few : t.channels ≤ 8
  pub weighted : length weights ≡ t.channels

-- a candidate has the accession number of its slot, its channels in order, and the entries of as many channels as it says
pub record Sound (t : Tables) (weights : List ℕ) (x : Candidate) : Type 0 where
  pub slot : x.slot < t.slots
  pub number : x.accession ≡ t.number x.slot
  pub within : x.measured ≤ t.channels
  pub order : InOrder t.channels (channels_of t weights x.slot) x.order
  pub entries : Filled (entry t.channels (channels_of t weights x.slot) x.measured) t.channels x.entries
  pub order_long : length x.order ≡ 8
  pub entries_long : length x.entries ≡ 8

-- and its bound is that of the chain
pub record Coherent (t : Tables) (weights : List ℕ) (aggregate : List ℕ → ℕ) (x : Candidate) : Type 0 where
  pub sound : Sound t weights x
  pub bound : x.bound ≡ (slot_family t weights aggregate).bound x.slot x.measured

-- a candidate for slot i with the bound b, of which nothing is measured
pub record Unmeasured (t : Tables) (weights : List ℕ) (i b : ℕ) (x : Candidate) : Type 0 where
  pub sound : Sound t weights x
  pub slot : x.slot ≡ i
  pub bound : x.bound ≡ b
  pub measured : x.measured ≡ 0
