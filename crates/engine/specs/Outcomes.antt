-- How a search over tables ends.
use Rattle.std.specs.Prelude.{◌≡◌, ℕ, ◌<◌, ◌≤◌, min, ◌⊎◌, List, ◌++◌, map, length, drop, filter}
use Rattle.std.specs.List.{range_with_len}
use Rattle.metric.specs.Channels.{Asked}
use Rattle.refine.specs.Chains.{Family, distance, table, admitted}
use Rattle.refine.specs.Steps.{State, begin, Runs, Taken}
use Rattle.refine.specs.Bounds.{place}
use Rattle.engine.specs.declared.records.Neighbor.{Neighbor}
use Rattle.engine.specs.declared.records.Answer.{Answer}
use Rattle.engine.specs.declared.records.Question as code
use Rattle.engine.specs.Tables.{Tables, channels_of, slot_family}

-- what a search is asked, besides the tables
pub record Question : Type 0 where
  pub weights : List ℕ
  pub aggregate : List ℕ → ℕ
  pub k : ℕ
  pub radius : ℕ
  pub budget : ℕ

abbrev pub asking : (weights : List ℕ) → (aggregate : List ℕ → ℕ) → (k radius budget : ℕ) → Question
asking weights aggregate k radius budget = record { weights = weights; aggregate = aggregate; k = k; radius = radius; budget = budget }

-- what the code asks, by what its aggregate means
abbrev pub posed : {A : Type 0} → (A → List ℕ → ℕ) → code.Question A → Question
posed meaning q = asking q.weights.now (meaning q.aggregate.now) q.k q.radius q.budget

-- the slots in use
abbrev pub slots_of : Tables → List ℕ
slots_of t = range_with_len 0 t.slots

abbrev pub family_of : Tables → Question → Family ℕ ℕ
family_of t q = slot_family t q.weights q.aggregate

-- a slot's patch as a hit
abbrev pub hit : Tables → Question → ℕ → Neighbor
hit t q i = record { accession = t.number i; distance = distance (family_of t q) i }

-- the pairs of rows that may be asked about in channel c: those of a slot whose channel c is measured at the end e
abbrev pub Measured : Tables → Question → State ℕ → Asked
Measured t q e c x y =
    (i : ℕ) × (i < t.slots) × (c < t.channels) × Taken e i (place t.channels (channels_of t q.weights i) c) × (x ≡ t.left i c) × (y ≡ t.right i c)

-- the answer a, the hits left and the questions asked come of a run of the step rule over the slots
pub record Ran (t : Tables) (q : Question) (a : Answer) (found found' : List Neighbor) (asked asked' : Asked) : Type 0 where
  pub end : State ℕ
  pub run : Runs (table (family_of t q) q.radius) q.k q.budget (begin (family_of t q) q.k q.radius (slots_of t)) a.complete end
  pub named : a.named ≡ length end.named
  pub measured : a.measured ≡ end.measured
  pub admitted : a.admitted ≡ length (filter (admitted (family_of t q) q.k q.radius (slots_of t)) (slots_of t))
  pub hits : found' ≡ map (hit t q) end.named ++ drop a.named found
  pub asks : (c : ℕ) (x y : List ℕ) → asked' c x y → asked c x y ⊎ Measured t q end c x y

-- what a search needs: weights for 1 to 8 channels, few slots, room for hits and scratch
pub record Ready (t : Tables) (weights : List ℕ) (k n-hits n-candidates n-uppers : ℕ) : Type 0 where
  pub some : 1 ≤ t.channels
  pub few : t.channels ≤ 8
  pub weighted : length weights ≡ t.channels
  pub slots : t.slots ≤ 4096
  pub wanted : 1 ≤ k
  pub hits : min k t.slots ≤ n-hits
  pub candidates : t.slots ≤ n-candidates
  pub uppers : t.slots ≤ n-uppers
