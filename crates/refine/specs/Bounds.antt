-- From channels to chains: bounds from pivots, the order in which channels are measured, and bounds aggregated.
use Rattle.std.specs.Prelude.{◌≡◌, ℕ, ◌+◌, ◌-◌, ◌*◌, ◌≤◌, min, Bool, cond, List, [], ◌∷◌, map, count_by, ◌==◌, nat_lt}
use Rattle.std.specs.List.{range_with_len}
use Rattle.metric.specs.Model.{Model, Row}
use Rattle.metric.specs.Distances.{largest, difference}
use Rattle.refine.specs.Orders.{Order}
use Rattle.refine.specs.Chains.{Family}

-- near: the distances from the query to the pivots; far: those from the pivots to the patch, in the same order

-- the greatest amount by which the two distances of a pivot differ, or 0 without pivots
abbrev pub lower_of : (near far : List ℕ) → ℕ
lower_of near far = largest difference near far

-- the least of the metric's greatest distance and the sums of the two distances of a pivot
abbrev pub upper_of : (top : ℕ) (near far : List ℕ) → ℕ
upper_of top [] es = top
upper_of top (d ∷ ds) [] = top
upper_of top (d ∷ ds) (e ∷ es) = min (d + e) (upper_of top ds es)

-- the laws of a metric that the bounds rest on, as `Lawful` of a model has them
abbrev pub Symmetric : Model → Type 0
Symmetric m = (x y : List ℕ) → Row m.width x → Row m.width y → m.dist x y ≡ m.dist y x

abbrev pub Triangle : Model → Type 0
Triangle m = (x y z : List ℕ) → Row m.width x → Row m.width y → Row m.width z → m.dist x z ≤ m.dist x y + m.dist y z

abbrev pub Bounded : Model → Type 0
Bounded m = (x y : List ℕ) → Row m.width x → Row m.width y → m.dist x y ≤ m.top

-- one channel of a patch, for one query
pub record Channel : Type 0 where
  pub weight : ℕ
  pub lower : ℕ
  pub dist : ℕ
  pub upper : ℕ

-- lower and upper bound the distance, and the numbers are such that an aggregate may be asked about them weighted
pub record Bracketed (c : Channel) : Type 0 where
  pub lower : c.lower ≤ c.dist
  pub upper : c.dist ≤ c.upper
  pub small : c.upper ≤ 65535
  pub weight : c.weight ≤ 255

-- how much is unknown of a channel, weighted
abbrev pub gap : Channel → ℕ
gap c = c.weight * (c.upper - c.lower)

-- the channels of a patch by number, from 0
abbrev pub Channels : Type 0
Channels = ℕ → Channel

-- channel i is measured before channel j: the larger gap first, equal gaps by lower number
abbrev pub sooner : Channels → ℕ → ℕ → Bool
sooner cs i j = cond (gap (cs i) == gap (cs j)) (nat_lt i j) (nat_lt (gap (cs j)) (gap (cs i)))

-- the place of channel j in the order of m channels, from 0: how many are measured before it
abbrev pub place : (m : ℕ) → Channels → ℕ → ℕ
place m cs j = count_by (λ i. sooner cs i j) (range_with_len 0 m)

-- the weighted number of channel c when the first t channels of the order are measured: by its distance if it is one of them,
-- by its lower bound otherwise
abbrev pub entry : (m : ℕ) → Channels → (t : ℕ) → ℕ → ℕ
entry m cs t c = (cs c).weight * cond (nat_lt (place m cs c) t) (cs c).dist (cs c).lower

-- the weighted numbers in channel order: after t channels, of the distances, of the upper bounds
abbrev pub entries : (m : ℕ) → Channels → (t : ℕ) → List ℕ
entries m cs t = map (entry m cs t) (range_with_len 0 m)

abbrev pub dists : (m : ℕ) → Channels → List ℕ
dists m cs = map (λ c. (cs c).weight * (cs c).dist) (range_with_len 0 m)

abbrev pub uppers : (m : ℕ) → Channels → List ℕ
uppers m cs = map (λ c. (cs c).weight * (cs c).upper) (range_with_len 0 m)

-- the family of patches with such channels: the bound after t is the aggregate of the entries, the upper bound that of the uppers
abbrev pub chained : {A I : Type 0} → Order I → (A → I) → (aggregate : List ℕ → ℕ) → (m : ℕ) → (A → Channels) → Family A I
chained ids id aggregate m channels = record {
  ids = ids;
  id = id;
  m = m;
  bound = λ a t. aggregate (entries m (channels a) t);
  upper = λ a. aggregate (uppers m (channels a));
}
