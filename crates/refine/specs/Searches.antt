-- The theorems over channels, and over questions to an index.
use Rattle.std.specs.Prelude.{◌≡◌, ℕ, suc, ◌*◌, ◌<◌, ◌≤◌, Bool, true, List, map, ◌≢◌, slice_set}
use mathlib.Core.List.{IsPrefix}
use Rattle.std.specs.List.Sorted.{IsPermutation}
use Rattle.std.specs.List.{AllByRecursion as Every}
use Rattle.metric.specs.Model.{Model, Row}
use Rattle.aggregate.specs.Aggregates.{LawfulAggregate}
use Rattle.patch.specs.Patches.{Patch}
use Rattle.refine.specs.Orders.{Order}
use Rattle.refine.specs.Chains.{EachTwo, LawfulFamily, distance}
use Rattle.refine.specs.Scan.{finished}
use Rattle.refine.specs.Steps.{State, begin, Runs}
use Rattle.refine.specs.Plans.{Plan, cost, Settles}
use Rattle.refine.specs.Theorems.{Outcome, OneBegins}
use Rattle.refine.specs.Bounds.{lower_of, upper_of, Symmetric, Triangle, Bounded, Channels, Bracketed, place, entries, dists, chained}
use Rattle.refine.specs.Questions.{Question, Contents, distance_to, neighbor, scan, family, refined, Posed, Alike, Same}

-- the distance lies between its bounds, whatever the pivots: this, and nothing else, uses symmetry, the triangle
-- inequality and the greatest distance of a metric
abbrev pub BetweenBounds : Type 0
BetweenBounds = (m : Model) → Symmetric m → Triangle m → Bounded m
    → (q o : List ℕ) → Row m.width q → Row m.width o → (ps : List (List ℕ)) → Every (Row m.width) ps
    → let near = map (λ p. m.dist q p) ps in let far = map (λ p. m.dist p o) ps in
    (lower_of near far ≤ m.dist q o) × (m.dist q o ≤ upper_of m.top near far)

-- each place in a channel order belongs to exactly one channel
abbrev pub OnePlace : Type 0
OnePlace = (m : ℕ) (cs : Channels) (t : ℕ) → t < m
    → (c : ℕ) × (c < m) × (place m cs c ≡ t) × ((d : ℕ) → d < m → place m cs d ≡ t → d ≡ c)

-- to measure the channel of place t writes its weighted distance, and nothing else
abbrev pub OneEntry : Type 0
OneEntry = (m : ℕ) (cs : Channels) (t c : ℕ) → c < m → place m cs c ≡ t
    → entries m cs (suc t) ≡ slice_set (entries m cs t) c ((cs c).weight * (cs c).dist)

-- chains from channels whose distances lie between their bounds rise, end in the aggregated distance, and the upper bound is above it
abbrev pub ChannelsToChains : (A I : Type 0) → Type 0
ChannelsToChains A I = (ids : Order I) (id : A → I) (aggregate : List ℕ → ℕ) (m : ℕ) (channels : A → Channels) (l : List A)
    → LawfulAggregate aggregate → 1 ≤ m → m ≤ 8
    → Every (λ a. (c : ℕ) → c < m → Bracketed (channels a c)) l → EachTwo (λ a b. id a ≢ id b) l
    → let f = chained ids id aggregate m channels in
    LawfulFamily f l × Every (λ a. distance f a ≡ aggregate (dists m (channels a))) l

-- what a question makes of an index
pub record Refinable (ms : List Model) (s : Contents) (q : Question) : Type 0 where
  -- its chains are lawful, so that all of the above applies
  pub lawful : LawfulFamily (family ms q s.pivots) s.patches
  -- they end in the aggregated distances
  pub distances : Every (λ o. distance (family ms q s.pivots) o ≡ distance_to ms q o) s.patches
  -- and their finished list is the full scan, which knows no pivots
  pub scans : map (neighbor ms q) (finished (refined ms q s.pivots) q.k s.patches) ≡ scan ms q s.patches

-- what is posed is refinable
abbrev pub PosedRefinable : Type 0
PosedRefinable = (ms : List Model) (s : Contents) (q : Question) → Posed ms s q → Refinable ms s q

-- the full scan depends neither on the order of the patches nor on the metrics' greatest distances
abbrev pub ScanIsOne : Type 0
ScanIsOne = (ms ms' : List Model) (s : Contents) (q q' : Question) → Posed ms s q → Alike ms ms' → Same q q'
    → (l' : List Patch) → IsPermutation s.patches l' → scan ms q s.patches ≡ scan ms' q' l'

-- how a search of an index ends, in its own terms
pub record Answered (ms : List Model) (s : Contents) (q : Question) (budget : ℕ) (complete : Bool) (e : State Patch) : Type 0 where
  -- as every run does, with the need of its chains
  pub outcome : Outcome (refined ms q s.pivots) q.k budget s.patches complete e
  -- its answer is a beginning of the full scan, and if it has finished, the whole
  pub begins : IsPrefix (map (neighbor ms q) e.named) (scan ms q s.patches)
  pub whole : complete ≡ true → map (neighbor ms q) e.named ≡ scan ms q s.patches
  -- every plan that settles the finished list counts at least as much
  pub least : (plan : Plan Patch) → Settles (refined ms q s.pivots) q.k s.patches plan → e.measured ≤ cost plan s.patches

-- a run of the step rule on the tables of a question
abbrev pub Search : List Model → Contents → Question → (budget : ℕ) → Bool → State Patch → Type 0
Search ms s q budget b e = Runs (refined ms q s.pivots) q.k budget (begin (family ms q s.pivots) q.k q.radius s.patches) b e

-- every search ends so
abbrev pub SearchesEnd : Type 0
SearchesEnd = (ms : List Model) (s : Contents) (q : Question) (budget : ℕ) → Posed ms s q
    → (b : Bool) (e : State Patch) → Search ms s q budget b e → Answered ms s q budget b e

-- two indexes of the same patches, whatever their pivots, budgets and order: the shorter answer begins the longer
abbrev pub SearchesAgree : Type 0
SearchesAgree = (ms ms' : List Model) (s s' : Contents) (q q' : Question) (budget budget' : ℕ) → Posed ms s q → Posed ms' s' q'
    → Alike ms ms' → Same q q' → IsPermutation s.patches s'.patches
    → (b b' : Bool) (e e' : State Patch) → Search ms s q budget b e → Search ms' s' q' budget' b' e'
    → OneBegins (map (neighbor ms q) e.named) (map (neighbor ms' q') e'.named)
