-- Worked examples, computed from metrics, pivots and weights up.
use Rattle.std.specs.Prelude.{◌≡◌, ℕ, Bool, true, false, cond, List, [], ◌∷◌, map, length, filter, ◌==◌}
use Rattle.std.proofs.Math.Option.{Option, none, some}
use Rattle.std.specs.List.{AllByRecursion as Every}
use Rattle.metric.specs.Model.{Model}
use Rattle.metric.specs.Distances.{city_block, hamming, circular}
use Rattle.aggregate.specs.Aggregates.{total, greatest, smallest}
use Rattle.patch.specs.Patches.{Patch}
use Rattle.refine.specs.Chains.{admitted}
use Rattle.refine.specs.Scan.{need}
use Rattle.refine.specs.Steps.{State, begin, enough_steps, run}
use Rattle.refine.specs.Questions.{Question, Contents, neighbor, scan, family, refined, Posed}

-- what a search replies: whether it has finished, the patches named with their distances, and how many channels were measured and
-- patches admitted
pub record Reply : Type 0 where
  pub complete : Bool
  pub neighbors : List (ℕ × ℕ)
  pub measured : ℕ
  pub admitted : ℕ

-- the reply at the end of a run, where n patches were admitted
abbrev pub replied : List Model → Question → ℕ → Option (Bool × State Patch) → Option Reply
replied ms q n none = none
replied ms q n (some r) = some (record { complete = r.0; neighbors = map (neighbor ms q) r.1.named; measured = r.1.measured; admitted = n })

-- the step rule, run on a question
abbrev pub searched : List Model → Contents → Question → (budget : ℕ) → Option Reply
searched ms s q budget =
    let f = family ms q s.pivots in
    replied ms q (length (filter (admitted f q.k q.radius s.patches) s.patches))
    (run (refined ms q s.pivots) q.k budget (enough_steps (length s.patches) (length ms)) (begin f q.k q.radius s.patches))

-- a patch of two channels, of width 1 each
abbrev pub patch : ℕ → ℕ → ℕ → Patch
patch n a b = record { accession = n; rows = a ∷ b ∷ [] }

-- the pivots of channel c, where all are in channel 0
abbrev pub in_first : List (List ℕ) → ℕ → List (List ℕ)
in_first ps c = cond (c == 0) ps []

-- some patches, and pivots in channel 0
abbrev pub index : List Patch → List (List ℕ) → Contents
index ps pivots = record { patches = ps; pivots = in_first pivots }

-- three patches
abbrev pub three : List Patch
three = patch 5 10 0x00 ∷ patch 9 20 0x0F ∷ patch 12 40 0x00 ∷ []

-- without pivots, and with the row of patch 12 for a pivot in channel 0
abbrev pub plain : Contents
plain = index three []

abbrev pub pivoted : Contents
pivoted = index three ((40 ∷ []) ∷ [])

-- patch 12 removed, the pivot kept
abbrev pub removed : Contents
removed = index (patch 5 10 0x00 ∷ patch 9 20 0x0F ∷ []) ((40 ∷ []) ∷ [])

-- two patches that equal the query
abbrev pub equals : Contents
equals = index (patch 7 12 0x01 ∷ patch 3 12 0x01 ∷ []) []

-- one more patch, far away
abbrev pub farther : Contents
farther = index (patch 20 200 0x00 ∷ three) ((40 ∷ []) ∷ [])

-- three other pivots: the second bounds patch 12 best from below, and patches 5 and 9 from above
abbrev pub thrice : Contents
thrice = index three ((30 ∷ []) ∷ (16 ∷ []) ∷ (31 ∷ []) ∷ [])

-- two channels of equal gaps, and two patches that tell which is measured first
abbrev pub level : Contents
level = index (patch 5 10 0x00 ∷ patch 9 12 0x32 ∷ []) []

-- city block and Hamming; city block twice
abbrev pub mixed : List Model
mixed = city_block 1 ∷ hamming 1 ∷ []

abbrev pub blocks : List Model
blocks = city_block 1 ∷ city_block 1 ∷ []

-- a question, with the query (12, 01), a weight of 1 for channel 0 and `weight` for channel 1; what it is answered; and the full scan
-- and the need
pub record Line : Type 0 where
  pub models : List Model
  pub contents : Contents
  pub weight : ℕ
  pub aggregate : List ℕ → ℕ
  pub k : ℕ
  pub radius : ℕ
  pub budget : ℕ
  pub reply : Reply
  pub scanned : List (ℕ × ℕ)
  pub need : ℕ

-- its question
abbrev pub asked : Line → Question
asked l = record { rows = 12 ∷ 0x01 ∷ []; weights = 1 ∷ l.weight ∷ []; aggregate = l.aggregate; k = l.k; radius = l.radius }

-- the definitions compute what the line says
abbrev pub Holds : Line → Type 0
Holds l =
    (searched l.models l.contents (asked l) l.budget ≡ some l.reply)
    × (scan l.models (asked l) l.contents.patches ≡ l.scanned)
    × (need (refined l.models (asked l) l.contents.pivots) l.k l.contents.patches ≡ l.need)

-- a line, by its parts in a row
abbrev pub by : List Model → ℕ → Contents → (aggregate : List ℕ → ℕ) → (k radius budget : ℕ) → Bool → List (ℕ × ℕ) → (measured admitted : ℕ) → List (ℕ × ℕ) → (need : ℕ) → Line
by ms w s J k radius budget b ns n a whole needs = record {
  models = ms;
  contents = s;
  weight = w;
  aggregate = J;
  k = k;
  radius = radius;
  budget = budget;
  reply = record { complete = b; neighbors = ns; measured = n; admitted = a };
  scanned = whole;
  need = needs;
}

-- city block and Hamming, weights 1 and 1
abbrev pub line : Contents → (aggregate : List ℕ → ℕ) → (k radius budget : ℕ) → Bool → List (ℕ × ℕ) → (measured admitted : ℕ) → List (ℕ × ℕ) → (need : ℕ) → Line
line = by mixed 1

-- contents, aggregate, k, radius, budget; then finished or stopped, neighbors, measured, admitted; then the full scan and the need
abbrev pub lines : List Line
lines =
    line plain total 1 1000 9 true ((5, 3) ∷ []) 4 3 ((5, 3) ∷ []) 4
    ∷ line pivoted total 1 1000 9 true ((5, 3) ∷ []) 2 3 ((5, 3) ∷ []) 2
    ∷ line removed total 1 1000 9 true ((5, 3) ∷ []) 2 2 ((5, 3) ∷ []) 2
    ∷ line plain total 1 1000 3 false [] 3 3 ((5, 3) ∷ []) 4
    ∷ line pivoted total 2 1000 3 false ((5, 3) ∷ []) 3 3 ((5, 3) ∷ (9, 11) ∷ []) 4
    ∷ line pivoted total 2 1000 4 true ((5, 3) ∷ (9, 11) ∷ []) 4 3 ((5, 3) ∷ (9, 11) ∷ []) 4
    ∷ line pivoted total 3 20 9 true ((5, 3) ∷ (9, 11) ∷ []) 4 2 ((5, 3) ∷ (9, 11) ∷ []) 4
    ∷ line pivoted total 3 10 9 true ((5, 3) ∷ []) 4 2 ((5, 3) ∷ []) 4
    ∷ line pivoted total 3 2 9 true [] 2 1 [] 2
    ∷ line plain greatest 1 1000 9 true ((5, 2) ∷ []) 4 3 ((5, 2) ∷ []) 4
    ∷ line plain smallest 2 1000 9 true ((5, 1) ∷ (12, 1) ∷ []) 6 3 ((5, 1) ∷ (12, 1) ∷ []) 6
    ∷ line equals total 1 1000 9 true ((3, 0) ∷ []) 2 2 ((3, 0) ∷ []) 2
    -- nothing held, and nothing to spend
    ∷ line (index [] []) total 1 1000 0 true [] 0 0 [] 0
    -- a distance at the radius is within it
    ∷ line pivoted total 3 11 9 true ((5, 3) ∷ (9, 11) ∷ []) 4 2 ((5, 3) ∷ (9, 11) ∷ []) 4
    -- the third least upper bound keeps a patch out
    ∷ line farther total 3 1000 9 true ((5, 3) ∷ (9, 11) ∷ (12, 29) ∷ []) 6 3 ((5, 3) ∷ (9, 11) ∷ (12, 29) ∷ []) 6
    -- the greatest of the lower bounds, and the least of the upper bounds, count
    ∷ line thrice total 1 1000 9 true ((5, 3) ∷ []) 2 2 ((5, 3) ∷ []) 2
    -- of equal gaps the lower channel is measured first
    ∷ by blocks 1 level total 1 1000 9 true ((5, 3) ∷ []) 4 2 ((5, 3) ∷ []) 4
    -- a weight of 32 makes the gap of channel 1, 8 * 32, larger than that of channel 0, 255
    ∷ by mixed 32 plain total 1 1000 9 true ((5, 34) ∷ []) 5 3 ((5, 34) ∷ []) 5
    ∷ []

-- the lines, and two distances round the circle
abbrev pub Tabulated : Type 0
Tabulated = Every Holds lines × ((circular 1).dist (250 ∷ []) (4 ∷ []) ≡ 10) × ((circular 1).dist (0 ∷ []) (128 ∷ []) ≡ 128)

-- the premises of the theorems can be met: by a question to three patches, with two channels of the city block metric and a pivot
abbrev pub PremisesMet : Type 0
PremisesMet = Posed blocks pivoted (record { rows = 12 ∷ 0x01 ∷ []; weights = 1 ∷ 1 ∷ []; aggregate = total; k = 1; radius = 1000 })
