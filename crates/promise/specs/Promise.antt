-- What a search promises, in the subject's words.
use Rattle.std.specs.Prelude.{◌≡◌, ℕ, ◌<◌, ◌≤◌, min, Bool, true, ◌⊎◌, List, map, length, take, None, filter}
use mathlib.Core.List.{IsPrefix}
use Rattle.std.specs.List.Sorted.{IsPermutation}
use Rattle.std.specs.List.{ContainsAt as Has}
use Rattle.metric.specs.Model.{Model}
use Rattle.metric.specs.Channels.{AllLawful, Asked}
use Rattle.aggregate.specs.Aggregates.{LawfulAggregate}
use Rattle.patch.specs.Patches.{Patch, row}
use Rattle.refine.specs.Chains.{admitted}
use Rattle.refine.specs.Scan.{need}
use Rattle.refine.specs.Steps.{State, Taken}
use Rattle.refine.specs.Plans.{Plan, cost, Settles}
use Rattle.refine.specs.Bounds.{place}
use Rattle.refine.specs.Theorems.{OneBegins}
use Rattle.refine.specs.Questions.{Question, Contents, neighbor, scan, channels, family, refined, Alike, Same}
use Rattle.refine.specs.Searches.{Search}
use Rattle.index.specs.Calls.{new_refusal}
use Rattle.index.specs.History.{Call, held, pivots, AllFit}
use Rattle.engine.specs.declared.records.Answer.{Answer}
use Rattle.engine.specs.declared.records.Neighbor.{Neighbor}

-- what a history holds: patches, and each channel's pivots in order
abbrev pub contents : List Model → ℕ → List Call → Contents
contents ms cap h = record { patches = held ms cap h; pivots = pivots ms cap h }

-- what a granted search replies: its answer, and the hits that it named
pub record Reply : Type 0 where
  pub complete : Bool
  pub neighbors : List (ℕ × ℕ)
  pub measured : ℕ
  pub admitted : ℕ

abbrev pub reply : Answer → List Neighbor → Reply
reply a hits = record {
  complete = a.complete;
  neighbors = map (λ (n : Neighbor). (n.accession, n.distance)) (take a.named hits);
  measured = a.measured;
  admitted = a.admitted;
}

-- the reply comes of a run of the step rule
pub record ByRule (ms : List Model) (s : Contents) (q : Question) (budget : ℕ) (r : Reply) : Type 0 where
  pub end : State Patch
  pub run : Search ms s q budget r.complete end
  pub neighbors : r.neighbors ≡ map (neighbor ms q) end.named
  pub measured : r.measured ≡ end.measured
  pub admitted : r.admitted ≡ length (filter (admitted (family ms q s.pivots) q.k q.radius s.patches) s.patches)

-- any other index, its metrics and its aggregate lawful too: made by new and worked by any history, it holds the same patches in whatever
-- order and measures alike; its pivots, capacity, greatest distances and budget may differ; r' is its reply to the same question
pub record Other (ms : List Model) (s : Contents) (q : Question) (ms' : List Model) (cap' : ℕ) (b' : List ℕ) (h' : List Call) (q' : Question) (budget' : ℕ) (r' : Reply) : Type 0 where
  pub some : 1 ≤ length ms'
  pub lawful : AllLawful ms'
  pub aggregate : LawfulAggregate q'.aggregate
  pub made : new_refusal ms' cap' b' ≡ None
  pub fit : AllFit h'
  pub alike : Alike ms ms'
  pub patches : IsPermutation s.patches (contents ms' cap' h').patches
  pub same : Same q q'
  pub rule : ByRule ms' (contents ms' cap' h') q' budget' r'

-- the pairs that a search may add in channel c: query row and a pivot row held there, either way round; query row and the row of a patch
-- whose channel c is measured at the end
abbrev pub MayAsk : List Model → Contents → Question → State Patch → Asked
MayAsk ms s q e c x y =
    (c < length ms)
    × (((p : List ℕ) × Has (s.pivots c) p × (((x ≡ row ms c q.rows) × (y ≡ p)) ⊎ ((x ≡ p) × (y ≡ row ms c q.rows))))
    ⊎ ((o : Patch) × Has s.patches o × Taken e o (place (length ms) (channels ms q s.pivots o) c) × (x ≡ row ms c q.rows) × (y ≡ row ms c o.rows)))

pub record Promise (ms : List Model) (s : Contents) (q : Question) (budget : ℕ) (r : Reply) (before after : Asked) : Type 0 where
  -- it names by the step rule
  pub rule : ByRule ms s q budget r
  -- of two replies to one question the shorter list begins the longer, numbers and distances both
  pub agrees : (ms' : List Model) (cap' : ℕ) (b' : List ℕ) (h' : List Call) (q' : Question) (budget' : ℕ) (r' : Reply)
      → Other ms s q ms' cap' b' h' q' budget' r' → OneBegins r.neighbors r'.neighbors
  -- and where the other has finished, its list is this index's full scan too
  pub other : (ms' : List Model) (cap' : ℕ) (b' : List ℕ) (h' : List Call) (q' : Question) (budget' : ℕ) (r' : Reply)
      → Other ms s q ms' cap' b' h' q' budget' r' → r'.complete ≡ true → r'.neighbors ≡ scan ms q s.patches
  -- a finished list is the full scan's, and any list begins it
  pub finished : r.complete ≡ true → r.neighbors ≡ scan ms q s.patches
  pub begins : IsPrefix r.neighbors (scan ms q s.patches)
  -- the count is the lesser of the budget and the need
  pub count : r.measured ≡ min budget (need (refined ms q s.pivots) q.k s.patches)
  -- it is finished exactly when the budget reaches the need
  pub enough : need (refined ms q s.pivots) q.k s.patches ≤ budget → r.complete ≡ true
  pub afforded : r.complete ≡ true → need (refined ms q s.pivots) q.k s.patches ≤ budget
  -- the metrics are asked no more than allowed
  pub asks : (c : ℕ) (x y : List ℕ) → after c x y → before c x y ⊎ MayAsk ms s q rule.end c x y
  -- every plan that settles the finished list measures at least as much
  pub least : (plan : Plan Patch) → Settles (refined ms q s.pivots) q.k s.patches plan → r.measured ≤ cost plan s.patches
