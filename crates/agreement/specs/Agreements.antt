-- When two indexes that are asked the same question agree.
use Rattle.std.specs.Prelude.{◌≡◌, ℕ, true, List, Ok, Err, Result}
use Rattle.std.specs.List.Sorted.{IsPermutation}
use Rattle.metric.specs.Model.{Model}
use Rattle.refusal.specs.declared.Refusal.{Refusal}
use Rattle.refine.specs.Questions.{Question, Alike}
use Rattle.refine.specs.Theorems.{OneBegins}
use Rattle.index.specs.declared.counts.Counts.{Counts}
use Rattle.index.specs.History.{Call, Holds, held}
use Rattle.engine.specs.declared.records.Answer.{Answer}
use Rattle.engine.specs.declared.records.Neighbor.{Neighbor}
use Rattle.promise.specs.Promise.{Reply, reply}

-- an index as a question finds it: its metrics, its counts and its store
pub record Found : Type 0 where
  pub models : List Model
  pub counts : Counts
  pub store : List ℕ

abbrev pub found : List Model → Counts → List ℕ → Found
found ms n b = record { models = ms; counts = n; store = b }

-- P of both answers, where both are granted
abbrev pub BothGranted : Result Answer Refusal → Result Answer Refusal → (Answer → Answer → Type 0) → Type 0
BothGranted (Ok a) (Ok a') P = P a a'
BothGranted (Ok a) (Err e) P = Unit {0}
BothGranted (Err e) r P = Unit {0}

-- two replies to a question: the shorter list begins the longer; what a finished one names is the full scan over the patches
pub record Agreed (ms : List Model) (q : Question) (r r' : Reply) : Type 0 where
  pub begins : OneBegins r.neighbors r'.neighbors
  pub both : r.complete ≡ true → r'.complete ≡ true → r.neighbors ≡ r'.neighbors

-- whatever histories have led to two indexes: if they measure alike and hold the same patches, in whatever order and with whatever pivots,
-- their replies agree
abbrev pub Agree : (x y : Found) → Question → Result Answer Refusal → Result Answer Refusal → (hits hits' : List Neighbor) → Type 0
Agree x y q r r' hits hits' =
    (cap cap' : ℕ) (b b' : List ℕ) (h h' : List Call)
    → Holds x.models x.counts x.store cap b h → Holds y.models y.counts y.store cap' b' h'
    → Alike x.models y.models → IsPermutation (held x.models cap h) (held y.models cap' h')
    → BothGranted r r' (λ a a'. Agreed x.models q (reply a hits) (reply a' hits'))
