-- What the search call promises: over any bytes, and after any history.
use Rattle.std.specs.Prelude.{ℕ, ◌⊎◌, List, Result}
use Rattle.metric.specs.Model.{Model}
use Rattle.metric.specs.Channels.{Asked}
use Rattle.refusal.specs.declared.Refusal.{Refusal}
use Rattle.refine.specs.Questions.{Question}
use Rattle.index.specs.declared.counts.Counts.{Counts}
use Rattle.index.specs.History.{Call, Holds}
use Rattle.engine.specs.declared.records.Answer.{Answer}
use Rattle.engine.specs.declared.records.Neighbor.{Neighbor}
use Rattle.engine.specs.Outcomes.{asking, Ran}
use Rattle.promise.specs.Held.{held_tables, NearAsks}
use Rattle.promise.specs.Promise.{Promise, contents, reply}
use Rattle.search.specs.Refusals.{Granted}

abbrev pub question : (rows weights : List ℕ) (aggregate : List ℕ → ℕ) (k radius : ℕ) → Question
question rows weights aggregate k radius = record { rows = rows; weights = weights; aggregate = aggregate; k = k; radius = radius }

-- the pairs of either record
abbrev pub either : Asked → Asked → Asked
either s t c x y = s c x y ⊎ t c x y

-- over any bytes b: the answer, the hits and what was asked come of a run of the step rule over the tables that the bytes give; besides what
-- is measured, the distances from the query to the pivots are asked for
abbrev pub Searched : List Model → Counts → (b : List ℕ) → Question → (budget : ℕ) → Answer → (hits hits' : List Neighbor) → (before after : Asked) → Type 0
Searched ms n b q budget a hits hits' before after =
    Ran (held_tables ms n b q.rows) (asking q.weights q.aggregate q.k q.radius budget) a hits hits' (either before (NearAsks ms n b q.rows)) after

-- whatever history has led to the counts n and the store b, the promise is kept of a granted search
abbrev pub Promised : List Model → Counts → (b : List ℕ) → Question → (budget : ℕ) → Result Answer Refusal → (hits' : List Neighbor) → (before after : Asked) → Type 0
Promised ms n b q budget r hits' before after =
    (cap : ℕ) (b₀ : List ℕ) (h : List Call) → Holds ms n b cap b₀ h → Granted r (λ a. Promise ms (contents ms cap h) q budget (reply a hits') before after)
