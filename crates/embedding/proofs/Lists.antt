-- Lists of records, and what a search leaves of its hits.
use Rattle.std.proofs.Common.{◌≡◌, ℕ, zero, suc, ◌≤◌, List, [], ◌∷◌, length, get_or, set, replicate, IfOk, Ok, Err, Result, ap, arith, length-append, length-drop}
use lib.ListN.{length-map}
use Rattle.metric.specs.Channels.{Asked}
use Rattle.refusal.specs.declared.Refusal.{Refusal}
use Rattle.index.specs.declared.counts.ChannelRecord.{ChannelRecord}
use Rattle.index.specs.Limits.{no_record}
use Rattle.engine.specs.declared.records.Answer.{Answer}
use Rattle.engine.specs.declared.records.Neighbor.{Neighbor}
use Rattle.engine.specs.Tables.{Tables}
use Rattle.engine.specs.Outcomes.{Question, Ran}
use Rattle.search.specs.Refusals.{Granted}

pub none_many : (n k : ℕ) → (get_or (replicate n no_record) k no_record).pivots ≤ 8
none_many zero k = omega arith
none_many (suc n) zero = omega arith
none_many (suc n) (suc k) = none_many n k

pub set_many : (xs : List ChannelRecord) (i k : ℕ) (v : ChannelRecord) → v.pivots ≤ 8 → ((j : ℕ) → (get_or xs j no_record).pivots ≤ 8) → (get_or (set xs i v) k no_record).pivots ≤ 8
set_many [] i k v h f = f k
set_many (x ∷ xs) zero zero v h f = h
set_many (x ∷ xs) zero (suc k) v h f = f (suc k)
set_many (x ∷ xs) (suc i) zero v h f = f zero
set_many (x ∷ xs) (suc i) (suc k) v h f = set_many xs i k v h (λ j. f (suc j))

-- a search names no more than there is room for
pub named_few : (t : Tables) (q : Question) (a : Answer) (old new : List Neighbor) (x y : Asked) → Ran t q a old new x y → length new ≡ length old → a.named ≤ length old
named_few t q a old new x y r e =
    let n = simp (length-append, length-drop, length-map) at (ap length r.hits) in
    omega (arith, r.named)

pub granted : (r : Result Answer Refusal) (P Q : Answer → Type 0) → Granted r P → ((a : Answer) → P a → Q a) → IfOk r Q
granted (Ok a) P Q h f = f a h
granted (Err e) P Q h f = tt
