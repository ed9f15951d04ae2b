-- What a search comes to.
use Rattle.std.proofs.Common.{◌≡◌, ℕ, ◌≤◌, List, map, length, drop, Ok, Err, Result, ap, ◌∙◌, arith, length-append, le-ltb}
use Rattle.std.proofs.lemmas.List.{length-map}
use Rattle.metric.specs.Model.{Model}
use Rattle.metric.specs.Channels.{Asked}
use Rattle.aggregate.specs.Choices.{chosen, number as choice_number}
use Rattle.aggregate.specs.declared.Choice.{Choice}
use Rattle.aggregate.specs.declared.Choice.TheVariants.{Sum, Max, Min}
use Rattle.refusal.specs.declared.Refusal.{Refusal}
use Rattle.index.specs.declared.counts.Counts.{Counts}
use Rattle.index.specs.History.{Written}
use Rattle.refine.specs.Questions.{Question}
use Rattle.engine.specs.declared.records.Answer.{Answer}
use Rattle.engine.specs.declared.records.Neighbor.{Neighbor}
use Rattle.engine.specs.Outcomes.{asking, hit}
use Rattle.promise.specs.Held.{held_tables}
use Rattle.search.specs.Refusals.{handed, search_refusal, refused, Granted}
use Rattle.search.specs.Promised.{question, Searched}
use Rattle.search_console.specs.Sessions.{Room, nearest_refusal, unfollowed, Found, Replies}

-- the same search, with what the metrics are asked not followed
unfollow : (ms : List Model) (n : Counts) (b : List ℕ) (q : Question) (budget : ℕ) (a : Answer) (hits hits' : List Neighbor) (before after : Asked)
    → Searched ms n b q budget a hits hits' before after → Searched ms n b q budget a hits hits' unfollowed unfollowed
unfollow ms n b q budget a hits hits' before after s = record {
  end = s.end;
  run = s.run;
  named = s.named;
  measured = s.measured;
  admitted = s.admitted;
  hits = s.hits;
  asks = λ c x y z. absurd z;
}

known : (c : Choice) (g : ℕ) → choice_number c ≡ g → g ≤ 2
known Sum g e = omega arith
known Max g e = omega arith
known Min g e = omega arith

module _ (ms : List Model) (room : Room) (w : Written) (g : ℕ) (ws : List ℕ) (k radius budget : ℕ) (rows : List ℕ) where
  -- the aggregate is known, so the search's own checks decide
  pub checked : (c : Choice) → choice_number c ≡ g
      → search_refusal ms w.counts w.bytes k (handed (length rows) (length ws) room.hits room.candidates room.uppers) ≡ nearest_refusal ms room w g ws k rows
  checked c e = rw (le-ltb 2 g (known c g e))

  found : (c : Choice) → choice_number c ≡ g → (r : Result Answer Refusal) (hits hits' : List Neighbor) (before after : Asked)
      → Granted r (λ a. Searched ms w.counts w.bytes (question rows ws (chosen c) k radius) budget a hits hits' before after)
      → Granted r (λ a. Found ms w g ws k radius budget rows a hits hits')
  found c e (Ok a) hits hits' before after s = record { aggregate = c; by_number = e; searched = unfollow _ _ _ _ _ _ _ _ _ _ s }
  found c e (Err x) hits hits' before after s = tt

  pub replied : (c : Choice) → choice_number c ≡ g → (r : Result Answer Refusal) (hits hits' : List Neighbor) (before after : Asked)
      → refused r ≡ search_refusal ms w.counts w.bytes k (handed (length rows) (length ws) room.hits room.candidates room.uppers)
      → Granted r (λ a. Searched ms w.counts w.bytes (question rows ws (chosen c) k radius) budget a hits hits' before after)
      → Replies ms room w g ws k radius budget rows r hits hits'
  replied c e r hits hits' before after n s = record { refuses = n ∙ checked c e; grants = found c e r hits hits' before after s }

-- the hits named are among those in the list
pub named_within : (ms : List Model) (n : Counts) (b : List ℕ) (q : Question) (budget : ℕ) (r : Result Answer Refusal) (hits hits' : List Neighbor) (before after : Asked)
    → Granted r (λ a. Searched ms n b q budget a hits hits' before after) → Granted r (λ a. a.named ≤ length hits')
named_within ms n b q budget (Ok a) hits hits' before after s =
    let t = held_tables ms n b q.rows in
    let h = hit t (asking q.weights q.aggregate q.k q.radius budget) in
    omega (arith, s.named, ap length s.hits, length-append (map h s.end.named) (drop a.named hits), length-map s.end.named h)
named_within ms n b q budget (Err x) hits hits' before after s = tt
