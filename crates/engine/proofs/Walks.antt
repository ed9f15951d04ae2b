-- From one step to the next, and to the end of a run.
use Rattle.std.proofs.Common.{◌≡◌, ℕ, Bool, true, false, ◌⊎◌, List, Some, sym, ◌∙◌, subst, inl, inr, ⊎_elim, arith}
use Rattle.metric.specs.Channels.{Asked}
use Rattle.refine.specs.Bounds.{place}
use Rattle.refine.specs.Chains.{table}
use Rattle.refine.specs.Steps.{State, Runs, finishes, stops, goes}
use Rattle.refine.proofs.Takes.{taken_end}
use Rattle.engine.specs.declared.records.Neighbor.{Neighbor}
use Rattle.engine.specs.declared.records.Candidate.{Candidate}
use Rattle.engine.specs.declared.records.Progress.{Progress}
use Rattle.engine.specs.Tables.{Tables, channels_of}
use Rattle.engine.specs.Outcomes.{Question, family_of, Measured}
use Rattle.engine.specs.declared.records.End.{End}
use Rattle.engine.specs.declared.records.End.TheVariants.{Finished, Stopped}
use Rattle.engine.specs.Turns.{is_finished, Stands, Goes, Steps, Ends}

-- a run from start has come to a state for which the data stand: what ends a run from there ends it from start, and what was asked
-- since is measured at every such end
pub record Reached (t : Tables) (q : Question) (start : State ℕ) (old : List Neighbor) (n : ℕ) (xs : List Candidate) (hs : List Neighbor) (p : Progress) (asked asked' : Asked) : Type 0 where
  pub s : State ℕ
  pub stands : Stands t q old n xs hs p s
  pub back : (b : Bool) (e : State ℕ) → Runs (table (family_of t q) q.radius) q.k q.budget s b e → Runs (table (family_of t q) q.radius) q.k q.budget start b e
  pub asks : (c : ℕ) (x y : List ℕ) → asked' c x y → asked c x y ⊎ ((b : Bool) (e : State ℕ) → Runs (table (family_of t q) q.radius) q.k q.budget s b e → Measured t q e c x y)

module _ (t : Tables) (q : Question) (start : State ℕ) (old : List Neighbor) (n : ℕ) (xs : List Candidate) (hs : List Neighbor) (p : Progress) (asked asked' : Asked) where
  pub sets_out : Stands t q old n xs hs p start → Reached t q start old n xs hs p asked asked
  sets_out st = record { s = start; stands = st; back = λ b e r. r; asks = λ c x y h. inl h }

  module _ (was : Reached t q start old n xs hs p asked asked') (hs' : List Neighbor) (p' : Progress) (asked'' : Asked) where
    pub goes_on : (n' : ℕ) (xs' : List Candidate) → Goes t q was.s old n n' xs xs' hs' p p' asked' asked'' → Reached t q start old n' xs' hs' p' asked asked''
    goes_on n' xs' h = record {
      s = h.next;
      stands = h.stands;
      back = λ b e r. was.back b e (goes h.move r);
      asks = λ c x y a. ⊎_elim
          (λ a'. ⊎_elim inl (λ f. inr (λ b e r. f b e (goes h.move r))) (was.asks c x y a'))
          (λ m. inr (λ b e r. (m.0, m.1, m.2, taken_end (table (family_of t q) q.radius) q.k q.budget h.next r m.0 (place t.channels (channels_of t q.weights m.0) c) m.3, m.4, m.5)))
          (h.asks c x y a);
    }

    module _ (b : Bool) (run : Runs (table (family_of t q) q.radius) q.k q.budget was.s b was.s) (hits : hs' ≡ hs) (progress : p' ≡ p)
        (same : (c : ℕ) (x y : List ℕ) → asked'' c x y → asked' c x y) where
      ends : Ends t q start b old hs' p' asked asked''
      ends = subst (λ (r : Progress). Ends t q start b old hs' r asked asked'') (sym progress) (record {
        end = was.s;
        run = was.back b was.s run;
        named = was.stands.named;
        measured = was.stands.measured;
        hits = hits ∙ was.stands.hits;
        few = let f = was.stands.few in omega arith;
        asks = λ c x y a. ⊎_elim inl (λ f. inr (f b was.s run)) (was.asks c x y (same c x y a));
      })

    -- the end that a step comes to
    pub ends_at : (end : End) (n' : ℕ) (xs' : List Candidate) → Steps (Some end) t q was.s old n n' xs xs' hs hs' p p' asked' asked'' → Ends t q start (is_finished end) old hs' p' asked asked''
    ends_at Finished n' xs' h = ends true (finishes h.move) h.hits h.progress h.asks
    ends_at Stopped n' xs' h = ends false (stops h.move) h.hits h.progress h.asks
