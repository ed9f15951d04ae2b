-- The table of distances from a query to pivots, as it is filled.
use Rattle.std.proofs.Common.{◌≡◌, ℕ, ◌+◌, ◌<◌, List, length, get_or, set, ap, ◌∙◌, inl, inr, ⊎_elim}
use Rattle.std.proofs.lemmas.List.Edits.{fill_by_more}
use Rattle.metric.specs.Model.{Model}
use Rattle.metric.specs.Channels.{Asked, at}
use Rattle.patch.specs.Patches.{row}
use Rattle.refine.proofs.Channels.{same_counting}
use Rattle.index.specs.declared.counts.Counts.{Counts}
use Rattle.index.specs.declared.layout.Layout.{Layout}
use Rattle.index.specs.Layouts.{layout_of}
use Rattle.index.specs.Limits.{pivots_in}
use Rattle.index.specs.Steps.{pivot_row}
use Rattle.engine.specs.declared.records.Answer.{Answer}
use Rattle.engine.specs.declared.records.Neighbor.{Neighbor}
use Rattle.engine.specs.Tables.{Tables}
use Rattle.engine.specs.Outcomes.{Question, Ran}
use Rattle.search.specs.Walks.{NearIn}

-- one number more
pub write_near : (f : ℕ → ℕ) (xs : List ℕ) (p v : ℕ) → p < length xs → v ≡ f p → ((j : ℕ) → j < p → get_or xs j 0 ≡ f j)
    → (j : ℕ) → j < p + 1 → get_or (set xs p v) j 0 ≡ f j
write_near f xs p v h e all = rw e (fill_by_more f xs p 0 h all)

-- all numbers of a channel
pub near_from : (ms : List Model) (k : Counts) (l : Layout) (b q : List ℕ) (c : ℕ) (xs : List ℕ) → l ≡ layout_of ms k.capacity → length xs ≡ 8
    → ((j : ℕ) → j < pivots_in k c → get_or xs j 0 ≡ (at ms c).dist (row ms c q) (pivot_row ms l c j b)) → NearIn ms k b q c xs
near_from ms k l b q c xs e n all = record {
  long = n;
  first = same_counting (λ p. get_or xs p 0) (λ p. (at ms c).dist (row ms c q) (pivot_row ms (layout_of ms k.capacity) c p b)) (pivots_in k c)
      (λ j h. all j h ∙ ap (λ (z : Layout). (at ms c).dist (row ms c q) (pivot_row ms z c j b)) e);
}

-- what was asked before may be said more widely
pub ran_wider : (t : Tables) (q : Question) (a : Answer) (f f' : List Neighbor) (s s₀ s' : Asked) → ((c : ℕ) (x y : List ℕ) → s c x y → s₀ c x y)
    → Ran t q a f f' s s' → Ran t q a f f' s₀ s'
ran_wider t q a f f' s s₀ s' w r = record {
  end = r.end;
  run = r.run;
  named = r.named;
  measured = r.measured;
  admitted = r.admitted;
  hits = r.hits;
  asks = λ c x y h. ⊎_elim (λ u. inl (w c x y u)) inr (r.asks c x y h);
}
