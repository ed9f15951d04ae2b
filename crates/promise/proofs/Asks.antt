-- What a search asks the metrics about: the query's rows with pivots held, and with the rows of patches measured.
use Rattle.std.proofs.Common.{◌≡◌, ℕ, ◌<◌, ◌⊎◌, List, [], length, get_or, ◌∙◌, inl, inr, arith}
use Rattle.std.proofs.ByRecursion.{has_get_or}
use Rattle.metric.specs.Model.{Model}
use Rattle.metric.specs.Channels.{Asked, AllLawful}
use Rattle.patch.specs.Patches.{Patch}
use Rattle.refine.specs.Steps.{Candidate, State, Taken}
use Rattle.refine.specs.Theorems.{image}
use Rattle.refine.specs.Questions.{Question}
use Rattle.index.specs.declared.counts.Counts.{Counts}
use Rattle.index.specs.Asks.{AddsOnly}
use Rattle.index.specs.History.{no_patch}
use Rattle.index.proofs.Readings.{Reads}
use Rattle.engine.specs.Outcomes.{Measured}
use Rattle.promise.specs.Held.{NearAsks}
use Rattle.promise.specs.Promise.{MayAsk}
use Rattle.promise.proofs.Counted.{has_map}
use Rattle.promise.proofs.Slots.{patch_at, found, pivot_read, row_read, place_found}
use Rattle.promise.proofs.Runs.{posing}

-- what is measured of a stand-in is measured of what it stands for
pub taken_image : {A B : Type 0} (f : A → B) (e : State A) (a : A) (u u' : ℕ) → u ≡ u' → Taken e a u → Taken (image f e) (f a) u'
taken_image f e a u u' same (inl h) = inl (has_map f e.named a h)
taken_image {A} {B} f e a u u' same (inr (t, h, l)) =
    let g : Candidate A → Candidate B = λ c. record { patch = f c.patch; t = c.t } in
    inr (t, has_map g e.live (record { patch = a; t = t }) h, omega arith)

module _ (ms : List Model) (cap : ℕ) (ps : List Patch) (pv : ℕ → List (List ℕ)) (k : Counts) (b : List ℕ) (rd : Reads ms cap ps pv k b) (law : AllLawful ms) (q : Question) (budget : ℕ) (e : State ℕ) where
  abbrev stored : ℕ → Patch
  stored = patch_at ms cap ps pv k b rd

  abbrev May : Asked
  May = MayAsk ms (record { patches = ps; pivots = pv }) q (image stored e)

  near_may : (c : ℕ) (x y : List ℕ) → NearAsks ms k b q.rows c x y → May c x y
  near_may c x y (l, left, (p, h, right)) =
      let g : p < length (pv c) = omega (arith, rd.pivot_count c) in
      (l, inl (get_or (pv c) p [], has_get_or (pv c) p [] g, inl (left, right ∙ pivot_read ms cap ps pv k b rd c p l g)))

  measured_may : (c : ℕ) (x y : List ℕ) → Measured (found ms cap ps pv k b rd law q) (posing ms cap ps pv k b rd law q budget) e c x y → May c x y
  measured_may c x y (i, h, l, taken, left, right) =
      let g : i < length ps = omega (arith, rd.count) in
      (l, inr (stored i, has_get_or ps i no_patch g, taken_image stored e i _ _ (place_found ms cap ps pv k b rd law q i g c l) taken, left, right ∙ row_read ms cap ps pv k b rd c i l g))

  pub asks_may : (before between after : Asked) → AddsOnly before between (NearAsks ms k b q.rows)
      → AddsOnly between after (Measured (found ms cap ps pv k b rd law q) (posing ms cap ps pv k b rd law q budget) e) → AddsOnly before after May
  asks_may before between after near measured c x y h = from (measured c x y h)
    where
      first : before c x y ⊎ NearAsks ms k b q.rows c x y → before c x y ⊎ May c x y
      first (inl g) = inl g
      first (inr g) = inr (near_may c x y g)

      from : between c x y ⊎ Measured (found ms cap ps pv k b rd law q) (posing ms cap ps pv k b rd law q budget) e c x y → before c x y ⊎ May c x y
      from (inl g) = first (near c x y g)
      from (inr g) = inr (measured_may c x y g)
