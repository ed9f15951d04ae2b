-- What the bytes of a store give for a query is what the patches and pivots held there give.
use Rattle.std.proofs.Common.{◌≡◌, ℕ, ◌<◌, List, [], length, get_or, ap, ◌∙◌}
use Rattle.metric.specs.Model.{Model}
use Rattle.metric.specs.Channels.{at, AllLawful}
use Rattle.patch.specs.Patches.{Patch, row}
use Rattle.refine.specs.Bounds.{lower_of, upper_of, place}
use Rattle.refine.specs.Questions.{Question, near, far, channels, family}
use Rattle.refine.proofs.Tables.{row_is_row}
use Rattle.index.specs.declared.counts.Counts.{Counts}
use Rattle.index.specs.Bytes.{get16}
use Rattle.index.specs.History.{no_patch}
use Rattle.index.specs.Layouts.{layout_of, distance_at}
use Rattle.index.specs.Steps.{slot_row, pivot_row}
use Rattle.index.proofs.Readings.{Reads}
use Rattle.engine.specs.Tables.{Tables, channels_of, slot_family}
use Rattle.promise.specs.Held as held
use Rattle.promise.specs.Held.{held_tables}
use Rattle.promise.proofs.Chained.{place_same, entries_same, uppers_same}
use Rattle.promise.proofs.Counted.{by_place}

module _ (ms : List Model) (cap : ℕ) (ps : List Patch) (pv : ℕ → List (List ℕ)) (k : Counts) (b : List ℕ) (rd : Reads ms cap ps pv k b) where
  -- the patch of a slot
  abbrev pub patch_at : ℕ → Patch
  patch_at i = get_or ps i no_patch

  pub pivot_read : (c p : ℕ) → c < length ms → p < length (pv c) → pivot_row ms (layout_of ms k.capacity) c p b ≡ get_or (pv c) p []
  pivot_read c p l h = ap (λ (n : ℕ). pivot_row ms (layout_of ms n) c p b) rd.capacity ∙ rd.pivot c p l h

  pub row_read : (c i : ℕ) → c < length ms → i < length ps → slot_row ms (layout_of ms k.capacity) c i b ≡ row ms c (patch_at i).rows
  row_read c i l h = ap (λ (n : ℕ). slot_row ms (layout_of ms n) c i b) rd.capacity ∙ rd.row_in c i l h

  distance_read : (i c p : ℕ) → i < length ps → c < length ms → p < length (pv c)
      → get16 (distance_at (layout_of ms k.capacity) i c p) b ≡ (at ms c).dist (row ms c (patch_at i).rows) (get_or (pv c) p [])
  distance_read i c p h l g = ap (λ (n : ℕ). get16 (distance_at (layout_of ms n) i c p) b) rd.capacity ∙ rd.distance i c p h l g

  module _ (law : AllLawful ms) (q : Question) where
    -- the query's distances to the pivots
    near_same : (c : ℕ) → c < length ms → held.near ms k b q.rows c ≡ near ms q pv c
    near_same c l = by_place _ (λ p. (at ms c).dist (row ms c q.rows) p) (pv c) _ [] (rd.pivot_count c)
        (λ p h. ap ((at ms c).dist (row ms c q.rows)) (pivot_read c p l h))

    -- the stored distances are those from the pivots to the patch, since a metric is symmetric
    far_same : (i c : ℕ) → i < length ps → c < length ms → held.far ms k b q.rows i c ≡ far ms q pv c (patch_at i)
    far_same i c h l = by_place _ (λ p. (at ms c).dist p (row ms c (patch_at i).rows)) (pv c) _ [] (rd.pivot_count c)
        (λ p g. distance_read i c p h l g
        ∙ (law c l).symmetric (row ms c (patch_at i).rows) (get_or (pv c) p []) (row_is_row ms c l (patch_at i).rows (rd.kept.rows i h)) (rd.kept.pivots c p l g))

    -- the tables that the bytes give
    abbrev pub found : Tables
    found = held_tables ms k b q.rows

    channel_same : (i : ℕ) → i < length ps → (c : ℕ) → c < length ms → channels_of found q.weights i c ≡ channels ms q pv (patch_at i) c
    channel_same i h c l =
        let n = near_same c l in
        let f = far_same i c h l in
        let d = ap ((at ms c).dist (row ms c q.rows)) (row_read c i l h) in
        λ j. record { weight = get_or q.weights c 0; lower = lower_of (n j) (f j); dist = d j; upper = upper_of (at ms c).top (n j) (f j) }

    pub place_found : (i : ℕ) → i < length ps → (c : ℕ) → c < length ms
        → place (length ms) (channels_of found q.weights i) c ≡ place (length ms) (channels ms q pv (patch_at i)) c
    place_found i h c l = place_same (length ms) _ _ (channel_same i h) c l

    pub bound_found : (i : ℕ) → i < length ps → (t : ℕ) → (slot_family found q.weights q.aggregate).bound i t ≡ (family ms q pv).bound (patch_at i) t
    bound_found i h t = ap q.aggregate (entries_same (length ms) _ _ (channel_same i h) t)

    pub upper_found : (i : ℕ) → i < length ps → (slot_family found q.weights q.aggregate).upper i ≡ (family ms q pv).upper (patch_at i)
    upper_found i h = ap q.aggregate (uppers_same (length ms) _ _ (channel_same i h))
