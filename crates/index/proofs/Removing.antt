-- Remove leaves a store that shows the patches with the last one in the gap.
use Rattle.std.proofs.Common.{◌≡◌, ℕ, ◌+◌, ◌-◌, ◌*◌, ◌<◌, ◌≤◌, List, length, sym, refl, ap, subst, inl, inr, arith}
use Rattle.std.proofs.lemmas.Bool.{cases_order}
use Rattle.metric.specs.Model.{Model}
use Rattle.patch.specs.Patches.{Patch, patch_width}
use Rattle.index.specs.declared.counts.Counts.{Counts}
use Rattle.index.specs.Calls.{removed_bytes}
use Rattle.index.specs.History.{no_patch, closed_up}
use Rattle.index.specs.Image.{counted}
use Rattle.index.specs.Layouts.{layout_of, number_at, row_at, distance_at}
use Rattle.index.specs.Steps.{moved}
use Rattle.index.proofs.Puts.{Apart}
use Rattle.index.proofs.Spans.{next_le}
use Rattle.index.proofs.Fields.{Field, number, rows, pivot, distance, Ne, Differs, slot_of, slot_differs, start, long, Valid, view, regions_apart, size_is}
use Rattle.index.proofs.Turning.{Job, Turned, Became, turned_over, Fate, zeroed, taken, elsewhere, turned_none, turned_move, turned_move_field}
use Rattle.index.proofs.Shown.{SameEntry, closed_length, closed_other, closed_moved, shown, number_free, rows_free, distance_unheld, number_same, rows_same, distance_same}

-- the accession numbers, the rows, then the distances
abbrev turn : Field → ℕ
turn (number i) = 0
turn (rows i) = 1
turn (pivot c p) = 0
turn (distance i c p) = 2

module _ (ms : List Model) (cap : ℕ) (b : List ℕ) (ps : List Patch) (pv : ℕ → List (List ℕ)) (slot : ℕ) (below : slot < length ps) where
  abbrev after : List Patch
  after = closed_up no_patch ps slot

  abbrev last : ℕ
  last = length ps - 1

  abbrev removal : Job
  removal = record { models = ms; capacity = cap; store = b; turn = turn; old = shown ms ps pv; new = shown ms after pv }

  abbrev Stage : ℕ → List ℕ → Type 0
  Stage n y = Turned removal n y

  fewer : length after ≡ last
  fewer = closed_length no_patch ps slot below

  -- another slot shows what it showed
  other_slot : (G : Field) → Ne (slot_of G) slot → Ne (slot_of G) last → shown ms ps pv G ≡ shown ms after pv G
  other_slot (number i) n m = number_same ms ps after pv pv i i (closed_other no_patch ps slot below i n m)
  other_slot (rows i) n m = rows_same ms ps after pv pv i i (closed_other no_patch ps slot below i n m)
  other_slot (pivot c p) n m = refl
  other_slot (distance i c p) n m = distance_same ms ps after pv pv i i c p p (closed_other no_patch ps slot below i n m) (refl, refl)

  -- the gap shows what the last slot showed
  not_last : Ne slot last → slot < last
  not_last n = omega arith

  module _ (room : (layout_of ms cap).size ≤ length b) (few : length ps ≤ cap) (shows : (F : Field) → Valid ms cap F → view ms cap b F ≡ shown ms ps pv F) where
    numbered : Stage 1 (moved (number_at last) (number_at slot) 2 b)
    numbered =
        turned_move_field removal 0 1 b (number last) (number slot) (omega arith) room
        (turned_none removal shows) (omega arith) (omega arith) refl refl refl
        (number_free ms after pv last (omega (arith, fewer)))
        (λ n. number_same ms ps after pv pv last slot (closed_moved no_patch ps slot below (not_last (slot_differs (number slot) (number last) n refl refl refl))))
        idle
      where
        idle : (G : Field) → Valid ms cap G → Differs G (number last) → Differs G (number slot) → turn G ≡ 0 → shown ms ps pv G ≡ shown ms after pv G
        idle (number i) v n m e = other_slot (number i) (slot_differs (number i) (number slot) m refl refl refl) (slot_differs (number i) (number last) n refl refl refl)
        idle (rows i) v n m e = absurd (omega arith)
        idle (pivot c p) v n m e = refl
        idle (distance i c p) v n m e = absurd (omega arith)

    filled : (y : List ℕ) → Stage 1 y → Stage 2 (moved (row_at (layout_of ms cap) last) (row_at (layout_of ms cap) slot) (patch_width ms) y)
    filled y t =
        turned_move_field removal 1 2 y (rows last) (rows slot) (omega arith) room t (omega arith) (omega arith) refl refl refl
        (rows_free ms after pv last (omega (arith, fewer)))
        (λ n. rows_same ms ps after pv pv last slot (closed_moved no_patch ps slot below (not_last (slot_differs (rows slot) (rows last) n refl refl refl))))
        idle
      where
        idle : (G : Field) → Valid ms cap G → Differs G (rows last) → Differs G (rows slot) → turn G ≡ 1 → shown ms ps pv G ≡ shown ms after pv G
        idle (number i) v n m e = absurd (omega arith)
        idle (rows i) v n m e = other_slot (rows i) (slot_differs (rows i) (rows slot) m refl refl refl) (slot_differs (rows i) (rows last) n refl refl refl)
        idle (pivot c p) v n m e = absurd (omega arith)
        idle (distance i c p) v n m e = absurd (omega arith)

    -- the distances of a slot lie together
    abbrev block : ℕ → ℕ
    block i = distance_at (layout_of ms cap) i 0 0

    in_block : (i j c p : ℕ) → i ≡ j → start ms cap (distance i c p) ≡ block j + (c * 16 + 2 * p)
    in_block i j c p e = let z : i * length ms ≡ j * length ms = ap (λ (x : ℕ). x * length ms) e in omega arith

    off_block : (i j c p : ℕ) → c < length ms → p < 8 → Ne i j → Apart (start ms cap (distance i c p)) 2 (block j) (16 * length ms)
    off_block i j c p h q (inl l) = inl (omega (arith, next_le i j (length ms) l))
    off_block i j c p h q (inr l) = inr (omega (arith, next_le j i (length ms) l))

    blocks_apart : Ne slot last → Apart (block slot) (16 * length ms) (block last) (16 * length ms)
    blocks_apart (inl l) = inl (omega (arith, next_le slot last (length ms) l))
    blocks_apart (inr l) = inr (omega (arith, next_le last slot (length ms) l))

    block_ends : (i : ℕ) → i < cap → block i + 16 * length ms ≤ (layout_of ms cap).size
    block_ends i h = omega (arith, next_le i cap (length ms) h, size_is ms cap)

    abbrev Of : Field → Type 0
    Of G = Fate removal 2 (block last) (block slot) (16 * length ms) G

    earlier : (G : Field) → Valid ms cap G → turn G < 2 → start ms cap G + long ms cap G ≤ block last → start ms cap G + long ms cap G ≤ block slot → Of G
    earlier G v h p q = elsewhere (inl p) (inl q) (λ e. absurd (omega arith))

    last_fate : (i c p : ℕ) → (i < cap) × (c < length ms) × (p < 8) → i ≡ last → Of (distance i c p)
    last_fate i c p v e = zeroed (c * 16 + 2 * p) (in_block i last c p e) (omega arith) refl (distance_unheld ms after pv i c p (omega (arith, fewer)))

    gap_fate : (i c p : ℕ) → (i < cap) × (c < length ms) × (p < 8) → i ≡ slot → Ne slot last → Of (distance i c p)
    gap_fate i c p v e n =
        let lv : (last < cap) × (c < length ms) × (p < 8) = (omega arith, v.1, v.2) in
        let m : SameEntry no_patch ps last after i = subst (λ (x : ℕ). SameEntry no_patch ps last after x) (sym e) (closed_moved no_patch ps slot below (not_last n)) in
        taken (c * 16 + 2 * p) (distance last c p) (blocks_apart n) lv (omega arith) (in_block last last c p refl) refl (in_block i slot c p e) (omega arith) refl
        (distance_same ms ps after pv pv last i c p p m (refl, refl))

    fate : (G : Field) → Valid ms cap G → Of G
    fate (number i) v = earlier (number i) v (omega arith) (regions_apart ms cap (number i) (distance last 0 0) v (omega arith)) (regions_apart ms cap (number i) (distance slot 0 0) v (omega arith))
    fate (rows i) v = earlier (rows i) v (omega arith) (regions_apart ms cap (rows i) (distance last 0 0) v (omega arith)) (regions_apart ms cap (rows i) (distance slot 0 0) v (omega arith))
    fate (pivot c p) v = earlier (pivot c p) v (omega arith) (regions_apart ms cap (pivot c p) (distance last 0 0) v (omega arith)) (regions_apart ms cap (pivot c p) (distance slot 0 0) v (omega arith))
    fate (distance i c p) v =
        elim (cases_order i last) [
          | inl e ↦ last_fate i c p v e
          | inr n ↦ elim (cases_order i slot) [
            | inl e ↦ gap_fate i c p v e (subst (λ (x : ℕ). Ne x last) e n)
            | inr m ↦ elsewhere (off_block i last c p v.1 v.2 n) (off_block i slot c p v.1 v.2 m) (λ q. other_slot (distance i c p) m n)
          ]
        ]

    abbrev k : Counts
    k = counted ms ps pv cap

    pub removed : Became ms cap (shown ms after pv) b (removed_bytes ms k slot b)
    removed =
        turned_over removal 3 (removed_bytes ms k slot b)
        (turned_move removal 2 3 (block last) (block slot) (16 * length ms)
        (moved (row_at (layout_of ms cap) last) (row_at (layout_of ms cap) slot) (patch_width ms) (moved (number_at last) (number_at slot) 2 b))
        (omega arith) room (filled (moved (number_at last) (number_at slot) 2 b) numbered) (block_ends last (omega arith)) (block_ends slot (omega arith)) fate)
        over
      where
        over : (F : Field) → Valid ms cap F → turn F < 3
        over (number i) v = omega arith
        over (rows i) v = omega arith
        over (pivot c p) v = omega arith
        over (distance i c p) v = omega arith
