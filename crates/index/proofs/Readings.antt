-- What is read from a store that shows patches and pivots.
use Rattle.std.proofs.Common.{◌≡◌, ℕ, ◌<◌, ◌≤◌, ltb, List, [], length, get_or, None, sym, ap, ◌∙◌, subst, inl, inr, arith}
use mathlib.Core.Path.{fun_ext}
use Rattle.std.proofs.lemmas.List.FromFn.{length-map-range_with_len}
use Rattle.std.proofs.lemmas.List.{length-take, length-replicate, get_or_past}
use Rattle.std.proofs.lemmas.Bool.{cases_lt, le-ltb, cond-false}
use Rattle.metric.specs.Model.{Model}
use Rattle.metric.specs.Channels.{at}
use Rattle.patch.specs.Patches.{Patch, few, patch_width, row}
use Rattle.patch.proofs.Widths.{few_all}
use Rattle.index.specs.declared.counts.ChannelRecord.{ChannelRecord}
use Rattle.index.specs.declared.counts.Counts.{Counts}
use Rattle.index.specs.Bytes.{part, get16}
use Rattle.index.specs.Calls.{first_slot, find_slot, stated}
use Rattle.index.specs.History.{Call, no_patch, place, held, pivots, Holds}
use Rattle.index.specs.Image.{counted, image, Shows, Kept}
use Rattle.index.specs.Laws.{HistoryShows, HeldAlike}
use Rattle.index.specs.Layouts.{layout_of, number_at, row_at, distance_at}
use Rattle.index.specs.Limits.{no_record, pivots_in}
use Rattle.index.specs.Steps.{slot_row, pivot_row}
use Rattle.index.proofs.Puts.{zeros}
use Rattle.index.proofs.Fields.{Field, number, rows, pivot, distance, long, Valid, view, slot_row_is}
use Rattle.index.proofs.Shown.{shown, number_held, number_free, rows_held, rows_free, pivot_held, pivot_free, distance_held, distance_unheld, distance_unset}
use Rattle.index.proofs.Counting.{pivots_counted}
use Rattle.index.proofs.Places.{get16_is, found_place}
use Rattle.index.proofs.Tiling.{fields_long, fields_split}
use Rattle.index.proofs.Histories.{holds_granted, holds_shows}

module _ (ms : List Model) (cap : ℕ) (ps : List Patch) (pv : ℕ → List (List ℕ)) (kept : Kept ms cap ps pv) where
  zeros_long : (n : ℕ) → length (zeros n) ≡ n
  zeros_long n = length-replicate n 0

  shown_long : (F : Field) → Valid ms cap F → length (shown ms ps pv F) ≡ long ms cap F
  shown_long (number i) v = elim (cases_lt i (length ps)) [
    | inl h ↦ ap length (number_held ms ps pv i h)
    | inr h ↦ ap length (number_free ms ps pv i h)
  ]
  shown_long (rows i) v = elim (cases_lt i (length ps)) [
    | inl h ↦ ap length (rows_held ms ps pv i h) ∙ (kept.rows i h).long
    | inr h ↦ ap length (rows_free ms ps pv i h) ∙ zeros_long (patch_width ms)
  ]
  shown_long (pivot c p) v = elim (cases_lt p (length (pv c))) [
    | inl h ↦ ap length (pivot_held ms ps pv c p h) ∙ (kept.pivots c p v.0 h).long
    | inr h ↦ ap length (pivot_free ms ps pv c p h) ∙ zeros_long (at ms c).width
  ]
  shown_long (distance i c p) v = elim (cases_lt i (length ps)) [
    | inl h ↦ elim (cases_lt p (length (pv c))) [
      | inl l ↦ ap length (distance_held ms ps pv i c p h l)
      | inr l ↦ ap length (distance_unset ms ps pv i c p l)
    ]
    | inr h ↦ ap length (distance_unheld ms ps pv i c p h)
  ]

  module _ (k : Counts) (b b₀ : List ℕ) (sh : Shows ms cap ps pv k b b₀) where
    -- the store has the stated size
    pub shows_size : (layout_of ms cap).size ≤ length b
    shows_size =
        omega (arith, length-take (layout_of ms cap).size b, ap length sh.stated, fields_long ms cap (shown ms ps pv) shown_long)

    shows_field : (F : Field) → Valid ms cap F → view ms cap b F ≡ shown ms ps pv F
    shows_field = fields_split ms cap (shown ms ps pv) shown_long b sh.stated

    pub shows_capacity : k.capacity ≡ cap
    shows_capacity = ap (λ (x : Counts). x.capacity) sh.counts

    pub shows_held : k.held ≡ length ps
    shows_held = ap (λ (x : Counts). x.held) sh.counts

    -- how many pivots a channel has
    pub shows_pivots : length ms ≤ 8 → (c : ℕ) → pivots_in k c ≡ length (pv c)
    shows_pivots small c =
        ap (λ (x : Counts). pivots_in x c) sh.counts
        ∙ elim (cases_lt c 8) [
          | inl h ↦ pivots_counted ms ps pv cap c h
          | inr h ↦
              let of : ℕ → ChannelRecord = λ d. record { pivots = length (pv d) } in
              ap (λ (r : ChannelRecord). r.pivots) (get_or_past (counted ms ps pv cap).channels c no_record (omega (arith, length-map-range_with_len of 0 8)))
              ∙ sym (ap length (kept.none c (omega arith)))
        ]

    -- a slot's accession number
    pub shows_number : (i : ℕ) → i < length ps → get16 (number_at i) b ≡ (get_or ps i no_patch).accession
    shows_number i h =
        let full = kept.few in
        get16_is (number_at i) (get_or ps i no_patch).accession b (shows_field (number i) (omega arith) ∙ number_held ms ps pv i h)

    -- a slot's rows
    pub shows_rows : (i : ℕ) → i < length ps → part (row_at (layout_of ms cap) i) (patch_width ms) b ≡ (get_or ps i no_patch).rows
    shows_rows i h = let full = kept.few in shows_field (rows i) (omega arith) ∙ rows_held ms ps pv i h

    -- a slot's row in channel c
    pub shows_row : (c i : ℕ) → c < length ms → i < length ps → slot_row ms (layout_of ms cap) c i b ≡ row ms c (get_or ps i no_patch).rows
    shows_row c i l h = slot_row_is ms cap c i b (get_or ps i no_patch).rows l (shows_rows i h)

    -- a pivot of channel c
    pub shows_pivot : (c p : ℕ) → c < length ms → p < length (pv c) → pivot_row ms (layout_of ms cap) c p b ≡ get_or (pv c) p []
    shows_pivot c p l h = let small = kept.eight c in shows_field (pivot c p) (l, omega arith) ∙ pivot_held ms ps pv c p h

    -- a slot's distance to a pivot
    pub shows_distance : (i c p : ℕ) → i < length ps → c < length ms → p < length (pv c)
        → get16 (distance_at (layout_of ms cap) i c p) b ≡ (at ms c).dist (row ms c (get_or ps i no_patch).rows) (get_or (pv c) p [])
    shows_distance i c p h l q =
        let full = kept.few in
        let small = kept.eight c in
        get16_is (distance_at (layout_of ms cap) i c p) ((at ms c).dist (row ms c (get_or ps i no_patch).rows) (get_or (pv c) p [])) b
        (shows_field (distance i c p) (omega arith, l, omega arith) ∙ distance_held ms ps pv i c p h q)

    -- the slot of an accession number
    pub shows_place : (a : ℕ) → first_slot k b a ≡ place a ps
    shows_place a =
        ap (λ (x : Counts). first_slot x b a) sh.counts
        ∙ found_place b a ps shows_number

    pub shows_find : (a : ℕ) → find_slot ms k b a ≡ place a ps
    shows_find a =
        cond-false (ltb (length b) (stated ms k)) None (first_slot k b a)
        (le-ltb (length b) (stated ms k) (subst (λ (x : ℕ). (layout_of ms x).size ≤ length b) (sym shows_capacity) shows_size))
        ∙ shows_place a

-- no more channels than eight
pub holds_channels : (ms : List Model) (cap : ℕ) (k : Counts) (b b₀ : List ℕ) (h : List Call) → Holds ms k b cap b₀ h → length ms ≤ 8
holds_channels ms cap k b b₀ h hold = (holds_granted ms cap k b b₀ h hold).channels

-- all that a search reads, where a history holds
pub record Reads (ms : List Model) (cap : ℕ) (ps : List Patch) (pv : ℕ → List (List ℕ)) (k : Counts) (b : List ℕ) : Type 0 where
  pub channels : length ms ≤ 8
  pub slots : cap ≤ 4096
  pub size : (layout_of ms cap).size ≤ length b
  pub capacity : k.capacity ≡ cap
  pub count : k.held ≡ length ps
  pub pivot_count : (c : ℕ) → pivots_in k c ≡ length (pv c)
  pub number : (i : ℕ) → i < length ps → get16 (number_at i) b ≡ (get_or ps i no_patch).accession
  pub rows : (i : ℕ) → i < length ps → part (row_at (layout_of ms cap) i) (patch_width ms) b ≡ (get_or ps i no_patch).rows
  pub row_in : (c i : ℕ) → c < length ms → i < length ps → slot_row ms (layout_of ms cap) c i b ≡ row ms c (get_or ps i no_patch).rows
  pub pivot : (c p : ℕ) → c < length ms → p < length (pv c) → pivot_row ms (layout_of ms cap) c p b ≡ get_or (pv c) p []
  pub distance : (i c p : ℕ) → i < length ps → c < length ms → p < length (pv c)
      → get16 (distance_at (layout_of ms cap) i c p) b ≡ (at ms c).dist (row ms c (get_or ps i no_patch).rows) (get_or (pv c) p [])
  pub slot : (a : ℕ) → first_slot k b a ≡ place a ps
  pub kept : Kept ms cap ps pv

pub holds_reads : (ms : List Model) (cap : ℕ) (k : Counts) (b b₀ : List ℕ) (h : List Call) → Holds ms k b cap b₀ h → Reads ms cap (held ms cap h) (pivots ms cap h) k b
holds_reads ms cap k b b₀ h hold =
    let ps = held ms cap h in
    let pv = pivots ms cap h in
    let s = holds_shows ms cap k b b₀ h hold in
    let g = holds_granted ms cap k b b₀ h hold in
    record {
      channels = g.channels;
      slots = g.slots;
      size = shows_size ms cap ps pv s.1 k b b₀ s.0;
      capacity = shows_capacity ms cap ps pv s.1 k b b₀ s.0;
      count = shows_held ms cap ps pv s.1 k b b₀ s.0;
      pivot_count = shows_pivots ms cap ps pv s.1 k b b₀ s.0 g.channels;
      number = shows_number ms cap ps pv s.1 k b b₀ s.0;
      rows = shows_rows ms cap ps pv s.1 k b b₀ s.0;
      row_in = shows_row ms cap ps pv s.1 k b b₀ s.0;
      pivot = shows_pivot ms cap ps pv s.1 k b b₀ s.0;
      distance = shows_distance ms cap ps pv s.1 k b b₀ s.0;
      slot = shows_place ms cap ps pv s.1 k b b₀ s.0;
      kept = s.1;
    }

-- find gives the place among the patches held
pub holds_find : (ms : List Model) (cap : ℕ) (k : Counts) (b b₀ : List ℕ) (h : List Call) → Holds ms k b cap b₀ h → (a : ℕ) → find_slot (few ms) k b a ≡ place a (held ms cap h)
holds_find ms cap k b b₀ h hold a =
    let s = holds_shows ms cap k b b₀ h hold in
    ap (λ (l : List Model). find_slot l k b a) (few_all ms (holds_channels ms cap k b b₀ h hold))
    ∙ shows_find ms cap (held ms cap h) (pivots ms cap h) s.1 k b b₀ s.0 a

pub law_shows : HistoryShows
law_shows ms k b cap b₀ h hold = holds_shows ms cap k b b₀ h hold

pub law_alike : HeldAlike
law_alike ms cap k l b c b₀ c₀ g h p q e f =
    let s = (holds_shows ms cap k b b₀ g p).0 in
    let t = (holds_shows ms cap l c c₀ h q).0 in
    let v : pivots ms cap g ≡ pivots ms cap h = fun_ext f in
    (s.counts ∙ (λ i. counted ms (e i) (v i) cap) ∙ sym t.counts, s.stated ∙ (λ i. image ms (e i) (v i) cap) ∙ sym t.stated)
