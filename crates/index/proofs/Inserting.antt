-- Insert leaves a store that shows the patches with the new one behind them.
use Rattle.std.proofs.Common.{◌≡◌, ℕ, suc, ◌+◌, ◌*◌, ◌<◌, ◌≤◌, List, [], ◌∷◌, ◌++◌, length, get_or, sym, refl, ap, ◌∙◌, arith}
use Rattle.std.proofs.lemmas.List.{length_push, get_or_push}
use Rattle.big_endian.specs.Numbers.{be16}
use Rattle.metric.specs.Model.{Model}
use Rattle.metric.specs.Channels.{at}
use Rattle.patch.specs.Patches.{Patch, patch_width, row}
use Rattle.index.specs.declared.counts.Counts.{Counts}
use Rattle.index.specs.Bytes.{put}
use Rattle.index.specs.Calls.{inserted_bytes}
use Rattle.index.specs.History.{no_patch}
use Rattle.index.specs.Image.{counted}
use Rattle.index.specs.Layouts.{layout_of}
use Rattle.index.specs.Limits.{pivots_in}
use Rattle.index.specs.Steps.{pivot_row, store_distance, store_channel}
use Rattle.index.proofs.Puts.{each_keeps}
use Rattle.index.proofs.Fields.{Field, number, rows, pivot, distance, Ne, Differs, slot_of, slot_differs, start, Valid, view}
use Rattle.index.proofs.Turning.{Job, Turned, Became, turned_over, turned_none, turned_put, turned_idle, turned_at, reads_same}
use Rattle.index.proofs.Shown.{push_other, shown, number_held, rows_held, pivot_held, distance_held, distance_unset, number_same, rows_same, distance_same}
use Rattle.index.proofs.Counting.{pivots_counted}

-- the accession number, the rows, then the distances, channel by channel
abbrev turn : Field → ℕ
turn (number i) = 0
turn (rows i) = 1
turn (pivot c p) = 0
turn (distance i c p) = 2 + (8 * c + p)

module _ (ms : List Model) (cap : ℕ) (b : List ℕ) (ps : List Patch) (pv : ℕ → List (List ℕ)) (a : ℕ) (new-rows : List ℕ) where
  abbrev patch : Patch
  patch = record { accession = a; rows = new-rows }

  abbrev after : List Patch
  after = ps ++ patch ∷ []

  abbrev insertion : Job
  insertion = record { models = ms; capacity = cap; store = b; turn = turn; old = shown ms ps pv; new = shown ms after pv }

  abbrev Stage : ℕ → List ℕ → Type 0
  Stage n y = Turned insertion n y

  -- another slot shows what it showed
  other_slot : (G : Field) → Ne (slot_of G) (length ps) → shown ms ps pv G ≡ shown ms after pv G
  other_slot (number i) n = number_same ms ps after pv pv i i (push_other no_patch ps patch i n)
  other_slot (rows i) n = rows_same ms ps after pv pv i i (push_other no_patch ps patch i n)
  other_slot (pivot c p) n = refl
  other_slot (distance i c p) n = distance_same ms ps after pv pv i i c p p (push_other no_patch ps patch i n) (refl, refl)

  here : get_or after (length ps) no_patch ≡ patch
  here = get_or_push ps patch no_patch (length ps) refl

  more : length after ≡ length ps + 1
  more = length_push ps patch

  module _ (room : (layout_of ms cap).size ≤ length b) (few : length ms ≤ 8) (free : length ps < cap) (wide : length new-rows ≡ patch_width ms) (eight : (c : ℕ) → length (pv c) ≤ 8)
      (shows : (F : Field) → Valid ms cap F → view ms cap b F ≡ shown ms ps pv F) where
    numbered : Stage 1 (put (start ms cap (number (length ps))) (be16 a) b)
    numbered =
        turned_put insertion 0 1 b (number (length ps)) (be16 a) (omega arith) room
        (turned_none insertion shows) free refl refl
        (sym (number_held ms after pv (length ps) (omega (arith, more)) ∙ ap (λ (x : Patch). be16 x.accession) here)) idle
      where
        idle : (G : Field) → Valid ms cap G → Differs G (number (length ps)) → turn G ≡ 0 → shown ms ps pv G ≡ shown ms after pv G
        idle (number i) v d e = other_slot (number i) (slot_differs (number i) (number (length ps)) d refl refl refl)
        idle (rows i) v d e = absurd (omega arith)
        idle (pivot c p) v d e = refl
        idle (distance i c p) v d e = absurd (omega arith)

    filled : Stage 2 (put (start ms cap (rows (length ps))) new-rows (put (start ms cap (number (length ps))) (be16 a) b))
    filled =
        turned_put insertion 1 2 (put (start ms cap (number (length ps))) (be16 a) b) (rows (length ps)) new-rows (omega arith) room numbered free refl wide
        (sym (rows_held ms after pv (length ps) (omega (arith, more)) ∙ ap (λ (x : Patch). x.rows) here)) idle
      where
        idle : (G : Field) → Valid ms cap G → Differs G (rows (length ps)) → turn G ≡ 1 → shown ms ps pv G ≡ shown ms after pv G
        idle (number i) v d e = absurd (omega arith)
        idle (rows i) v d e = other_slot (rows i) (slot_differs (rows i) (rows (length ps)) d refl refl refl)
        idle (pivot c p) v d e = absurd (omega arith)
        idle (distance i c p) v d e = absurd (omega arith)

    abbrev k : Counts
    k = counted ms ps pv cap

    -- the distance to one pivot
    one_distance : (c p : ℕ) (y : List ℕ) → c < length ms → p < length (pv c) → Stage (2 + 8 * c + p) y
        → Stage (2 + 8 * c + suc p) (store_distance ms (layout_of ms cap) (length ps) c (row ms c new-rows) p y)
    one_distance c p y h q t =
        let small = eight c in
        let v : (c < length ms) × (p < 8) = (h, omega arith) in
        let pivot-is : pivot_row ms (layout_of ms cap) c p y ≡ get_or (pv c) p [] =
        reads_same insertion (2 + 8 * c + p) y (pivot c p) t v refl ∙ pivot_held ms after pv c p q in
        turned_put insertion (2 + 8 * c + p) (2 + 8 * c + suc p) y (distance (length ps) c p)
        (be16 ((at ms c).dist (row ms c new-rows) (pivot_row ms (layout_of ms cap) c p y))) (omega arith) room t (free, v.0, v.1) (omega arith) refl
        (ap (λ (x : List ℕ). be16 ((at ms c).dist (row ms c new-rows) x)) pivot-is
        ∙ ap (λ (x : Patch). be16 ((at ms c).dist (row ms c x.rows) (get_or (pv c) p []))) (sym here)
        ∙ sym (distance_held ms after pv (length ps) c p (omega (arith, more)) q))
        idle
      where
        idle : (G : Field) → Valid ms cap G → Differs G (distance (length ps) c p) → turn G ≡ 2 + 8 * c + p → shown ms ps pv G ≡ shown ms after pv G
        idle (number i) v d e = absurd (omega arith)
        idle (rows i) v d e = absurd (omega arith)
        idle (pivot d q) v n e = refl
        idle (distance i d q') v n e =
            let small = eight c in
            let z : d ≡ c = omega arith in
            let u : q' ≡ p = omega arith in
            other_slot (distance i d q') (slot_differs (distance i d q') (distance (length ps) c p) n refl z u)

    one_channel : (c : ℕ) (y : List ℕ) → c < length ms → Stage (2 + 8 * c) y → Stage (2 + 8 * suc c) (store_channel ms (layout_of ms cap) k (length ps) new-rows c y)
    one_channel c y h t =
        let n : pivots_in k c ≡ length (pv c) = pivots_counted ms ps pv cap c (omega arith) in
        let z = store_channel ms (layout_of ms cap) k (length ps) new-rows c y in
        let small = eight c in
        let loop : Stage (2 + 8 * c + pivots_in k c) z =
        each_keeps (λ p x. Stage (2 + 8 * c + p) x) (store_distance ms (layout_of ms cap) (length ps) c (row ms c new-rows)) y (pivots_in k c)
        (turned_at insertion (2 + 8 * c) (2 + 8 * c + 0) y (omega arith) t)
        (λ p x l s. one_distance c p x h (omega arith) s) in
        turned_idle insertion (2 + 8 * c + pivots_in k c) (2 + 8 * suc c) z loop (omega arith) idle
      where
        idle : (G : Field) → Valid ms cap G → 2 + 8 * c + pivots_in k c ≤ turn G → turn G < 2 + 8 * suc c → shown ms ps pv G ≡ shown ms after pv G
        idle (number i) v l u = absurd (omega arith)
        idle (rows i) v l u = absurd (omega arith)
        idle (pivot d q) v l u = refl
        idle (distance i d q) v l u =
            let n : pivots_in k c ≡ length (pv c) = pivots_counted ms ps pv cap c (omega arith) in
            let z : d ≡ c = omega arith in
            let e : length (pv d) ≡ length (pv c) = ap (λ (x : ℕ). length (pv x)) z in
            let past : length (pv d) ≤ q = omega arith in
            distance_unset ms ps pv i d q past ∙ sym (distance_unset ms after pv i d q past)

    pub inserted : Became ms cap (shown ms after pv) b (inserted_bytes ms k b a new-rows)
    inserted =
        turned_over insertion (2 + 8 * length ms) (inserted_bytes ms k b a new-rows)
        (each_keeps (λ c y. Stage (2 + 8 * c) y) (store_channel ms (layout_of ms cap) k (length ps) new-rows)
        (put (start ms cap (rows (length ps))) new-rows (put (start ms cap (number (length ps))) (be16 a) b)) (length ms) filled (λ c y h t. one_channel c y h t))
        over
      where
        over : (F : Field) → Valid ms cap F → turn F < 2 + 8 * length ms
        over (number i) v = omega arith
        over (rows i) v = omega arith
        over (pivot c p) v = omega arith
        over (distance i c p) v = omega arith
