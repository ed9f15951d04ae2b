-- Add pivot leaves a store that shows the channel's pivots with the new one behind them.
use Rattle.std.proofs.Common.{◌≡◌, ℕ, suc, ◌+◌, ◌<◌, ◌≤◌, ◌⊎◌, List, [], ◌∷◌, ◌++◌, length, get_or, sym, refl, ap, ◌∙◌, subst, inl, inr, arith}
use Rattle.std.proofs.lemmas.List.{length_push, get_or_push}
use Rattle.std.proofs.lemmas.Bool.{cases_order}
use Rattle.big_endian.specs.Numbers.{be16}
use Rattle.metric.specs.Model.{Model, Row}
use Rattle.metric.specs.Channels.{at}
use Rattle.patch.specs.Patches.{Patch, patch_width, offset, row}
use Rattle.patch.proofs.Rows.{row_is_row}
use Rattle.index.specs.declared.counts.Counts.{Counts}
use Rattle.index.specs.Bytes.{put}
use Rattle.index.specs.Calls.{added_bytes}
use Rattle.index.specs.History.{no_patch}
use Rattle.index.specs.Image.{counted}
use Rattle.index.specs.Layouts.{layout_of, pivot_at}
use Rattle.index.specs.Limits.{pivots_in}
use Rattle.index.specs.Steps.{slot_row, pivot_row, store_own}
use Rattle.index.proofs.Puts.{each_keeps}
use Rattle.index.proofs.Fields.{Field, number, rows, pivot, distance, Ne, Differs, pivot_differs, Valid, view, slot_row_is}
use Rattle.index.proofs.Turning.{Job, Turned, Became, turned_over, turned_none, turned_put, turned_idle, reads_same, reads_new}
use Rattle.index.proofs.Shown.{SameEntry, same_list, push_other, shown, rows_held, pivot_held, distance_held, distance_unheld, pivot_same, distance_same}
use Rattle.index.proofs.Counting.{pivots_counted}

-- the pivot, then its distances, slot by slot
abbrev pub turn : Field → ℕ
turn (number i) = 0
turn (rows i) = 0
turn (pivot c p) = 0
turn (distance i c p) = 1 + i

pub over : (ms : List Model) (cap : ℕ) (F : Field) → Valid ms cap F → turn F < 1 + cap
over ms cap (number i) v = omega arith
over ms cap (rows i) v = omega arith
over ms cap (pivot c p) v = omega arith
over ms cap (distance i c p) v = omega arith

module _ (ms : List Model) (cap : ℕ) (b : List ℕ) (ps : List Patch) (pv qv : ℕ → List (List ℕ)) (c slot : ℕ) where
  abbrev new_pivot : List ℕ
  new_pivot = row ms c (get_or ps slot no_patch).rows

  abbrev addition : Job
  addition = record { models = ms; capacity = cap; store = b; turn = turn; old = shown ms ps pv; new = shown ms ps qv }

  abbrev Stage : ℕ → List ℕ → Type 0
  Stage n y = Turned addition n y

  module _ (is : qv c ≡ pv c ++ new_pivot ∷ []) (others : (d : ℕ) → (d ≡ c → ⊥) → qv d ≡ pv d) where
    here : get_or (qv c) (length (pv c)) [] ≡ new_pivot
    here = ap (λ (l : List (List ℕ)). get_or l (length (pv c)) []) is ∙ get_or_push (pv c) new_pivot [] (length (pv c)) refl

    more : length (qv c) ≡ length (pv c) + 1
    more = ap length is ∙ length_push (pv c) new_pivot

    this_channel : (d q : ℕ) → d ≡ c → Ne q (length (pv c)) → SameEntry [] (pv d) q (qv d) q
    this_channel d q e n =
        subst (λ (x : ℕ). SameEntry [] (pv x) q (qv x) q) (sym e)
        (subst (λ (l : List (List ℕ)). SameEntry [] (pv c) q l q) (sym is) (push_other [] (pv c) new_pivot q n))

    other_pivot : (d q : ℕ) → Ne d c ⊎ Ne q (length (pv c)) → SameEntry [] (pv d) q (qv d) q
    other_pivot d q n =
        elim (cases_order d c) [
          | inr m ↦ same_list [] (pv d) (qv d) q (sym (others d (λ e. omega arith)))
          | inl e ↦ elim n [ inl m ↦ absurd (omega arith) | inr m ↦ this_channel d q e m ]
        ]

    module _ (room : (layout_of ms cap).size ≤ length b) (few : length ms ≤ 8) (full : length ps ≤ cap) (chan : c < length ms) (below : slot < length ps) (space : length (pv c) < 8)
        (are-rows : (i : ℕ) → i < length ps → Row (patch_width ms) (get_or ps i no_patch).rows)
        (shows : (F : Field) → Valid ms cap F → view ms cap b F ≡ shown ms ps pv F) where
      abbrev k : Counts
      k = counted ms ps pv cap

      abbrev p : ℕ
      p = pivots_in k c

      p_is : p ≡ length (pv c)
      p_is = pivots_counted ms ps pv cap c (omega arith)

      begun : Stage 0 b
      begun = turned_none addition shows

      -- the row of a slot, at any stage
      row_there : (n i : ℕ) (y : List ℕ) → i < length ps → Stage n y → slot_row ms (layout_of ms cap) c i y ≡ row ms c (get_or ps i no_patch).rows
      row_there n i y h t =
          slot_row_is ms cap c i y (get_or ps i no_patch).rows chan
          (reads_same addition n y (rows i) t (omega arith) refl ∙ rows_held ms ps qv i h)

      new_shown : shown ms ps qv (pivot c p) ≡ new_pivot
      new_shown =
          ap (λ (x : ℕ). shown ms ps qv (pivot c x)) p_is
          ∙ pivot_held ms ps qv c (length (pv c)) (omega (arith, more)) ∙ here

      placed : Stage 1 (put (pivot_at (layout_of ms cap) (offset ms c) (at ms c).width p) (slot_row ms (layout_of ms cap) c slot b) b)
      placed =
          let e = row_there 0 slot b below begun in
          let r = are-rows slot below in
          turned_put addition 0 1 b (pivot c p) (slot_row ms (layout_of ms cap) c slot b) (omega arith) room begun (chan, omega (arith, p_is)) refl
          (ap length e ∙ (row_is_row ms c chan (get_or ps slot no_patch).rows r.long r.bytes).long)
          (e ∙ sym new_shown) idle
        where
          idle : (G : Field) → Valid ms cap G → Differs G (pivot c p) → turn G ≡ 0 → shown ms ps pv G ≡ shown ms ps qv G
          idle (number i) v n e = refl
          idle (rows i) v n e = refl
          idle (pivot d q) v n e =
              let m = pivot_differs (pivot d q) (pivot c p) n refl refl in
              pivot_same ms ps ps pv qv d q q (other_pivot d q (subst (λ (x : ℕ). Ne d c ⊎ Ne q x) p_is m))
          idle (distance i d q) v n e = absurd (omega arith)

      one_slot : (i : ℕ) (y : List ℕ) → i < length ps → Stage (1 + i) y → Stage (1 + suc i) (store_own ms (layout_of ms cap) c p i y)
      one_slot i y h t =
          let v : (c < length ms) × (p < 8) = (chan, omega (arith, p_is)) in
          let pivot-is : pivot_row ms (layout_of ms cap) c p y ≡ new_pivot =
          reads_new addition (1 + i) y (pivot c p) t v (omega arith) ∙ new_shown in
          turned_put addition (1 + i) (1 + suc i) y (distance i c p)
          (be16 ((at ms c).dist (slot_row ms (layout_of ms cap) c i y) (pivot_row ms (layout_of ms cap) c p y))) (omega arith) room t (omega arith, v.0, v.1) refl refl
          (ap (λ (x : List ℕ). be16 ((at ms c).dist x (pivot_row ms (layout_of ms cap) c p y))) (row_there (1 + i) i y h t)
          ∙ ap (λ (x : List ℕ). be16 ((at ms c).dist (row ms c (get_or ps i no_patch).rows) x)) (pivot-is ∙ sym here)
          ∙ sym (ap (λ (x : ℕ). shown ms ps qv (distance i c x)) p_is ∙ distance_held ms ps qv i c (length (pv c)) h (omega (arith, more))))
          idle
        where
          idle : (G : Field) → Valid ms cap G → Differs G (distance i c p) → turn G ≡ 1 + i → shown ms ps pv G ≡ shown ms ps qv G
          idle (number j) v n e = refl
          idle (rows j) v n e = refl
          idle (pivot d q) v n e = absurd (omega arith)
          idle (distance j d q) v n e =
              let same : j ≡ i = omega arith in
              let m = pivot_differs (distance j d q) (distance i c p) n refl same in
              distance_same ms ps ps pv qv j j d q q (refl, refl) (other_pivot d q (subst (λ (x : ℕ). Ne d c ⊎ Ne q x) p_is m))

      all_turned : Stage (1 + cap) (added_bytes ms k c slot b)
      all_turned =
          turned_idle addition (1 + length ps) (1 + cap) (added_bytes ms k c slot b)
          (each_keeps (λ i y. Stage (1 + i) y) (store_own ms (layout_of ms cap) c p)
          (put (pivot_at (layout_of ms cap) (offset ms c) (at ms c).width p) (slot_row ms (layout_of ms cap) c slot b) b) (length ps) placed (λ i y h t. one_slot i y h t))
          (omega arith) idle
        where
          idle : (G : Field) → Valid ms cap G → 1 + length ps ≤ turn G → turn G < 1 + cap → shown ms ps pv G ≡ shown ms ps qv G
          idle (number i) v l u = refl
          idle (rows i) v l u = refl
          idle (pivot d q) v l u = absurd (omega arith)
          idle (distance i d q) v l u = distance_unheld ms ps pv i d q (omega arith) ∙ sym (distance_unheld ms ps qv i d q (omega arith))

      pub added : Became ms cap (shown ms ps qv) b (added_bytes ms k c slot b)
      added = turned_over addition (1 + cap) (added_bytes ms k c slot b) all_turned (over ms cap)
