-- Remove pivot leaves a store that shows the channel's pivots with the last one in the gap.
use Rattle.std.proofs.Common.{◌≡◌, ℕ, suc, ◌+◌, ◌-◌, ◌<◌, ◌≤◌, ◌⊎◌, List, [], length, sym, refl, ap, ◌∙◌, subst, inl, inr, arith}
use Rattle.std.proofs.lemmas.Bool.{cases_order}
use Rattle.metric.specs.Model.{Model}
use Rattle.metric.specs.Channels.{at}
use Rattle.patch.specs.Patches.{Patch, offset}
use Rattle.index.specs.declared.counts.Counts.{Counts}
use Rattle.index.specs.Calls.{freed_bytes}
use Rattle.index.specs.History.{closed_up}
use Rattle.index.specs.Image.{counted}
use Rattle.index.specs.Layouts.{layout_of, pivot_at}
use Rattle.index.specs.Limits.{pivots_in}
use Rattle.index.specs.Steps.{moved, free_distance}
use Rattle.index.proofs.Puts.{each_keeps}
use Rattle.index.proofs.Fields.{Field, number, rows, pivot, distance, Ne, Differs, pivot_differs, Valid, view}
use Rattle.index.proofs.Turning.{Job, Turned, Became, turned_over, turned_none, turned_move_field, turned_idle}
use Rattle.index.proofs.Shown.{SameEntry, same_list, closed_length, closed_other, closed_moved, shown, pivot_free, distance_unheld, distance_unset, pivot_same, distance_same}
use Rattle.index.proofs.Counting.{pivots_counted}
use Rattle.index.proofs.Adding.{turn, over}

module _ (ms : List Model) (cap : ℕ) (b : List ℕ) (ps : List Patch) (pv qv : ℕ → List (List ℕ)) (c p : ℕ) where
  abbrev release : Job
  release = record { models = ms; capacity = cap; store = b; turn = turn; old = shown ms ps pv; new = shown ms ps qv }

  abbrev Stage : ℕ → List ℕ → Type 0
  Stage n y = Turned release n y

  module _ (below : p < length (pv c)) (is : qv c ≡ closed_up [] (pv c) p) (others : (d : ℕ) → (d ≡ c → ⊥) → qv d ≡ pv d) where
    fewer : length (qv c) ≡ length (pv c) - 1
    fewer = ap length is ∙ closed_length [] (pv c) p below

    this_channel : (d q : ℕ) → d ≡ c → Ne q p → Ne q (length (pv c) - 1) → SameEntry [] (pv d) q (qv d) q
    this_channel d q e n m =
        subst (λ (x : ℕ). SameEntry [] (pv x) q (qv x) q) (sym e)
        (subst (λ (l : List (List ℕ)). SameEntry [] (pv c) q l q) (sym is) (closed_other [] (pv c) p below q n m))

    other_pivot : (d q : ℕ) → Ne d c ⊎ Ne q p → Ne d c ⊎ Ne q (length (pv c) - 1) → SameEntry [] (pv d) q (qv d) q
    other_pivot d q n m =
        elim (cases_order d c) [
          | inr s ↦ same_list [] (pv d) (qv d) q (sym (others d (λ e. omega arith)))
          | inl e ↦ elim n [ inl s ↦ absurd (omega arith) | inr s ↦ elim m [ inl u ↦ absurd (omega arith) | inr u ↦ this_channel d q e s u ] ]
        ]

    module _ (room : (layout_of ms cap).size ≤ length b) (few : length ms ≤ 8) (full : length ps ≤ cap) (chan : c < length ms) (eight : length (pv c) ≤ 8)
        (shows : (F : Field) → Valid ms cap F → view ms cap b F ≡ shown ms ps pv F) where
      abbrev k : Counts
      k = counted ms ps pv cap

      abbrev last : ℕ
      last = pivots_in k c - 1

      last_is : last ≡ length (pv c) - 1
      last_is = ap (λ (x : ℕ). x - 1) (pivots_counted ms ps pv cap c (omega arith))

      -- the gap takes what the last pivot had
      gap : Ne c c ⊎ Ne p last → SameEntry [] (pv c) last (qv c) p
      gap n =
          subst (λ (x : ℕ). SameEntry [] (pv c) x (qv c) p) (sym last_is)
          (subst (λ (l : List (List ℕ)). SameEntry [] (pv c) (length (pv c) - 1) l p) (sym is) (closed_moved [] (pv c) p below (omega (arith, last_is))))

      moved_pivot : Stage 1 (moved (pivot_at (layout_of ms cap) (offset ms c) (at ms c).width last) (pivot_at (layout_of ms cap) (offset ms c) (at ms c).width p) (at ms c).width b)
      moved_pivot =
          turned_move_field release 0 1 b (pivot c last) (pivot c p) (omega arith) room
          (turned_none release shows) (chan, omega (arith, last_is)) (chan, omega arith) refl refl refl
          (pivot_free ms ps qv c last (omega (arith, fewer, last_is)))
          (λ n. pivot_same ms ps ps pv qv c last p (gap (pivot_differs (pivot c p) (pivot c last) n refl refl)))
          idle
        where
          idle : (G : Field) → Valid ms cap G → Differs G (pivot c last) → Differs G (pivot c p) → turn G ≡ 0 → shown ms ps pv G ≡ shown ms ps qv G
          idle (number i) v n m e = refl
          idle (rows i) v n m e = refl
          idle (pivot d q) v n m e =
              let s = pivot_differs (pivot d q) (pivot c last) n refl refl in
              let u = pivot_differs (pivot d q) (pivot c p) m refl refl in
              pivot_same ms ps ps pv qv d q q (other_pivot d q u (subst (λ (x : ℕ). Ne d c ⊎ Ne q x) last_is s))
          idle (distance i d q) v n m e = absurd (omega arith)

      one_slot : (i : ℕ) (y : List ℕ) → i < length ps → Stage (1 + i) y → Stage (1 + suc i) (free_distance (layout_of ms cap) c p last i y)
      one_slot i y h t =
          turned_move_field release (1 + i) (1 + suc i) y (distance i c last) (distance i c p) (omega arith) room t
          (omega arith, chan, omega (arith, last_is)) (omega arith, chan, omega arith) refl refl refl
          (distance_unset ms ps qv i c last (omega (arith, fewer, last_is)))
          (λ n. distance_same ms ps ps pv qv i i c last p (refl, refl) (gap (pivot_differs (distance i c p) (distance i c last) n refl refl)))
          idle
        where
          idle : (G : Field) → Valid ms cap G → Differs G (distance i c last) → Differs G (distance i c p) → turn G ≡ 1 + i → shown ms ps pv G ≡ shown ms ps qv G
          idle (number j) v n m e = refl
          idle (rows j) v n m e = refl
          idle (pivot d q) v n m e = absurd (omega arith)
          idle (distance j d q) v n m e =
              let same : j ≡ i = omega arith in
              let s = pivot_differs (distance j d q) (distance i c last) n refl same in
              let u = pivot_differs (distance j d q) (distance i c p) m refl same in
              distance_same ms ps ps pv qv j j d q q (refl, refl) (other_pivot d q u (subst (λ (x : ℕ). Ne d c ⊎ Ne q x) last_is s))

      all_turned : Stage (1 + cap) (freed_bytes ms k c p b)
      all_turned =
          turned_idle release (1 + length ps) (1 + cap) (freed_bytes ms k c p b)
          (each_keeps (λ i y. Stage (1 + i) y) (free_distance (layout_of ms cap) c p last)
          (moved (pivot_at (layout_of ms cap) (offset ms c) (at ms c).width last) (pivot_at (layout_of ms cap) (offset ms c) (at ms c).width p) (at ms c).width b)
          (length ps) moved_pivot (λ i y h t. one_slot i y h t))
          (omega arith) idle
        where
          idle : (G : Field) → Valid ms cap G → 1 + length ps ≤ turn G → turn G < 1 + cap → shown ms ps pv G ≡ shown ms ps qv G
          idle (number i) v l u = refl
          idle (rows i) v l u = refl
          idle (pivot d q) v l u = absurd (omega arith)
          idle (distance i d q) v l u = distance_unheld ms ps pv i d q (omega arith) ∙ sym (distance_unheld ms ps qv i d q (omega arith))

      pub freed : Became ms cap (shown ms ps qv) b (freed_bytes ms k c p b)
      freed = turned_over release (1 + cap) (freed_bytes ms k c p b) all_turned (over ms cap)
