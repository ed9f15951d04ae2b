-- What the calls leave of the rows that they ask about.
use Rattle.std.proofs.Common.{◌≡◌, ℕ, ◌+◌, ◌<◌, ◌≤◌, List, length, sym, ap, ◌∙◌, subst, inl, inr, arith}
use Rattle.metric.specs.Model.{Model}
use Rattle.metric.specs.Channels.{at}
use Rattle.big_endian.specs.Numbers.{be16}
use Rattle.patch.specs.Patches.{offset, patch_width}
use Rattle.patch.proofs.Widths.{row_ends}
use Rattle.index.specs.declared.counts.Counts.{Counts}
use Rattle.index.specs.declared.layout.Layout.{Layout}
use Rattle.index.specs.Bytes.{put, part}
use Rattle.index.specs.Layouts.{layout_of, number_at, row_at, pivot_at}
use Rattle.index.specs.Limits.{pivots_in}
use Rattle.index.specs.Steps.{slot_row, pivot_row}
use Rattle.index.specs.Works.{Ready, OwnAsks}
use Rattle.index.specs.Asks.{PivotAsks}
use Rattle.index.proofs.Puts.{part_put_other, part_put_same, length_put, length_part}
use Rattle.index.proofs.Spans.{next_le}

module _ (ms : List Model) (k : Counts) (l : Layout) (b : List ℕ) (r : Ready ms k l b) where
  -- the rows of a slot end before the pivots begin
  pub rows_end : (slot : ℕ) → slot < k.capacity → row_at l slot + l.row ≤ l.pivots
  rows_end slot h =
      let s : slot < l.capacity = omega (arith, r.slots) in
      omega (arith, r.sound.pivots, next_le slot l.capacity l.row s)

  pub number_ends : (slot : ℕ) → slot < k.capacity → number_at slot + 2 ≤ l.rows
  number_ends slot h = omega (arith, r.slots, r.sound.rows)

  pub pivots_end : l.pivots ≤ length b
  pivots_end = omega (arith, r.sound.distances, r.sound.size, r.long)

  pub rows_begin : l.rows ≤ l.pivots
  rows_begin = omega (arith, r.sound.pivots)

  -- a new patch leaves the rows of the pivots
  pub patch_leaves : (slot a : ℕ) (rows b₂ : List ℕ) → slot < k.capacity → length rows ≡ patch_width ms → b₂ ≡ put (row_at l slot) rows (put (number_at slot) (be16 a) b)
      → (c p : ℕ) → c < length ms → p < pivots_in k c → pivot_row ms (layout_of ms k.capacity) c p b₂ ≡ pivot_row ms (layout_of ms k.capacity) c p b
  patch_leaves slot a rows b₂ h e w c p lt lp =
      let P = pivot_at l (offset ms c) (at ms c).width p in
      let n = (at ms c).width in
      let re = rows_end slot h in
      let ne = number_ends slot h in
      let pe = pivots_end in
      let rb = rows_begin in
      let er = r.row in
      let fits₂ : number_at slot + 2 ≤ length b = omega arith in
      let long = length_put (number_at slot) (be16 a) b fits₂ in
      let fits₁ : row_at l slot + length rows ≤ length (put (number_at slot) (be16 a) b) = omega arith in
      let o₁ : row_at l slot + length rows ≤ P = omega arith in
      let o₂ : number_at slot + 2 ≤ P = omega arith in
      let z : pivot_row ms l c p b₂ ≡ pivot_row ms l c p b =
      ap (part P n) w
      ∙ part_put_other (row_at l slot) rows (put (number_at slot) (be16 a) b) fits₁ P n (inr o₁)
      ∙ part_put_other (number_at slot) (be16 a) b fits₂ P n (inr o₂) in
      subst (λ (m : Layout). pivot_row ms m c p b₂ ≡ pivot_row ms m c p b) r.layout z

  -- a new pivot is the row of its slot, and leaves the rows of the slots
  pub pivot_asks : (c p slot : ℕ) (b₂ : List ℕ) → c < length ms → p < 8 → slot < k.held
      → b₂ ≡ put (pivot_at l (offset ms c) (at ms c).width p) (slot_row ms l c slot b) b
      → (j : ℕ) (x y : List ℕ) → OwnAsks ms l k.held b₂ c p j x y → PivotAsks ms k b c slot j x y
  pivot_asks c p slot b₂ lt lp h w j x y t =
      let n = (at ms c).width in
      let P = pivot_at l (offset ms c) n p in
      let ends = row_ends ms c lt in
      let er = r.row in
      let pe = pivots_end in
      let hc = r.held in
      let re = rows_end slot (omega arith) in
      let long : length (slot_row ms l c slot b) ≡ n = length_part (row_at l slot + offset ms c) n b (omega arith) in
      let ne = next_le p 8 n lp in
      let d = r.sound.distances in
      let z = r.sound.size in
      let v = r.long in
      let fits : P + length (slot_row ms l c slot b) ≤ length b = omega arith in
      let i = t.2.0 in
      let ri = rows_end i (omega (arith, t.2.1)) in
      let o : (row_at l i + offset ms c) + n ≤ P = omega arith in
      let ey : y ≡ slot_row ms l c slot b = t.1 ∙ ap (part P n) w ∙ part_put_same P (slot_row ms l c slot b) b fits n (sym long) in
      let ex : x ≡ slot_row ms l c i b = t.2.2 ∙ ap (part (row_at l i + offset ms c) n) w ∙ part_put_other P (slot_row ms l c slot b) b fits (row_at l i + offset ms c) n (inl o) in
      (t.0, ey ∙ ap (λ (m : Layout). slot_row ms m c slot b) r.layout, (i, t.2.1, ex ∙ ap (λ (m : Layout). slot_row ms m c i b) r.layout))
