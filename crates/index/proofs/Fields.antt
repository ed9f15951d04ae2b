-- The store as fields: accession numbers, rows, pivots, distances. Two different fields do not overlap.
use Rattle.std.proofs.Common.{◌≡◌, ℕ, zero, suc, ◌+◌, ◌-◌, ◌*◌, ◌<◌, ◌≤◌, ◌⊎◌, List, length, take, sum_by, sym, refl, ap, ◌∙◌, subst, inl, inr, mul_assoc, mul_comm, mul-add, arith}
use Rattle.std.proofs.lemmas.List.{take-take}
use Rattle.std.proofs.lemmas.List.Sums.{sum_by-take-le}
use Rattle.std.proofs.lemmas.Bool.{cases_order}
use Rattle.metric.specs.Model.{Model}
use Rattle.metric.specs.Channels.{at}
use Rattle.patch.specs.Patches.{width_of, offset, patch_width, row}
use Rattle.patch.proofs.Widths.{offset_more, row_ends}
use Rattle.index.specs.Bytes.{part}
use Rattle.index.specs.Layouts.{layout_of, number_at, row_at, pivot_at, distance_at}
use Rattle.index.specs.Steps.{slot_row}
use Rattle.index.proofs.Puts.{Apart, part_part}
use Rattle.index.proofs.Spans.{next_le}

pub data Field : Type 0 where
  number : (slot : ℕ) → Field
  rows : (slot : ℕ) → Field
  pivot : (c p : ℕ) → Field
  distance : (slot c p : ℕ) → Field

-- a field by its coordinates
abbrev pub region : Field → ℕ
region (number i) = 0
region (rows i) = 1
region (pivot c p) = 2
region (distance i c p) = 3

abbrev pub slot_of : Field → ℕ
slot_of (number i) = i
slot_of (rows i) = i
slot_of (pivot c p) = 0
slot_of (distance i c p) = i

abbrev pub channel_of : Field → ℕ
channel_of (number i) = 0
channel_of (rows i) = 0
channel_of (pivot c p) = c
channel_of (distance i c p) = c

abbrev pub pivot_of : Field → ℕ
pivot_of (number i) = 0
pivot_of (rows i) = 0
pivot_of (pivot c p) = p
pivot_of (distance i c p) = p

abbrev field : (region slot channel pivot : ℕ) → Field
field zero i c p = number i
field (suc zero) i c p = rows i
field (suc (suc zero)) i c p = pivot c p
field (suc (suc (suc r))) i c p = distance i c p

field_is : (F : Field) → field (region F) (slot_of F) (channel_of F) (pivot_of F) ≡ F
field_is (number i) = refl
field_is (rows i) = refl
field_is (pivot c p) = refl
field_is (distance i c p) = refl

abbrev pub Ne : ℕ → ℕ → Type 0
Ne i j = (i < j) ⊎ (j < i)

-- two fields that differ
abbrev pub Differs : Field → Field → Type 0
Differs F G = Ne (region F) (region G) ⊎ (Ne (slot_of F) (slot_of G) ⊎ (Ne (channel_of F) (channel_of G) ⊎ Ne (pivot_of F) (pivot_of G)))

same_field : (F G : Field) → region F ≡ region G → slot_of F ≡ slot_of G → channel_of F ≡ channel_of G → pivot_of F ≡ pivot_of G → F ≡ G
same_field F G r s c p =
    sym (field_is F)
    ∙ ap (λ (x : ℕ). field x (slot_of F) (channel_of F) (pivot_of F)) r
    ∙ ap (λ (x : ℕ). field (region G) x (channel_of F) (pivot_of F)) s
    ∙ ap (λ (x : ℕ). field (region G) (slot_of G) x (pivot_of F)) c
    ∙ ap (λ (x : ℕ). field (region G) (slot_of G) (channel_of G) x) p
    ∙ field_is G

pub cases_field : (F G : Field) → (F ≡ G) ⊎ Differs F G
cases_field F G =
    elim (cases_order (region F) (region G)) [
      | inr n ↦ inr (inl n)
      | inl r ↦ elim (cases_order (slot_of F) (slot_of G)) [
        | inr n ↦ inr (inr (inl n))
        | inl s ↦ elim (cases_order (channel_of F) (channel_of G)) [
          | inr n ↦ inr (inr (inr (inl n)))
          | inl c ↦ elim (cases_order (pivot_of F) (pivot_of G)) [
            | inr n ↦ inr (inr (inr (inr n)))
            | inl p ↦ inl (same_field F G r s c p)
          ]
        ]
      ]
    ]

-- fields that differ in nothing else differ in their slot, or in their pivot
pub slot_differs : (F G : Field) → Differs F G → region F ≡ region G → channel_of F ≡ channel_of G → pivot_of F ≡ pivot_of G → Ne (slot_of F) (slot_of G)
slot_differs F G (inl n) r c p = absurd (omega arith)
slot_differs F G (inr (inl n)) r c p = n
slot_differs F G (inr (inr (inl n))) r c p = absurd (omega arith)
slot_differs F G (inr (inr (inr n))) r c p = absurd (omega arith)

pub pivot_differs : (F G : Field) → Differs F G → region F ≡ region G → slot_of F ≡ slot_of G → Ne (channel_of F) (channel_of G) ⊎ Ne (pivot_of F) (pivot_of G)
pivot_differs F G (inl n) r s = absurd (omega arith)
pivot_differs F G (inr (inl n)) r s = absurd (omega arith)
pivot_differs F G (inr (inr n)) r s = n

module _ (ms : List Model) (cap : ℕ) where
  -- where a field begins, and how many bytes it has
  abbrev pub start : Field → ℕ
  start (number i) = number_at i
  start (rows i) = row_at (layout_of ms cap) i
  start (pivot c p) = pivot_at (layout_of ms cap) (offset ms c) (at ms c).width p
  start (distance i c p) = distance_at (layout_of ms cap) i c p

  abbrev pub long : Field → ℕ
  long (number i) = 2
  long (rows i) = patch_width ms
  long (pivot c p) = (at ms c).width
  long (distance i c p) = 2

  -- the fields that there are
  abbrev pub Valid : Field → Type 0
  Valid (number i) = i < cap
  Valid (rows i) = i < cap
  Valid (pivot c p) = (c < length ms) × (p < 8)
  Valid (distance i c p) = (i < cap) × (c < length ms) × (p < 8)

  abbrev pub view : List ℕ → Field → List ℕ
  view b F = part (start F) (long F) b

  -- the regions lie one after the other
  abbrev extent : ℕ → ℕ
  extent zero = 2 * cap
  extent (suc zero) = cap * patch_width ms
  extent (suc (suc zero)) = 8 * patch_width ms
  extent (suc (suc (suc r))) = (cap * length ms) * 16

  abbrev base : ℕ → ℕ
  base zero = 0
  base (suc r) = base r + extent r

  base_le : (r j : ℕ) → base r ≤ base (j + r)
  base_le r zero = let e : 0 + r ≡ r = omega arith in rw e (omega arith)
  base_le r (suc j) = let e : suc j + r ≡ suc (j + r) = omega arith in rw e (omega (arith, base_le r j))

  pub size_is : (layout_of ms cap).size ≡ base 4
  size_is =
      omega (
        arith,
        mul-add cap 2 (patch_width ms),
        mul-add cap (2 + patch_width ms) (16 * length ms),
        mul_comm 16 (length ms),
        mul_assoc cap (length ms) 16,
        ap (λ (x : ℕ). cap * x) (mul_comm 16 (length ms)),
      )

  starts_in : (F : Field) → base (region F) ≤ start F
  starts_in (number i) = omega arith
  starts_in (rows i) = omega arith
  starts_in (pivot c p) = omega arith
  starts_in (distance i c p) = omega arith

  ends_in : (F : Field) → Valid F → start F + long F ≤ base (suc (region F))
  ends_in (number i) v = omega arith
  ends_in (rows i) v = omega (arith, next_le i cap (patch_width ms) v)
  ends_in (pivot c p) v = omega (arith, next_le p 8 (at ms c).width v.1, row_ends ms c v.0)
  ends_in (distance i c p) v = omega (arith, next_le i cap (length ms) v.0)

  pub field_ends : (F : Field) → Valid F → start F + long F ≤ (layout_of ms cap).size
  field_ends F v =
      let e : 4 ≡ (3 - region F) + suc (region F) = last_region F in
      omega (arith, size_is, ends_in F v, base_le (suc (region F)) (3 - region F), ap base e)
    where
      last_region : (G : Field) → 4 ≡ (3 - region G) + suc (region G)
      last_region (number i) = omega arith
      last_region (rows i) = omega arith
      last_region (pivot c p) = omega arith
      last_region (distance i c p) = omega arith

  -- a field of an earlier region
  pub regions_apart : (F G : Field) → Valid F → region F < region G → start F + long F ≤ start G
  regions_apart F G v h =
      let e : region G ≡ (region G - suc (region F)) + suc (region F) = omega arith in
      omega (arith, ends_in F v, starts_in G, base_le (suc (region F)) (region G - suc (region F)), ap base e)

  offset_before : (c d : ℕ) → c < d → d < length ms → offset ms c + (at ms c).width ≤ offset ms d
  offset_before c d h k =
      omega (arith, offset_more ms c (omega arith), sum_by-take-le width_of (take d ms) (c + 1), ap (sum_by width_of) (take-take (c + 1) d ms (omega arith)))

  pivots_apart : (c d p q : ℕ) → c < d → d < length ms → p < 8 → start (pivot c p) + (at ms c).width ≤ start (pivot d q)
  pivots_apart c d p q h k l = omega (arith, next_le p 8 (at ms c).width l, offset_before c d h k)

  channel_apart : (c d p q : ℕ) → c ≡ d → p < q → start (pivot c p) + (at ms c).width ≤ start (pivot d q)
  channel_apart c d p q e h =
      subst (λ (x : ℕ). start (pivot c p) + (at ms c).width ≤ start (pivot x q)) e (omega (arith, next_le p q (at ms c).width h))

  slots_apart : (i j c d p q : ℕ) → i < j → c < length ms → p < 8 → start (distance i c p) + 2 ≤ start (distance j d q)
  slots_apart i j c d p q h k l = omega (arith, next_le i j (length ms) h)

  slot_apart : (i j c d p q : ℕ) → i ≡ j → c < d → p < 8 → start (distance i c p) + 2 ≤ start (distance j d q)
  slot_apart i j c d p q e h l = let z : i * length ms ≡ j * length ms = ap (λ (x : ℕ). x * length ms) e in omega arith

  entry_apart : (i j c d p q : ℕ) → i ≡ j → c ≡ d → p < q → start (distance i c p) + 2 ≤ start (distance j d q)
  entry_apart i j c d p q e f h = let z : i * length ms ≡ j * length ms = ap (λ (x : ℕ). x * length ms) e in omega arith

  distances_apart : (i j c d p q : ℕ) → (i < cap) × (c < length ms) × (p < 8) → (j < cap) × (d < length ms) × (q < 8) → Differs (distance i c p) (distance j d q)
      → Apart (start (distance i c p)) 2 (start (distance j d q)) 2
  distances_apart i j c d p q v w n =
      elim (cases_order i j) [
        | inr s ↦ elim s [ inl h ↦ inl (slots_apart i j c d p q h v.1 v.2) | inr h ↦ inr (slots_apart j i d c q p h w.1 w.2) ]
        | inl e ↦ elim (cases_order c d) [
          | inr s ↦ elim s [ inl h ↦ inl (slot_apart i j c d p q e h v.2) | inr h ↦ inr (slot_apart j i d c q p (sym e) h w.2) ]
          | inl f ↦ elim (cases_order p q) [
            | inr s ↦ elim s [ inl h ↦ inl (entry_apart i j c d p q e f h) | inr h ↦ inr (entry_apart j i d c q p (sym e) (sym f) h) ]
            | inl g ↦ absurd (omega arith)
          ]
        ]
      ]

  rows_of_pivots_apart : (c d p q : ℕ) → (c < length ms) × (p < 8) → (d < length ms) × (q < 8) → Differs (pivot c p) (pivot d q)
      → Apart (start (pivot c p)) (at ms c).width (start (pivot d q)) (at ms d).width
  rows_of_pivots_apart c d p q v w n =
      elim (cases_order c d) [
        | inr s ↦ elim s [ inl h ↦ inl (pivots_apart c d p q h w.0 v.1) | inr h ↦ inr (pivots_apart d c q p h v.0 w.1) ]
        | inl f ↦ elim (cases_order p q) [
          | inr s ↦ elim s [ inl h ↦ inl (channel_apart c d p q f h) | inr h ↦ inr (channel_apart d c q p (sym f) h) ]
          | inl g ↦ absurd (omega arith)
        ]
      ]

  numbers_apart : (i j : ℕ) → Differs (number i) (number j) → Apart (number_at i) 2 (number_at j) 2
  numbers_apart i j n =
      elim (cases_order i j) [ inr s ↦ elim s [ inl h ↦ inl (omega arith) | inr h ↦ inr (omega arith) ] | inl e ↦ absurd (omega arith) ]

  rows_apart : (i j : ℕ) → Differs (rows i) (rows j) → Apart (start (rows i)) (patch_width ms) (start (rows j)) (patch_width ms)
  rows_apart i j n =
      elim (cases_order i j) [
        | inr s ↦ elim s [ inl h ↦ inl (omega (arith, next_le i j (patch_width ms) h)) | inr h ↦ inr (omega (arith, next_le j i (patch_width ms) h)) ]
        | inl e ↦ absurd (omega arith)
      ]

  region_apart : (F G : Field) → Valid F → Valid G → region F ≡ region G → Differs F G → Apart (start F) (long F) (start G) (long G)
  region_apart (number i) (number j) v w e n = numbers_apart i j n
  region_apart (number i) (rows j) v w e n = absurd (omega arith)
  region_apart (number i) (pivot d q) v w e n = absurd (omega arith)
  region_apart (number i) (distance j d q) v w e n = absurd (omega arith)
  region_apart (rows i) (number j) v w e n = absurd (omega arith)
  region_apart (rows i) (rows j) v w e n = rows_apart i j n
  region_apart (rows i) (pivot d q) v w e n = absurd (omega arith)
  region_apart (rows i) (distance j d q) v w e n = absurd (omega arith)
  region_apart (pivot c p) (number j) v w e n = absurd (omega arith)
  region_apart (pivot c p) (rows j) v w e n = absurd (omega arith)
  region_apart (pivot c p) (pivot d q) v w e n = rows_of_pivots_apart c d p q v w n
  region_apart (pivot c p) (distance j d q) v w e n = absurd (omega arith)
  region_apart (distance i c p) (number j) v w e n = absurd (omega arith)
  region_apart (distance i c p) (rows j) v w e n = absurd (omega arith)
  region_apart (distance i c p) (pivot d q) v w e n = absurd (omega arith)
  region_apart (distance i c p) (distance j d q) v w e n = distances_apart i j c d p q v w n

  -- two different fields do not overlap
  pub apart : (F G : Field) → Valid F → Valid G → Differs F G → Apart (start F) (long F) (start G) (long G)
  apart F G v w n =
      elim (cases_order (region F) (region G)) [
        | inl e ↦ region_apart F G v w e n
        | inr s ↦ elim s [ inl h ↦ inl (regions_apart F G v h) | inr h ↦ inr (regions_apart G F w h) ]
      ]

  -- the row of a channel within the rows of a slot
  pub slot_row_is : (c i : ℕ) (y r : List ℕ) → c < length ms → view y (rows i) ≡ r → slot_row ms (layout_of ms cap) c i y ≡ row ms c r
  slot_row_is c i y r h e =
      sym (part_part (start (rows i)) (patch_width ms) (offset ms c) (at ms c).width y (row_ends ms c h))
      ∙ ap (λ (x : List ℕ). part (offset ms c) (at ms c).width x) e
