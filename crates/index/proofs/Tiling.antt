-- Fields that lie one after the other, joined: the bytes of a store are those of its fields.
use Rattle.std.proofs.Common.{◌≡◌, ℕ, zero, suc, ◌+◌, ◌*◌, ◌<◌, List, ◌++◌, length, take, drop, sym, ap, ◌∙◌, subst, inl, inr, add-mul, add-one, arith, take-add}
use Rattle.std.proofs.lemmas.List.{length-append, take-take, take_at, drop-take, drop-drop, drop_at, get_or_past}
use Rattle.std.proofs.lemmas.Bool.{cases_eq, cases_lt}
use Rattle.metric.specs.Model.{Model}
use Rattle.metric.specs.Channels.{at, no_model}
use Rattle.patch.specs.Patches.{offset, patch_width}
use Rattle.patch.proofs.Widths.{offset_more, offset_all}
use Rattle.index.specs.Bytes.{part}
use Rattle.index.specs.Image.{joined}
use Rattle.index.specs.Layouts.{layout_of}
use Rattle.index.proofs.Fields.{Field, number, rows, pivot, distance, start, long, Valid, view, size_is}

part_add : (at m n : ℕ) (b : List ℕ) → part at (m + n) b ≡ part at m b ++ part (at + m) n b
part_add at m n b = take-add m n (drop at b) ∙ ap (λ (x : List ℕ). part at m b ++ take n x) (drop-drop m at b)

-- and back
module _ (at m n : ℕ) (b xs ys : List ℕ) (e : part at (m + n) b ≡ xs ++ ys) (l : length xs ≡ m) where
  part_front : part at m b ≡ xs
  part_front = sym (take-take m (m + n) (drop at b) (omega arith)) ∙ ap (take m) e ∙ take_at xs ys m l

  part_rest : part (at + m) n b ≡ ys
  part_rest = ap (take n) (sym (drop-drop m at b)) ∙ sym (drop-take m n (drop at b)) ∙ ap (drop m) e ∙ drop_at xs ys m l

-- pieces of widths w i, the i-th of which begins o i bytes behind `at`
module _ (o w : ℕ → ℕ) (none : o 0 ≡ 0) (more : (i : ℕ) → o (suc i) ≡ o i + w i) (f : ℕ → List ℕ) where
  joined_long : (n : ℕ) → ((i : ℕ) → i < n → length (f i) ≡ w i) → length (joined n f) ≡ o n
  joined_long zero h = sym none
  joined_long (suc n) h =
      omega (arith, length-append (joined n f) (f n), joined_long n (λ i l. h i (omega arith)), h n (omega arith), more n)

  tiled : (at : ℕ) (b : List ℕ) (n : ℕ) → ((i : ℕ) → i < n → part (at + o i) (w i) b ≡ f i) → part at (o n) b ≡ joined n f
  tiled at b zero h = ap (λ (x : ℕ). part at x b) none
  tiled at b (suc n) h =
      ap (λ (x : ℕ). part at x b) (more n)
      ∙ part_add at (o n) (w n) b
      ∙ ap (λ (x : List ℕ). x ++ part (at + o n) (w n) b) (tiled at b n (λ i l. h i (omega arith)))
      ∙ ap (λ (x : List ℕ). joined n f ++ x) (h n (omega arith))

  untiled : (at : ℕ) (b : List ℕ) (n : ℕ) → ((i : ℕ) → i < n → length (f i) ≡ w i) → part at (o n) b ≡ joined n f → (i : ℕ) → i < n → part (at + o i) (w i) b ≡ f i
  untiled at b zero lens e i h = absurd (omega arith)
  untiled at b (suc n) lens e i h =
      let e' : part at (o n + w n) b ≡ joined n f ++ f n = ap (λ (x : ℕ). part at x b) (sym (more n)) ∙ e in
      let long-n : length (joined n f) ≡ o n = joined_long n (λ j l. lens j (omega arith)) in
      elim (cases_eq i n) [
        | inl z ↦ subst (λ (x : ℕ). part (at + o x) (w x) b ≡ f x) (sym z) (part_rest at (o n) (w n) b (joined n f) (f n) e' long-n)
        | inr ne ↦ untiled at b n (λ j l. lens j (omega arith)) (part_front at (o n) (w n) b (joined n f) (f n) e' long-n) i (omega (arith, ne))
      ]

-- rows of one width
row_more : (w i : ℕ) → suc i * w ≡ i * w + w
row_more w i = omega (arith, add-mul i 1 w)

row_none : (w : ℕ) → 0 * w ≡ 0
row_none w = omega arith

-- the rows of the channels
offset_next : (ms : List Model) (c : ℕ) → offset ms (suc c) ≡ offset ms c + (at ms c).width
offset_next ms c = elim (cases_lt c (length ms)) [
  | inl h ↦ ap (offset ms) (sym (add-one c)) ∙ offset_more ms c h
  | inr h ↦
      let p : (at ms c).width ≡ 0 = ap (λ (m : Model). m.width) (get_or_past ms c no_model h) in
      omega (arith, offset_all ms (suc c) (omega arith), offset_all ms c h)
]

module _ (ms : List Model) (cap : ℕ) (V : Field → List ℕ) where
  abbrev W : ℕ
  W = patch_width ms

  abbrev M : ℕ
  M = length ms

  abbrev numbers : List ℕ
  numbers = joined cap (λ i. V (number i))

  abbrev all_rows : List ℕ
  all_rows = joined cap (λ i. V (rows i))

  abbrev channel_pivots : ℕ → List ℕ
  channel_pivots c = joined 8 (λ p. V (pivot c p))

  abbrev all_pivots : List ℕ
  all_pivots = joined M channel_pivots

  abbrev channel_distances : ℕ → ℕ → List ℕ
  channel_distances i c = joined 8 (λ p. V (distance i c p))

  abbrev slot_distances : ℕ → List ℕ
  slot_distances i = joined M (channel_distances i)

  abbrev all_distances : List ℕ
  all_distances = joined cap slot_distances

  -- the fields in the order of the store
  abbrev pub fields : List ℕ
  fields = numbers ++ (all_rows ++ (all_pivots ++ all_distances))

  -- where the pivots of channel c, and the distances of slot i in it, begin
  abbrev pivots_at : ℕ → ℕ
  pivots_at c = 2 * cap + cap * W + 8 * offset ms c

  abbrev base : ℕ
  base = 2 * cap + cap * W + 8 * W

  pivot_none : 8 * offset ms 0 ≡ 0
  pivot_none = omega arith

  pivot_more : (c : ℕ) → 8 * offset ms (suc c) ≡ 8 * offset ms c + 8 * (at ms c).width
  pivot_more c = omega (arith, offset_next ms c)

  two_more : (p : ℕ) → 2 * suc p ≡ 2 * p + 2
  two_more p = omega arith

  slot_none : (0 * M) * 16 ≡ 0
  slot_none = omega arith

  slot_more : (i : ℕ) → (suc i * M) * 16 ≡ (i * M) * 16 + M * 16
  slot_more i = omega (arith, add-mul i 1 M)

  entry_at : (i c p : ℕ) → base + (i * M) * 16 + c * 16 + 2 * p ≡ start ms cap (distance i c p)
  entry_at i c p = omega arith

  all_offsets : 8 * offset ms M ≡ 8 * W
  all_offsets = ap (λ (x : ℕ). 8 * x) (offset_all ms M (omega arith))

  module _ (b : List ℕ) (shows : (F : Field) → Valid ms cap F → view ms cap b F ≡ V F) where
    number_part : part 0 (2 * cap) b ≡ numbers
    number_part = tiled (λ i. 2 * i) (λ _. 2) (row_none 2) two_more (λ i. V (number i)) 0 b cap
        (λ i h. let z : 0 + 2 * i ≡ 2 * i = omega arith in ap (λ (x : ℕ). part x 2 b) z ∙ shows (number i) h)

    rows_part : part (2 * cap) (cap * W) b ≡ all_rows
    rows_part = tiled (λ i. i * W) (λ _. W) (row_none W) (row_more W) (λ i. V (rows i)) (2 * cap) b cap (λ i h. shows (rows i) h)

    pivots_part : part (2 * cap + cap * W) (8 * W) b ≡ all_pivots
    pivots_part =
        ap (λ (x : ℕ). part (2 * cap + cap * W) x b) (sym all_offsets)
        ∙ tiled (λ c. 8 * offset ms c) (λ c. 8 * (at ms c).width) pivot_none pivot_more channel_pivots (2 * cap + cap * W) b M
        (λ c h. tiled (λ p. p * (at ms c).width) (λ _. (at ms c).width) (row_none (at ms c).width) (row_more (at ms c).width) (λ p. V (pivot c p)) (pivots_at c) b 8
        (λ p l. shows (pivot c p) (h, l)))

    distances_part : part base ((cap * M) * 16) b ≡ all_distances
    distances_part =
        tiled (λ i. (i * M) * 16) (λ _. M * 16) slot_none slot_more slot_distances base b cap (λ i h.
        tiled (λ c. c * 16) (λ _. 16) (row_none 16) (row_more 16) (channel_distances i) (base + (i * M) * 16) b M (λ c l.
        tiled (λ p. 2 * p) (λ _. 2) (row_none 2) two_more (λ p. V (distance i c p)) (base + (i * M) * 16 + c * 16) b 8 (λ p s.
        ap (λ (x : ℕ). part x 2 b) (entry_at i c p) ∙ shows (distance i c p) (h, l, s))))

    -- the bytes of the stated size are the fields
    pub fields_join : take (layout_of ms cap).size b ≡ fields
    fields_join =
        let e : (layout_of ms cap).size ≡ 2 * cap + (cap * W + (8 * W + (cap * M) * 16)) = omega (arith, size_is ms cap) in
        let z : 0 + 2 * cap ≡ 2 * cap = omega arith in
        ap (λ (x : ℕ). part 0 x b) e
        ∙ part_add 0 (2 * cap) (cap * W + (8 * W + (cap * M) * 16)) b
        ∙ ap (λ (x : ℕ). part 0 (2 * cap) b ++ part x (cap * W + (8 * W + (cap * M) * 16)) b) z
        ∙ ap (λ (x : List ℕ). part 0 (2 * cap) b ++ x)
        (part_add (2 * cap) (cap * W) (8 * W + (cap * M) * 16) b ∙ ap (λ (x : List ℕ). part (2 * cap) (cap * W) b ++ x) (part_add (2 * cap + cap * W) (8 * W) ((cap * M) * 16) b))
        ∙ λ i. number_part i ++ (rows_part i ++ (pivots_part i ++ distances_part i))

  -- and back
  module _ (lens : (F : Field) → Valid ms cap F → length (V F) ≡ long ms cap F) where
    numbers_long : length numbers ≡ 2 * cap
    numbers_long = joined_long (λ i. 2 * i) (λ _. 2) (row_none 2) two_more (λ i. V (number i)) cap (λ i h. lens (number i) h)

    rows_long : length all_rows ≡ cap * W
    rows_long = joined_long (λ i. i * W) (λ _. W) (row_none W) (row_more W) (λ i. V (rows i)) cap (λ i h. lens (rows i) h)

    channel_pivots_long : (c : ℕ) → c < M → length (channel_pivots c) ≡ 8 * (at ms c).width
    channel_pivots_long c h =
        joined_long (λ p. p * (at ms c).width) (λ _. (at ms c).width) (row_none (at ms c).width) (row_more (at ms c).width) (λ p. V (pivot c p)) 8 (λ p l. lens (pivot c p) (h, l))

    pivots_long : length all_pivots ≡ 8 * W
    pivots_long = joined_long (λ c. 8 * offset ms c) (λ c. 8 * (at ms c).width) pivot_none pivot_more channel_pivots M channel_pivots_long ∙ all_offsets

    channel_distances_long : (i c : ℕ) → i < cap → c < M → length (channel_distances i c) ≡ 16
    channel_distances_long i c h l = joined_long (λ p. 2 * p) (λ _. 2) (row_none 2) two_more (λ p. V (distance i c p)) 8 (λ p s. lens (distance i c p) (h, l, s))

    slot_distances_long : (i : ℕ) → i < cap → length (slot_distances i) ≡ M * 16
    slot_distances_long i h = joined_long (λ c. c * 16) (λ _. 16) (row_none 16) (row_more 16) (channel_distances i) M (λ c l. channel_distances_long i c h l)

    distances_long : length all_distances ≡ (cap * M) * 16
    distances_long = joined_long (λ i. (i * M) * 16) (λ _. M * 16) slot_none slot_more slot_distances cap slot_distances_long

    pub fields_long : length fields ≡ (layout_of ms cap).size
    fields_long =
        omega (
          arith,
          size_is ms cap,
          numbers_long,
          rows_long,
          pivots_long,
          distances_long,
          length-append numbers (all_rows ++ (all_pivots ++ all_distances)),
          length-append all_rows (all_pivots ++ all_distances),
          length-append all_pivots all_distances,
        )

    module _ (b : List ℕ) (e : take (layout_of ms cap).size b ≡ fields) where
      whole : part 0 (2 * cap + (cap * W + (8 * W + (cap * M) * 16))) b ≡ fields
      whole =
          let z : 2 * cap + (cap * W + (8 * W + (cap * M) * 16)) ≡ (layout_of ms cap).size = omega (arith, size_is ms cap) in
          ap (λ (x : ℕ). part 0 x b) z ∙ e

      behind_numbers : part (2 * cap) (cap * W + (8 * W + (cap * M) * 16)) b ≡ all_rows ++ (all_pivots ++ all_distances)
      behind_numbers =
          let z : 2 * cap ≡ 0 + 2 * cap = omega arith in
          ap (λ (x : ℕ). part x (cap * W + (8 * W + (cap * M) * 16)) b) z
          ∙ part_rest 0 (2 * cap) (cap * W + (8 * W + (cap * M) * 16)) b numbers (all_rows ++ (all_pivots ++ all_distances)) whole numbers_long

      behind_rows : part (2 * cap + cap * W) (8 * W + (cap * M) * 16) b ≡ all_pivots ++ all_distances
      behind_rows = part_rest (2 * cap) (cap * W) (8 * W + (cap * M) * 16) b all_rows (all_pivots ++ all_distances) behind_numbers rows_long

      part_of_pivots : part (2 * cap + cap * W) (8 * offset ms M) b ≡ all_pivots
      part_of_pivots =
          ap (λ (x : ℕ). part (2 * cap + cap * W) x b) all_offsets
          ∙ part_front (2 * cap + cap * W) (8 * W) ((cap * M) * 16) b all_pivots all_distances behind_rows pivots_long

      part_of_distances : part base ((cap * M) * 16) b ≡ all_distances
      part_of_distances = part_rest (2 * cap + cap * W) (8 * W) ((cap * M) * 16) b all_pivots all_distances behind_rows pivots_long

      -- each field of a store whose bytes are the fields
      pub fields_split : (F : Field) → Valid ms cap F → view ms cap b F ≡ V F
      fields_split (number i) v =
          let z : 2 * i ≡ 0 + 2 * i = omega arith in
          ap (λ (x : ℕ). part x 2 b) z
          ∙ untiled (λ j. 2 * j) (λ _. 2) (row_none 2) two_more (λ j. V (number j)) 0 b cap (λ j h. lens (number j) h)
          (part_front 0 (2 * cap) (cap * W + (8 * W + (cap * M) * 16)) b numbers (all_rows ++ (all_pivots ++ all_distances)) whole numbers_long) i v
      fields_split (rows i) v =
          untiled (λ j. j * W) (λ _. W) (row_none W) (row_more W) (λ j. V (rows j)) (2 * cap) b cap (λ j h. lens (rows j) h)
          (part_front (2 * cap) (cap * W) (8 * W + (cap * M) * 16) b all_rows (all_pivots ++ all_distances) behind_numbers rows_long) i v
      fields_split (pivot c p) v =
          untiled (λ q. q * (at ms c).width) (λ _. (at ms c).width) (row_none (at ms c).width) (row_more (at ms c).width) (λ q. V (pivot c q)) (pivots_at c) b 8 (λ q l. lens (pivot c q) (v.0, l))
          (untiled (λ d. 8 * offset ms d) (λ d. 8 * (at ms d).width) pivot_none pivot_more channel_pivots (2 * cap + cap * W) b M channel_pivots_long part_of_pivots c v.0) p v.1
      fields_split (distance i c p) v =
          ap (λ (x : ℕ). part x 2 b) (sym (entry_at i c p))
          ∙ untiled (λ q. 2 * q) (λ _. 2) (row_none 2) two_more (λ q. V (distance i c q)) (base + (i * M) * 16 + c * 16) b 8 (λ q l. lens (distance i c q) (v.0, v.1, l))
          (untiled (λ d. d * 16) (λ _. 16) (row_none 16) (row_more 16) (channel_distances i) (base + (i * M) * 16) b M (λ d l. channel_distances_long i d v.0 l)
          (untiled (λ j. (j * M) * 16) (λ _. M * 16) slot_none slot_more slot_distances base b cap slot_distances_long part_of_distances i v.0) c v.1) p v.2
