-- The loops of src/steps.rt, a turn each.
use Rattle.std.proofs.Common.{◌≡◌, ℕ, ◌+◌, ◌-◌, ◌<◌, ◌≤◌, List, length, take, drop, sym, refl, ap, ◌∙◌, subst, inl, inr, ⊎_elim, arith}
use Rattle.metric.specs.Model.{Model}
use Rattle.metric.specs.Channels.{Asked, AddsAt, at}
use Rattle.big_endian.specs.Numbers.{be16}
use Rattle.patch.specs.Patches.{few, offset, patch_width, row}
use Rattle.patch.proofs.Widths.{few_at, row_ends}
use Rattle.index.specs.declared.counts.Counts.{Counts}
use Rattle.index.specs.declared.layout.Layout.{Layout}
use Rattle.index.specs.Asks.{AddsOnly, InsertAsks}
use Rattle.index.specs.Bytes.{put, part}
use Rattle.index.specs.Layouts.{layout_of, row_at, pivot_at, distance_at}
use Rattle.index.specs.Limits.{pivots_in}
use Rattle.index.specs.Steps.{slot_row, pivot_row, store_distance}
use Rattle.index.specs.Works.{Ready, InUse}
use Rattle.index.proofs.Puts.{part_same, cut, length_part}
use Rattle.index.proofs.Spans.{next_le}

-- the row as code cuts it
pub row_cut : (ms : List Model) (l : Layout) (c start w : ℕ) (rows : List ℕ) → InUse ms l c start w → take ((start + w) - start) (drop start rows) ≡ row (few ms) c rows
row_cut ms l c start w rows u =
    cut start w rows ∙ ap (λ (n : ℕ). part start n rows) u.wide ∙ ap (λ (n : ℕ). part n (at (few ms) c).width rows) u.begins

pub row_long : (ms : List Model) (l : Layout) (c start w : ℕ) (rows : List ℕ) → InUse ms l c start w → length rows ≡ l.row → length (row (few ms) c rows) ≡ (at (few ms) c).width
row_long ms l c start w rows u e = length_part (offset (few ms) c) (at (few ms) c).width rows (omega (arith, u.inside, u.begins, u.wide))

-- where the row of a pivot begins
pub pivot_begins : (ms : List Model) (l : Layout) (c start w p from : ℕ) → InUse ms l c start w → from ≡ pivot_at l start w p → from ≡ pivot_at l (offset (few ms) c) (at (few ms) c).width p
pivot_begins ms l c start w p from u e =
    e ∙ ap (λ (n : ℕ). pivot_at l n w p) u.begins ∙ ap (λ (n : ℕ). pivot_at l (offset (few ms) c) n p) u.wide

-- the row of a pivot that ends below `distances`, where the stores agree there
pub pivot_same : (ms : List Model) (l : Layout) (c p n from : ℕ) (b b₀ : List ℕ) → n ≡ (at ms c).width → from ≡ pivot_at l (offset ms c) (at ms c).width p → from + n ≤ l.distances
    → take l.distances b ≡ take l.distances b₀ → part from n b ≡ pivot_row ms l c p b₀
pivot_same ms l c p n from b b₀ en ef h below =
    part_same l.distances from n b b₀ h below ∙ ap (λ (m : ℕ). part m n b₀) ef ∙ ap (λ (m : ℕ). part (pivot_at l (offset ms c) (at ms c).width p) m b₀) en

-- the same of the row of a slot
pub own_row_same : (ms : List Model) (l : Layout) (c slot n own : ℕ) (b b₀ : List ℕ) → n ≡ (at ms c).width → own ≡ row_at l slot + offset ms c → own + n ≤ l.distances
    → take l.distances b ≡ take l.distances b₀ → part own n b ≡ slot_row ms l c slot b₀
own_row_same ms l c slot n own b b₀ en eo h below =
    part_same l.distances own n b b₀ h below ∙ ap (λ (m : ℕ). part m n b₀) eo ∙ ap (λ (m : ℕ). part (row_at l slot + offset ms c) m b₀) en

-- the row of a pivot as code cuts it, and that of a slot
pub pivot_cut : (ms : List Model) (l : Layout) (c start w p from : ℕ) (b : List ℕ) → InUse ms l c start w → from ≡ pivot_at l start w p → take ((from + w) - from) (drop from b) ≡ pivot_row (few ms) l c p b
pivot_cut ms l c start w p from b u e =
    cut from w b ∙ ap (λ (n : ℕ). part n w b) (e ∙ ap (λ (n : ℕ). pivot_at l n w p) u.begins) ∙ ap (λ (n : ℕ). part (pivot_at l (offset (few ms) c) n p) n b) u.wide

pub own_cut : (ms : List Model) (l : Layout) (c start w slot at_row : ℕ) (b : List ℕ) → InUse ms l c start w → at_row ≡ row_at l slot → take (((at_row + start) + w) - (at_row + start)) (drop (at_row + start) b) ≡ slot_row (few ms) l c slot b
own_cut ms l c start w slot at_row b u e =
    cut (at_row + start) w b ∙ ap (λ (n : ℕ). part (n + start) w b) e ∙ ap (λ (n : ℕ). part (row_at l slot + n) w b) u.begins ∙ ap (λ (n : ℕ). part (row_at l slot + offset (few ms) c) n b) u.wide

-- one pair more is asked, which is among P
pub adds_pair : (before mid after P : Asked) (c : ℕ) (a b : List ℕ) → AddsOnly before mid P → AddsAt mid after c a b → P c a b → AddsOnly before after P
adds_pair before mid after P c a b h e p k x y t =
    ⊎_elim (λ u. h k x y u)
    (λ v. inr (subst (λ (j : ℕ). P j x y) (sym v.0) (subst (λ (r : List ℕ). P c r y) (sym v.1) (subst (λ (r : List ℕ). P c a r) (sym v.2) p))))
    (e k x y t)

pub adds_none : (before P : Asked) → AddsOnly before before P
adds_none before P k x y t = inl t

-- more pairs are asked, which are among P
pub adds_more : (before mid after P : Asked) → AddsOnly before mid P → AddsOnly mid after P → AddsOnly before after P
adds_more before mid after P h e k x y t = ⊎_elim (λ u. h k x y u) inr (e k x y t)

-- a wider P
pub adds_among : (before after P Q : Asked) → ((c : ℕ) (x y : List ℕ) → P c x y → Q c x y) → AddsOnly before after P → AddsOnly before after Q
adds_among before after P Q w h k x y t = ⊎_elim inl (λ p. inr (w k x y p)) (h k x y t)

module _ (ms : List Model) (k : Counts) (b b₀ : List ℕ) (rows : List ℕ) where
  -- pivots that lie in both stores alike
  pub insert_asks_same : ((c p : ℕ) → c < length ms → p < pivots_in k c → pivot_row ms (layout_of ms k.capacity) c p b ≡ pivot_row ms (layout_of ms k.capacity) c p b₀)
      → (c : ℕ) (x y : List ℕ) → InsertAsks ms k b rows c x y → InsertAsks ms k b₀ rows c x y
  insert_asks_same e c x y h = (h.0, h.1, (h.2.0, h.2.1, h.2.2 ∙ e c h.2.0 h.0 h.2.1))

-- a turn of the loop over a channel's pivots
module _ (ms ms₁ : List Model) (same : ms₁ ≡ ms) (c : ℕ) (h : c < length (few ms)) where
  -- the distance that the set answers is that of the channels in use
  pub model_in_use : at ms₁ c ≡ at (few ms) c
  model_in_use = ap (λ (l : List Model). at l c) same ∙ sym (few_at ms c h)

  -- a distance is stored
  pub stored : (l : Layout) (slot p to d : ℕ) (x x₁ y b b₁ : List ℕ) → to ≡ distance_at l slot c p → d ≡ (at ms₁ c).dist x₁ y → x₁ ≡ x → y ≡ pivot_row (few ms) l c p b → b₁ ≡ put to (be16 d) b
      → b₁ ≡ store_distance (few ms) l slot c x p b
  stored l slot p to d x x₁ y b b₁ et ed ex ey wrote =
      wrote
      ∙ ap (λ (n : ℕ). put n (be16 d) b) et
      ∙ ap (λ (n : ℕ). put (distance_at l slot c p) (be16 n) b) (ed ∙ ap (λ (m : Model). m.dist x₁ y) model_in_use ∙ ap (λ (r : List ℕ). (at (few ms) c).dist r y) ex ∙ ap ((at (few ms) c).dist x) ey)

-- the set and the store have changed, but not what the set means, nor how long the store is
pub ready_again : (ms ms₁ : List Model) (k : Counts) (l : Layout) (b b₁ : List ℕ) → ms₁ ≡ ms → length b₁ ≡ length b → Ready (few ms) k l b → Ready (few ms₁) k l b₁
ready_again ms ms₁ k l b b₁ same long r = record {
  sound = r.sound;
  layout = r.layout ∙ ap (λ (ls : List Model). layout_of (few ls) k.capacity) (sym same);
  slots = r.slots;
  row = r.row ∙ ap (λ (ls : List Model). patch_width (few ls)) (sym same);
  channels = r.channels ∙ ap (λ (ls : List Model). length (few ls)) (sym same);
  long = omega (arith, r.long);
  held = r.held;
  eight = r.eight;
}

-- the row of a pivot that is held ends below `distances`
pub pivot_ends : (ms : List Model) (k : Counts) (l : Layout) (b : List ℕ) (c p : ℕ) → Ready ms k l b → c < length ms → p < 8
    → pivot_at l (offset ms c) (at ms c).width p + (at ms c).width ≤ l.distances
pivot_ends ms k l b c p r h lt =
    omega (arith, r.row, r.sound.distances, next_le p 8 (at ms c).width lt, row_ends ms c h)

-- rows in stores that agree below `distances`
pub pivot_kept : (ms : List Model) (k : Counts) (l : Layout) (b b₀ : List ℕ) (c p : ℕ) → Ready ms k l b₀ → c < length ms → p < 8 → take l.distances b ≡ take l.distances b₀ → pivot_row ms l c p b ≡ pivot_row ms l c p b₀
pivot_kept ms k l b b₀ c p r h lt below = pivot_same ms l c p _ _ b b₀ refl refl (pivot_ends ms k l b₀ c p r h lt) below

pub slot_same : (ms : List Model) (k : Counts) (l : Layout) (b b₀ : List ℕ) (c slot : ℕ) → Ready ms k l b₀ → c < length ms → slot < k.capacity → take l.distances b ≡ take l.distances b₀ → slot_row ms l c slot b ≡ slot_row ms l c slot b₀
slot_same ms k l b b₀ c slot r h lt below =
    let s : slot < l.capacity = omega (arith, r.slots) in
    let e : (row_at l slot + offset ms c) + (at ms c).width ≤ l.distances = omega (arith, r.row, r.sound.pivots, r.sound.distances, next_le slot l.capacity l.row s, row_ends ms c h) in
    own_row_same ms l c slot _ _ b b₀ refl refl e below

-- pairs asked of stores that agree below `distances`
pub insert_asks_below : (ms ms₁ : List Model) (k : Counts) (l : Layout) (b b₀ rows : List ℕ) → ms₁ ≡ ms → Ready (few ms) k l b₀ → take l.distances b ≡ take l.distances b₀
    → (c : ℕ) (x y : List ℕ) → InsertAsks (few ms₁) k b rows c x y → InsertAsks (few ms) k b₀ rows c x y
insert_asks_below ms ms₁ k l b b₀ rows same r below c x y h =
    insert_asks_same (few ms) k b b₀ rows
    (λ j p lt q.
    let lt8 : p < 8 = omega (arith, r.eight j) in
    let z = pivot_kept (few ms) k l b b₀ j p r lt lt8 below in
    subst (λ (m : Layout). pivot_row (few ms) m j p b ≡ pivot_row (few ms) m j p b₀) r.layout z)
    c x y (subst (λ (ls : List Model). InsertAsks (few ls) k b rows c x y) same h)
