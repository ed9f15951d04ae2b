-- What is read of a channel is what the tables of the store have there.
use Rattle.std.proofs.Common.{◌≡◌, ℕ, ◌+◌, ◌*◌, ◌<◌, ◌≤◌, List, map, get_or, drop, ap, ◌∙◌, arith}
use Rattle.std.specs.List.{range_with_len}
use Rattle.std.proofs.lemmas.List.{get_or-take, get_or-drop}
use Rattle.metric.specs.Model.{Model}
use Rattle.metric.specs.Channels.{at}
use Rattle.refine.specs.Bounds.{lower_of, upper_of}
use Rattle.refine.proofs.Channels.{same_counting}
use Rattle.index.specs.declared.counts.Counts.{Counts}
use Rattle.index.specs.declared.layout.Layout.{Layout}
use Rattle.index.specs.Bytes.{part, get16}
use Rattle.index.specs.Layouts.{layout_of, distance_at}
use Rattle.index.specs.Limits.{pivots_in}
use Rattle.promise.specs.Held.{near, far}
use Rattle.search.specs.Walks.{firsts, stored, NearIn}

part_at : (at n i j : ℕ) (b : List ℕ) → i < n → at + i ≡ j → get_or (part at n b) i 0 ≡ get_or b j 0
part_at at n i j b h e = get_or-take n (drop at b) i 0 h ∙ get_or-drop at b i 0 ∙ ap (λ (m : ℕ). get_or b m 0) e

stored_one : (l : Layout) (slot c p : ℕ) (b : List ℕ) → p < 8 → get16 (2 * p) (part (distance_at l slot c 0) 16 b) ≡ get16 (distance_at l slot c p) b
stored_one l slot c p b h =
    let x = part_at (distance_at l slot c 0) 16 (2 * p) (distance_at l slot c p) b (omega arith) (omega arith) in
    let y = part_at (distance_at l slot c 0) 16 (2 * p + 1) (distance_at l slot c p + 1) b (omega arith) (omega arith) in
    omega arith

-- the numbers of two bytes at a slot's distances
far_at : Layout → (slot c : ℕ) → List ℕ → ℕ → List ℕ
far_at l slot c b n = map (λ p. get16 (distance_at l slot c p) b) (range_with_len 0 n)

module _ (ms : List Model) (k : Counts) (l : Layout) (b q : List ℕ) (slot c n : ℕ) (xs ys : List ℕ) where
  far_read : l ≡ layout_of ms k.capacity → n ≡ pivots_in k c → n ≤ 8 → ys ≡ part (distance_at l slot c 0) 16 b → stored n ys ≡ far ms k b q slot c
  unfolding far_at
  far_read e m h z =
      ap (stored n) z
      ∙ same_counting (λ p. get16 (2 * p) (part (distance_at l slot c 0) 16 b)) (λ p. get16 (distance_at l slot c p) b) n (λ p g. stored_one l slot c p b (omega arith))
      ∙ (λ i. far_at (e i) slot c b (m i))

  near_read : n ≡ pivots_in k c → NearIn ms k b q c xs → firsts n xs ≡ near ms k b q c
  near_read m t = ap (λ (j : ℕ). firsts j xs) m ∙ t.first

  module _ (e : l ≡ layout_of ms k.capacity) (m : n ≡ pivots_in k c) (h : n ≤ 8) (t : NearIn ms k b q c xs) (z : ys ≡ part (distance_at l slot c 0) 16 b) where
    -- the bounds from what is read are those of the tables
    pub lower_read : lower_of (firsts n xs) (stored n ys) ≡ lower_of (near ms k b q c) (far ms k b q slot c)
    lower_read = λ i. lower_of (near_read m t i) (far_read e m h z i)

    pub upper_read : (top : ℕ) → upper_of top (firsts n xs) (stored n ys) ≡ upper_of top (near ms k b q c) (far ms k b q slot c)
    upper_read top = λ i. upper_of top (near_read m t i) (far_read e m h z i)
