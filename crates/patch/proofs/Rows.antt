-- The rows that code cuts out of patches.
use Rattle.std.proofs.Common.{◌≡◌, ℕ, zero, suc, ◌+◌, ◌-◌, ◌<◌, ◌≤◌, List, [], ◌∷◌, length, get_or, take, drop, ap, ◌∙◌, arith, length-drop, length-take}
use Rattle.metric.specs.Model.{Model, Row}
use Rattle.metric.specs.Channels.{at}
use Rattle.patch.specs.Patches.{few, offset, patch_width, row}
use Rattle.patch.proofs.Widths.{few_all, row_ends}

abbrev pub Bytes : List ℕ → Type 0
Bytes x = (k : ℕ) → get_or x k 0 < 256

pub take_bytes : (n : ℕ) (x : List ℕ) → Bytes x → Bytes (take n x)
take_bytes zero x b k = omega arith
take_bytes (suc n) [] b k = omega arith
take_bytes (suc n) (y ∷ x) b zero = b 0
take_bytes (suc n) (y ∷ x) b (suc k) = take_bytes n x (λ j. b (suc j)) k

pub drop_bytes : (n : ℕ) (x : List ℕ) → Bytes x → Bytes (drop n x)
drop_bytes zero x b = b
drop_bytes (suc n) [] b = b
drop_bytes (suc n) (y ∷ x) b = drop_bytes n x (λ j. b (suc j))

module _ (ms : List Model) (c : ℕ) (h : c < length ms) where
  -- the row of a channel is a row of its metric
  pub row_is_row : (x : List ℕ) → length x ≡ patch_width ms → Bytes x → Row (at ms c).width (row ms c x)
  row_is_row x e b = record {
    long = omega (arith, length-take (at ms c).width (drop (offset ms c) x), length-drop (offset ms c) x, row_ends ms c h);
    bytes = take_bytes (at ms c).width (drop (offset ms c) x) (drop_bytes (offset ms c) x b);
  }

-- the part from `start` to `start + w` is the row
pub cut_is_row : (ms : List Model) (c start w : ℕ) (x : List ℕ) → length ms ≤ 8 → start ≡ offset (few ms) c → w ≡ (at ms c).width
    → take ((start + w) - start) (drop start x) ≡ row ms c x
cut_is_row ms c start w x h s e =
    let z : (start + w) - start ≡ (at ms c).width = omega arith in
    let o : start ≡ offset ms c = s ∙ ap (λ (l : List Model). offset l c) (few_all ms h) in
    ap (λ (n : ℕ). take n (drop start x)) z ∙ ap (λ (n : ℕ). take (at ms c).width (drop n x)) o

pub cut_ends : (ms : List Model) (c start w : ℕ) → length ms ≤ 8 → c < length ms → start ≡ offset (few ms) c → w ≡ (at ms c).width → start + w ≤ patch_width ms
cut_ends ms c start w f h s e = omega (arith, row_ends ms c h, ap (λ (l : List Model). offset l c) (few_all ms f))

-- an answer at rows that are equal
pub dist_at : (m : Model) (d : ℕ) (a b x y : List ℕ) → a ≡ x → b ≡ y → d ≡ m.dist a b → d ≡ m.dist x y
dist_at m d a b x y p q e = cc
