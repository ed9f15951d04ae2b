-- The image of what is held: which bytes a store has, and what an index counts, where the patches ps and the pivots pv are held.
use Rattle.std.specs.Prelude.{◌≡◌, ℕ, zero, suc, ◌<◌, ◌≤◌, cond, ◌&&◌, List, [], ◌++◌, map, length, get_or, take, drop, replicate, nat_lt, slice_index_or}
use Rattle.std.specs.List.{range_with_len}
use Rattle.big_endian.specs.Numbers.{be16}
use Rattle.metric.specs.Model.{Model, Row}
use Rattle.metric.specs.Channels.{at}
use Rattle.patch.specs.Patches.{Patch, patch_width, row}
use Rattle.index.specs.declared.counts.Counts.{Counts}
use Rattle.index.specs.Layouts.{layout_of}
use Rattle.index.specs.History.{no_patch}

-- f 0, f 1, .., f (n - 1) joined
abbrev pub joined : ℕ → (ℕ → List ℕ) → List ℕ
joined zero f = []
joined (suc n) f = joined n f ++ f n

module _ (ms : List Model) (ps : List Patch) (pv : ℕ → List (List ℕ)) where
  -- the patch of slot i
  abbrev pub patch_of : ℕ → Patch
  patch_of i = slice_index_or ps i no_patch

  -- what is unheld is zero
  abbrev pub number_bytes : ℕ → List ℕ
  number_bytes i = cond (nat_lt i (length ps)) (be16 (patch_of i).accession) (replicate 2 0)

  abbrev pub row_bytes : ℕ → List ℕ
  row_bytes i = cond (nat_lt i (length ps)) (patch_of i).rows (replicate (patch_width ms) 0)

  abbrev pub pivot_bytes : (c p : ℕ) → List ℕ
  pivot_bytes c p = cond (nat_lt p (length (pv c))) (slice_index_or (pv c) p []) (replicate (at ms c).width 0)

  -- from the row of slot i to pivot p of channel c
  abbrev pub distance_bytes : (i c p : ℕ) → List ℕ
  distance_bytes i c p =
      cond (nat_lt i (length ps) && nat_lt p (length (pv c))) (be16 ((at ms c).dist (row ms c (patch_of i).rows) (slice_index_or (pv c) p []))) (replicate 2 0)

  -- the stated bytes of a store with cap slots
  abbrev pub image : ℕ → List ℕ
  image cap =
      joined cap number_bytes
      ++ (joined cap row_bytes
      ++ (joined (length ms) (λ c. joined 8 (pivot_bytes c))
      ++ joined cap (λ i. joined (length ms) (λ c. joined 8 (distance_bytes i c)))))

  -- what an index with cap slots counts
  abbrev pub counted : ℕ → Counts
  counted cap = record { capacity = cap; held = length ps; channels = map (λ c. record { pivots = length (pv c) }) (range_with_len 0 8) }

-- the index that counts k and its store b hold exactly ps and pv; what lies beyond the stated size is as it was in b₀
pub record Shows (ms : List Model) (cap : ℕ) (ps : List Patch) (pv : ℕ → List (List ℕ)) (k : Counts) (b b₀ : List ℕ) : Type 0 where
  pub counts : k ≡ counted ms ps pv cap
  pub stated : take (layout_of ms cap).size b ≡ image ms ps pv cap
  pub beyond : drop (layout_of ms cap).size b ≡ drop (layout_of ms cap).size b₀

-- the patches and pivots held are in order: no accession number twice, patches and pivots are rows, and not too many
pub record Kept (ms : List Model) (cap : ℕ) (ps : List Patch) (pv : ℕ → List (List ℕ)) : Type 0 where
  pub few : length ps ≤ cap
  pub once : (i j : ℕ) → i < length ps → j < length ps → (get_or ps i no_patch).accession ≡ (get_or ps j no_patch).accession → i ≡ j
  pub numbers : (i : ℕ) → i < length ps → (get_or ps i no_patch).accession < 65536
  pub rows : (i : ℕ) → i < length ps → Row (patch_width ms) (get_or ps i no_patch).rows
  pub eight : (c : ℕ) → length (pv c) ≤ 8
  pub pivots : (c p : ℕ) → c < length ms → p < length (pv c) → Row (at ms c).width (slice_index_or (pv c) p [])
  pub none : (c : ℕ) → length ms ≤ c → pv c ≡ []
