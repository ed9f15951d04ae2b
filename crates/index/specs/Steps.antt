-- The steps that the calls are made of, on the bytes of the store.
use Rattle.std.specs.Prelude.{ℕ, zero, suc, ◌+◌, ◌*◌, cond, List, replicate, Some, None, Option, ◌==◌}
use Rattle.big_endian.specs.Numbers.{be16}
use Rattle.metric.specs.Model.{Model}
use Rattle.metric.specs.Channels.{at}
use Rattle.patch.specs.Patches.{offset, row}
use Rattle.index.specs.declared.counts.Counts.{Counts}
use Rattle.index.specs.declared.layout.Layout.{Layout}
use Rattle.index.specs.Bytes.{put, part, get16}
use Rattle.index.specs.Layouts.{number_at, row_at, pivot_at, distance_at}
use Rattle.index.specs.Limits.{pivots_in}

-- the steps 0 to n - 1, one after the other
abbrev pub each : ℕ → (ℕ → List ℕ → List ℕ) → List ℕ → List ℕ
each zero f b = b
each (suc n) f b = f n (each n f b)

-- the first of n slots from i on that has the accession number
abbrev pub first_from : List ℕ → (accession n i : ℕ) → Option ℕ
first_from b a zero i = None
first_from b a (suc n) i = cond (get16 (number_at i) b == a) (Some i) (first_from b a n (i + 1))

-- n bytes from `from` on move to `to`, and zeros take their place
abbrev pub moved : (from to n : ℕ) → List ℕ → List ℕ
moved from to n b = put from (replicate n 0) (put to (part from n b) b)

-- the row of a slot, and of a pivot, in channel c
abbrev pub slot_row : List Model → Layout → (c slot : ℕ) → List ℕ → List ℕ
slot_row ms l c slot b = part (row_at l slot + offset ms c) (at ms c).width b

abbrev pub pivot_row : List Model → Layout → (c p : ℕ) → List ℕ → List ℕ
pivot_row ms l c p b = part (pivot_at l (offset ms c) (at ms c).width p) (at ms c).width b

-- the distance of a row in channel c to pivot p, stored for a slot
abbrev pub store_distance : List Model → Layout → (slot c : ℕ) → List ℕ → ℕ → List ℕ → List ℕ
store_distance ms l slot c x p b = put (distance_at l slot c p) (be16 ((at ms c).dist x (pivot_row ms l c p b))) b

-- the distances of a patch's row in channel c to every pivot there
abbrev pub store_channel : List Model → Layout → Counts → (slot : ℕ) → List ℕ → ℕ → List ℕ → List ℕ
store_channel ms l k slot rows c b = each (pivots_in k c) (store_distance ms l slot c (row ms c rows)) b

-- a slot's own row in channel c, its distance to pivot p
abbrev pub store_own : List Model → Layout → (c p slot : ℕ) → List ℕ → List ℕ
store_own ms l c p slot b = store_distance ms l slot c (slot_row ms l c slot b) p b

-- in one slot, the distance to the last pivot of channel c takes the freed number
abbrev pub free_distance : Layout → (c p last slot : ℕ) → List ℕ → List ℕ
free_distance l c p last slot b = moved (distance_at l slot c last) (distance_at l slot c p) 2 b

-- all that slot `last` holds moves to `slot`, and leaves zeros
abbrev pub shifted_slot : Layout → (last slot : ℕ) → List ℕ → List ℕ
shifted_slot l last slot b =
    moved (distance_at l last 0 0) (distance_at l slot 0 0) (16 * l.channels)
    (moved (row_at l last) (row_at l slot) l.row
    (moved (number_at last) (number_at slot) 2 b))
