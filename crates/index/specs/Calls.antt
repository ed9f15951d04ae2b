-- What each call answers and leaves, over the bytes found, whoever wrote them.
use Rattle.std.specs.Prelude.{ℕ, ◌+◌, ◌-◌, cond, List, length, replicate, is_some, Some, None, Option, ◌==◌, nat_lt}
use Rattle.std.specs.Option.{unwrap_or}
use Rattle.big_endian.specs.Numbers.{be16}
use Rattle.metric.specs.Model.{Model}
use Rattle.metric.specs.Channels.{at}
use Rattle.patch.specs.Patches.{few, offset, patch_width}
use Rattle.refusal.specs.declared.Refusal.{Refusal}
use Rattle.refusal.specs.declared.Refusal.TheVariants.{WrongRowsLength, AlreadyHeld, Full, NotHeld, NoSuchChannel, PivotsFull, NoSuchPivot, BadStore, TooManyChannels}
use Rattle.index.specs.declared.counts.Counts.{Counts}
use Rattle.index.specs.Bytes.{put}
use Rattle.index.specs.Layouts.{layout_of, number_at, row_at, pivot_at}
use Rattle.index.specs.Limits.{pivots_in, with_held, with_pivots}
use Rattle.index.specs.Steps.{each, first_from, moved, slot_row, store_channel, store_own, free_distance, shifted_slot}

-- the stated size of the store
abbrev pub stated : List Model → Counts → ℕ
stated ms k = (layout_of ms k.capacity).size

-- the first slot with an accession number
abbrev pub first_slot : Counts → List ℕ → ℕ → Option ℕ
first_slot k b a = first_from b a k.held 0

-- new: why it is refused, in the order of the checks, and the bytes it leaves
abbrev pub new_refusal : List Model → ℕ → List ℕ → Option Refusal
new_refusal ms cap b =
    cond (nat_lt 8 (length ms)) (Some TooManyChannels)
    (cond (nat_lt 4096 cap) (Some BadStore)
    (cond (nat_lt (length b) (layout_of (few ms) cap).size) (Some BadStore) None))

abbrev pub new_bytes : List Model → ℕ → List ℕ → List ℕ
new_bytes ms cap b = cond (is_some (new_refusal ms cap b)) b (put 0 (replicate (layout_of (few ms) cap).size 0) b)

-- find: none where the store is too short
abbrev pub find_slot : List Model → Counts → List ℕ → ℕ → Option ℕ
find_slot ms k b a = cond (nat_lt (length b) (stated ms k)) None (first_slot k b a)

-- insert
abbrev pub insert_refusal : List Model → Counts → List ℕ → (accession : ℕ) (rows : List ℕ) → Option Refusal
insert_refusal ms k b a rows =
    cond (nat_lt (length b) (stated ms k)) (Some BadStore)
    (cond (length rows == patch_width ms)
    (cond (is_some (first_slot k b a)) (Some AlreadyHeld)
    (cond (nat_lt k.held k.capacity) None (Some Full)))
    (Some WrongRowsLength))

abbrev pub inserted_bytes : List Model → Counts → List ℕ → (accession : ℕ) (rows : List ℕ) → List ℕ
inserted_bytes ms k b a rows =
    let l = layout_of ms k.capacity in
    each (length ms) (store_channel ms l k k.held rows)
    (put (row_at l k.held) rows (put (number_at k.held) (be16 a) b))

abbrev pub insert_bytes : List Model → Counts → List ℕ → (accession : ℕ) (rows : List ℕ) → List ℕ
insert_bytes ms k b a rows = cond (is_some (insert_refusal ms k b a rows)) b (inserted_bytes ms k b a rows)

abbrev pub insert_counts : List Model → Counts → List ℕ → (accession : ℕ) (rows : List ℕ) → Counts
insert_counts ms k b a rows = cond (is_some (insert_refusal ms k b a rows)) k (with_held k (k.held + 1))

-- remove: the patch of the last slot moves into the gap
abbrev pub remove_refusal : List Model → Counts → List ℕ → (accession : ℕ) → Option Refusal
remove_refusal ms k b a =
    cond (nat_lt (length b) (stated ms k)) (Some BadStore)
    (cond (is_some (first_slot k b a)) None (Some NotHeld))

abbrev pub removed_bytes : List Model → Counts → (slot : ℕ) → List ℕ → List ℕ
removed_bytes ms k slot b = shifted_slot (layout_of ms k.capacity) (k.held - 1) slot b

abbrev pub remove_bytes : List Model → Counts → List ℕ → (accession : ℕ) → List ℕ
remove_bytes ms k b a = cond (is_some (remove_refusal ms k b a)) b (removed_bytes ms k (unwrap_or (first_slot k b a) 0) b)

abbrev pub remove_counts : List Model → Counts → List ℕ → (accession : ℕ) → Counts
remove_counts ms k b a = cond (is_some (remove_refusal ms k b a)) k (with_held k (k.held - 1))

-- add pivot: a patch's row becomes the channel's next pivot, with its distance to every patch held
abbrev pub add_refusal : List Model → Counts → List ℕ → (c accession : ℕ) → Option Refusal
add_refusal ms k b c a =
    cond (nat_lt (length b) (stated ms k)) (Some BadStore)
    (cond (nat_lt c (length ms))
    (cond (is_some (first_slot k b a))
    (cond (nat_lt (pivots_in k c) 8) None (Some PivotsFull))
    (Some NotHeld))
    (Some NoSuchChannel))

abbrev pub added_bytes : List Model → Counts → (c slot : ℕ) → List ℕ → List ℕ
added_bytes ms k c slot b =
    let l = layout_of ms k.capacity in
    each k.held (store_own ms l c (pivots_in k c))
    (put (pivot_at l (offset ms c) (at ms c).width (pivots_in k c)) (slot_row ms l c slot b) b)

abbrev pub add_bytes : List Model → Counts → List ℕ → (c accession : ℕ) → List ℕ
add_bytes ms k b c a = cond (is_some (add_refusal ms k b c a)) b (added_bytes ms k c (unwrap_or (first_slot k b a) 0) b)

abbrev pub add_counts : List Model → Counts → List ℕ → (c accession : ℕ) → Counts
add_counts ms k b c a = cond (is_some (add_refusal ms k b c a)) k (with_pivots k c (pivots_in k c + 1))

-- remove pivot: the channel's last pivot takes the freed number
abbrev pub free_refusal : List Model → Counts → List ℕ → (c p : ℕ) → Option Refusal
free_refusal ms k b c p =
    cond (nat_lt (length b) (stated ms k)) (Some BadStore)
    (cond (nat_lt c (length ms))
    (cond (nat_lt p (pivots_in k c)) None (Some NoSuchPivot))
    (Some NoSuchChannel))

abbrev pub freed_bytes : List Model → Counts → (c p : ℕ) → List ℕ → List ℕ
freed_bytes ms k c p b =
    let l = layout_of ms k.capacity in
    let last = pivots_in k c - 1 in
    each k.held (free_distance l c p last)
    (moved (pivot_at l (offset ms c) (at ms c).width last) (pivot_at l (offset ms c) (at ms c).width p) (at ms c).width b)

abbrev pub free_bytes : List Model → Counts → List ℕ → (c p : ℕ) → List ℕ
free_bytes ms k b c p = cond (is_some (free_refusal ms k b c p)) b (freed_bytes ms k c p b)

abbrev pub free_counts : List Model → Counts → List ℕ → (c p : ℕ) → Counts
free_counts ms k b c p = cond (is_some (free_refusal ms k b c p)) k (with_pivots k c (pivots_in k c - 1))
