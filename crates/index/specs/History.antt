-- The history of an index: its calls since new, what they hold, and what they leave in the store.
use Rattle.std.specs.Prelude.{◌≡◌, ℕ, ◌+◌, ◌-◌, ◌<◌, cond, ◌&&◌, List, [], ◌∷◌, ◌++◌, length, get_or, take, is_some, Some, None, Option, ◌==◌, nat_lt, slice_index, slice_index_or, slice_set}
use Rattle.std.specs.Option.{unwrap_or}
use Rattle.metric.specs.Model.{Model}
use Rattle.patch.specs.Patches.{Patch, few, patch_width, row}
use Rattle.index.specs.declared.counts.Counts.{Counts}
use Rattle.index.specs.Limits.{no_counts}
use Rattle.index.specs.Calls.{new_refusal, new_bytes, insert_counts, insert_bytes, remove_counts, remove_bytes, add_counts, add_bytes, free_counts, free_bytes}

-- the calls of an index, granted or refused
pub data Call : Type 0 where
  insert : (accession : ℕ) (rows : List ℕ) → Call
  remove : (accession : ℕ) → Call
  add_pivot : (channel accession : ℕ) → Call
  remove_pivot : (channel pivot : ℕ) → Call
  nearest : Call

-- the place of an accession number among the patches held, counted from i
abbrev pub place_from : ℕ → List Patch → ℕ → Option ℕ
place_from a [] i = None
place_from a (p ∷ ps) i = cond (p.accession == a) (Some i) (place_from a ps (i + 1))

abbrev pub place : ℕ → List Patch → Option ℕ
place a ps = place_from a ps 0

abbrev pub no_patch : Patch
no_patch = record { accession = 0; rows = [] }

-- entry i is taken out, and the last entry moves into the gap
abbrev pub closed_up : {X : Type 0} → X → List X → ℕ → List X
closed_up d xs i = take (length xs - 1) (slice_set xs i (slice_index_or xs (length xs - 1) d))

-- what a call does to the patches held
abbrev pub change : List Model → ℕ → Call → List Patch → List Patch
change ms cap (insert a rows) ps =
    cond (length rows == patch_width ms)
    (cond (is_some (place a ps)) ps
    (cond (nat_lt (length ps) cap) (ps ++ record { accession = a; rows = rows } ∷ []) ps))
    ps
change ms cap (remove a) ps = cond (is_some (place a ps)) (closed_up no_patch ps (unwrap_or (place a ps) 0)) ps
change ms cap (add_pivot c a) ps = ps
change ms cap (remove_pivot c p) ps = ps
change ms cap nearest ps = ps

-- the patches held after a history, the newest call first
abbrev pub held : List Model → ℕ → List Call → List Patch
held ms cap [] = []
held ms cap (c ∷ h) = change ms cap c (held ms cap h)

-- what a call does to the pivots of channel j, where the patches ps are held
abbrev pub change_pivots : List Model → List Patch → Call → (ℕ → List (List ℕ)) → ℕ → List (List ℕ)
change_pivots ms ps (insert a rows) pv j = pv j
change_pivots ms ps (remove a) pv j = pv j
change_pivots ms ps (add_pivot c a) pv j =
    cond (j == c && nat_lt c (length ms) && is_some (place a ps) && nat_lt (length (pv c)) 8)
    (pv j ++ row ms c (get_or ps (unwrap_or (place a ps) 0) no_patch).rows ∷ []) (pv j)
change_pivots ms ps (remove_pivot c p) pv j =
    cond (j == c && nat_lt c (length ms) && nat_lt p (length (pv c))) (closed_up [] (pv j) p) (pv j)
change_pivots ms ps nearest pv j = pv j

-- the pivots of each channel after a history, in order
abbrev pub pivots : List Model → ℕ → List Call → ℕ → List (List ℕ)
pivots ms cap [] = λ j. []
pivots ms cap (c ∷ h) = change_pivots ms (held ms cap h) c (pivots ms cap h)

-- what an index counts and its store holds
pub record Written : Type 0 where
  pub counts : Counts
  pub bytes : List ℕ

-- one call, by its rule over the bytes found
abbrev pub call : List Model → Call → Written → Written
call ms (insert a rows) w = record { counts = insert_counts ms w.counts w.bytes a rows; bytes = insert_bytes ms w.counts w.bytes a rows }
call ms (remove a) w = record { counts = remove_counts ms w.counts w.bytes a; bytes = remove_bytes ms w.counts w.bytes a }
call ms (add_pivot c a) w = record { counts = add_counts ms w.counts w.bytes c a; bytes = add_bytes ms w.counts w.bytes c a }
call ms (remove_pivot c p) w = record { counts = free_counts ms w.counts w.bytes c p; bytes = free_bytes ms w.counts w.bytes c p }
call ms nearest w = w

-- what new over the store b, and then a history, leave; the newest call first
abbrev pub worked : List Model → ℕ → List ℕ → List Call → Written
worked ms cap b [] = record { counts = no_counts cap; bytes = new_bytes ms cap b }
worked ms cap b (c ∷ h) = call (few ms) c (worked ms cap b h)

-- accession numbers have 16 bits, rows are bytes
abbrev pub Fits : Call → Type 0
Fits (insert a rows) = (a < 65536) × ((k : ℕ) → slice_index rows k < 256)
Fits (remove a) = a < 65536
Fits (add_pivot c a) = a < 65536
Fits (remove_pivot c p) = Unit {0}
Fits nearest = Unit {0}

abbrev pub AllFit : List Call → Type 0
AllFit [] = Unit {0}
AllFit (c ∷ h) = Fits c × AllFit h

-- an index that counts k and its store b are what new over b₀, granted, and a history h have left
pub record Holds (ms : List Model) (k : Counts) (b : List ℕ) (cap : ℕ) (b₀ : List ℕ) (h : List Call) : Type 0 where
  pub granted : new_refusal ms cap b₀ ≡ None
  pub fit : AllFit h
  pub left : worked ms cap b₀ h ≡ record { counts = k; bytes = b }
