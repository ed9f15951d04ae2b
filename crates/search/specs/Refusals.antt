-- Why a search is refused.
use Rattle.std.specs.Prelude.{◌≡◌, ℕ, min, cond, List, length, Some, None, Ok, Err, Option, Result, ◌==◌, nat_lt}
use Rattle.metric.specs.Model.{Model}
use Rattle.patch.specs.Patches.{patch_width}
use Rattle.refusal.specs.declared.Refusal.{Refusal}
use Rattle.refusal.specs.declared.Refusal.TheVariants.{WrongRowsLength, WrongWeightsLength, NothingWanted, HitsTooShort, ScratchTooShort, BadStore}
use Rattle.index.specs.declared.counts.Counts.{Counts}
use Rattle.index.specs.declared.layout.Layout.{Layout}
use Rattle.index.specs.Calls.{stated}
use Rattle.index.specs.Works.{Ready}
use Rattle.engine.specs.declared.records.Answer.{Answer}
use Rattle.search.specs.declared.checks.Sizes.{Sizes}

-- how long the lists are that a search is handed
abbrev pub handed : (rows weights hits candidates uppers : ℕ) → Sizes
handed rows weights hits candidates uppers = record { rows = rows; weights = weights; hits = hits; candidates = candidates; uppers = uppers }

-- the room that a search of n patches for k neighbours needs: for the hits, then for the scratch
abbrev pub room_refusal : (n k : ℕ) → Sizes → Option Refusal
room_refusal n k s =
    cond (nat_lt s.hits (min k n)) (Some HitsTooShort)
    (cond (nat_lt s.candidates n) (Some ScratchTooShort)
    (cond (nat_lt s.uppers n) (Some ScratchTooShort) None))

-- the question: its rows, its weights, k; then the room
abbrev pub question_refusal : (row channels n k : ℕ) → Sizes → Option Refusal
question_refusal row channels n k s =
    cond (s.rows == row)
    (cond (s.weights == channels)
    (cond (k == 0) (Some NothingWanted) (room_refusal n k s))
    (Some WrongWeightsLength))
    (Some WrongRowsLength)

-- in the order of the checks: the store, the question, the room
abbrev pub search_refusal : List Model → Counts → (store : List ℕ) (k : ℕ) → Sizes → Option Refusal
search_refusal ms n b k s =
    cond (nat_lt (length b) (stated ms n)) (Some BadStore) (question_refusal (patch_width ms) (length ms) n.held k s)

-- the layout of a store that a search can be served over, or why not
abbrev pub Opens : List Model → Counts → (store : List ℕ) (k : ℕ) → Sizes → Result Layout Refusal → Type 0
Opens ms n b k s (Ok l) = (search_refusal ms n b k s ≡ None) × Ready ms n l b
Opens ms n b k s (Err e) = search_refusal ms n b k s ≡ Some e

abbrev pub refused : Result Answer Refusal → Option Refusal
refused (Ok a) = None
refused (Err e) = Some e

-- P of the answer, where the call is granted
abbrev pub Granted : Result Answer Refusal → (Answer → Type 0) → Type 0
Granted (Ok a) P = P a
Granted (Err e) P = Unit {0}

-- P, where the call is refused
abbrev pub Unserved : Result Answer Refusal → Type 0 → Type 0
Unserved (Ok a) P = Unit {0}
Unserved (Err e) P = P
