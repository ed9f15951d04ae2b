-- A run of the bench program: commands in, lines out.
use Rattle.std.specs.Prelude.{◌≡◌, ℕ, Bool, true, false, cond, List, [], ◌∷◌, ◌++◌, Some, None, Ok, Err, codes, Option, Result, ◌==◌}
use Rattle.metric.specs.Model.{Model}
use Rattle.index.specs.declared.counts.Counts.{Counts}
use Rattle.refusal.specs.Refusals.{number}
use Rattle.refusal.specs.declared.Refusal.{Refusal}
use Rattle.refusal.specs.declared.Refusal.TheVariants.{UnknownCommand}
use Rattle.command.specs.declared.format.Format.{Format}
use Rattle.command.specs.declared.Command.{Command}
use Rattle.command.specs.Commands.{Instruction, insert, remove, add_pivot, remove_pivot, nearest, encode, Fits, meant, read_refusal}
use Rattle.index.specs.Calls.{insert_refusal, remove_refusal, add_refusal, free_refusal}
use Rattle.index.specs.History.{Call, insert as inserting, remove as removing, add_pivot as adding, remove_pivot as freeing, nearest as searching, Written, call}
use Rattle.console.specs.Lines.{line}

-- the letter that answers a command
abbrev pub letter : Instruction → List ℕ
letter (insert a rows) = codes "L"
letter (remove a) = codes "U"
letter (add_pivot c a) = codes "P"
letter (remove_pivot c p) = codes "R"
letter (nearest g ws k r b rows) = codes "C"

-- the call that a command asks for
abbrev pub call_of : Instruction → Call
call_of (insert a rows) = inserting a rows
call_of (remove a) = removing a
call_of (add_pivot c a) = adding c a
call_of (remove_pivot c p) = freeing c p
call_of (nearest g ws k r b rows) = searching

-- 0, or the number of the refusal
abbrev pub code : Option Refusal → ℕ
code None = 0
code (Some e) = number e

-- what an index and its store hold
abbrev pub written : Counts → List ℕ → Written
written k b = record { counts = k; bytes = b }

abbrev pub answer : List Model → Written → Instruction → ℕ
answer ms w (insert a rows) = code (insert_refusal ms w.counts w.bytes a rows)
answer ms w (remove a) = code (remove_refusal ms w.counts w.bytes a)
answer ms w (add_pivot c a) = code (add_refusal ms w.counts w.bytes c a)
answer ms w (remove_pivot c p) = code (free_refusal ms w.counts w.bytes c p)
answer ms w (nearest g ws k r b rows) = 0

-- a command was served: it found w, left w', and is answered by a letter and a number
pub record Serves (ms : List Model) (w w' : Written) (i : Instruction) (l : List ℕ) (n : ℕ) : Type 0 where
  pub says : l ≡ letter i
  pub number : n ≡ answer ms w i
  pub leaves : w' ≡ call ms (call_of i) w

-- searching is not served yet
abbrev pub Served : Instruction → Type 0
Served (insert a rows) = Unit {0}
Served (remove a) = Unit {0}
Served (add_pivot c a) = Unit {0}
Served (remove_pivot c p) = Unit {0}
Served (nearest g ws k r b rows) = ⊥

-- so its letter counts as unknown
abbrev pub refuses : Format → List ℕ → Option Refusal
refuses f [] = None
refuses f (byte ∷ bytes) = cond (byte == 0x43) (Some UnknownCommand) (read_refusal f (byte ∷ bytes))

-- the next command that is served, where before and after are what is left of the input
abbrev pub NextServed : Format → (before after : List ℕ) → Result (Option Command) Refusal → Type 0
NextServed f before after (Ok None) = (before ≡ []) × (after ≡ [])
NextServed f before after (Ok (Some c)) = (before ≡ encode (meant c) ++ after) × Fits f (meant c) × Served (meant c)
NextServed f before after (Err e) = (refuses f before ≡ Some e) × (after ≡ before)

-- from what an index and its store hold, an input prints lines and leaves what they then hold:
-- nothing is left to read; or the next command cannot be read, which ends the run; or it is served, and the run goes on
pub data Session (ms : List Model) (f : Format) : Written → (input printed : List ℕ) → Written → Type 0 where
  over : {w : Written} → Session ms f w [] [] w
  unread : {w : Written} {input : List ℕ} (e : Refusal) → refuses f input ≡ Some e → Session ms f w input (line (codes "?") (number e)) w
  next : {w w' : Written} {input rest printed : List ℕ} (i : Instruction) → Fits f i → Served i → input ≡ encode i ++ rest
      → Session ms f (call ms (call_of i) w) rest printed w' → Session ms f w input (line (letter i) (answer ms w i) ++ printed) w'

-- one turn of a run: the next command is served, or nothing more is; w and w' are what is held, before and after what is left of
-- the input
abbrev pub Turn : List Model → Format → (w w' : Written) (before after printed : List ℕ) → Bool → Type 0
Turn ms f w w' before after printed true =
    (i : Instruction) × Fits f i × Served i × (before ≡ encode i ++ after) × (w' ≡ call ms (call_of i) w) × (printed ≡ line (letter i) (answer ms w i))
Turn ms f w w' before after printed false = (w' ≡ w) × (after ≡ before) × Session ms f w before printed w
