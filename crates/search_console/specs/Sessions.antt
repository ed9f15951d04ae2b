-- A run of the bench program: commands in, lines out.
use Rattle.std.specs.Prelude.{◌≡◌, ℕ, Bool, true, false, cond, List, [], ◌++◌, length, Some, codes, Option, Result, nat_lt}
use Rattle.metric.specs.Model.{Model}
use Rattle.metric.specs.Channels.{Asked}
use Rattle.aggregate.specs.Choices.{chosen, number as choice_number}
use Rattle.aggregate.specs.declared.Choice.{Choice}
use Rattle.refusal.specs.Refusals.{number}
use Rattle.refusal.specs.declared.Refusal.{Refusal}
use Rattle.refusal.specs.declared.Refusal.TheVariants.{UnknownAggregate}
use Rattle.command.specs.declared.format.Format.{Format}
use Rattle.command.specs.Commands.{Instruction, insert, remove, add_pivot, remove_pivot, nearest, encode, Fits, read_refusal}
use Rattle.index.specs.Calls.{insert_refusal, remove_refusal, add_refusal, free_refusal}
use Rattle.index.specs.History.{Written, call}
use Rattle.engine.specs.declared.records.Answer.{Answer}
use Rattle.engine.specs.declared.records.Neighbor.{Neighbor}
use Rattle.search.specs.Refusals.{handed, search_refusal, refused, Granted}
use Rattle.search.specs.Promised.{question, Searched}
use Rattle.console.specs.Lines.{line}
use Rattle.console.specs.Sessions.{call_of, code}
use Rattle.search_console.specs.Lines.{search_lines}

-- how long the lists are that a run lends to its searches
pub record Room : Type 0 where
  pub hits : ℕ
  pub candidates : ℕ
  pub uppers : ℕ

abbrev pub room_of : (hits candidates uppers : ℕ) → Room
room_of hits candidates uppers = record { hits = hits; candidates = candidates; uppers = uppers }

-- why a search is refused: the aggregate's number first, then the search's own checks
abbrev pub nearest_refusal : List Model → Room → Written → (aggregate : ℕ) (weights : List ℕ) (k : ℕ) (rows : List ℕ) → Option Refusal
nearest_refusal ms room w g ws k rows =
    cond (nat_lt 2 g) (Some UnknownAggregate)
    (search_refusal ms w.counts w.bytes k (handed (length rows) (length ws) room.hits room.candidates room.uppers))

-- a session does not follow what the metrics are asked
abbrev pub unfollowed : Asked
unfollowed c x y = ⊥

-- a granted search: the aggregate has the number that the command gives, and the answer and the hits come of a run of the step rule over
-- what the index and its store hold
pub record Found (ms : List Model) (w : Written) (g : ℕ) (ws : List ℕ) (k radius budget : ℕ) (rows : List ℕ) (a : Answer) (hits hits' : List Neighbor) : Type 0 where
  pub aggregate : Choice
  pub by_number : choice_number aggregate ≡ g
  pub searched : Searched ms w.counts w.bytes (question rows ws (chosen aggregate) k radius) budget a hits hits' unfollowed unfollowed

-- r is the reply to a search
pub record Replies (ms : List Model) (room : Room) (w : Written) (g : ℕ) (ws : List ℕ) (k radius budget : ℕ) (rows : List ℕ) (r : Result Answer Refusal) (hits hits' : List Neighbor) : Type 0 where
  pub refuses : refused r ≡ nearest_refusal ms room w g ws k rows
  pub grants : Granted r (λ a. Found ms w g ws k radius budget rows a hits hits')

-- the lines that answer a command, where the index and its store hold w: its letter and 0 or its refusal's number; for a search, what its
-- reply prints
abbrev pub Says : List Model → Room → Written → Instruction → (said : List ℕ) → Type 0
Says ms room w (insert a rows) said = said ≡ line (codes "L") (code (insert_refusal ms w.counts w.bytes a rows))
Says ms room w (remove a) said = said ≡ line (codes "U") (code (remove_refusal ms w.counts w.bytes a))
Says ms room w (add_pivot c a) said = said ≡ line (codes "P") (code (add_refusal ms w.counts w.bytes c a))
Says ms room w (remove_pivot c p) said = said ≡ line (codes "R") (code (free_refusal ms w.counts w.bytes c p))
Says ms room w (nearest g ws k radius budget rows) said =
    (r : Result Answer Refusal) × (hits : List Neighbor) × (hits' : List Neighbor) × Replies ms room w g ws k radius budget rows r hits hits' × (said ≡ search_lines r hits')

-- a command was served: it found w, left w' and is answered by some lines
pub record Serves (ms : List Model) (room : Room) (w w' : Written) (i : Instruction) (said : List ℕ) : Type 0 where
  pub says : Says ms room w i said
  pub leaves : w' ≡ call ms (call_of i) w

-- from what an index and its store hold, an input prints lines and leaves what they then hold:
-- nothing is left to read; or the next command cannot be read, which ends the run; or it is served, and the run goes on
pub data Session (ms : List Model) (f : Format) (room : Room) : Written → (input printed : List ℕ) → Written → Type 0 where
  over : {w : Written} → Session ms f room w [] [] w
  unread : {w : Written} {input : List ℕ} (e : Refusal) → read_refusal f input ≡ Some e → Session ms f room w input (line (codes "?") (number e)) w
  next : {w w' : Written} {input rest printed : List ℕ} (i : Instruction) (said : List ℕ) → Fits f i → input ≡ encode i ++ rest → Says ms room w i said
      → Session ms f room (call ms (call_of i) w) rest printed w' → Session ms f room w input (said ++ printed) w'

-- one turn of a run: the next command is served, or nothing more is; w and w' are what is held, before and after what is left of
-- the input
abbrev pub Turn : List Model → Format → Room → (w w' : Written) (before after printed : List ℕ) → Bool → Type 0
Turn ms f room w w' before after printed true = (i : Instruction) × Fits f i × (before ≡ encode i ++ after) × Serves ms room w w' i printed
Turn ms f room w w' before after printed false = (w' ≡ w) × (after ≡ before) × Session ms f room w before printed w
