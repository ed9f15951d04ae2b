-- A run over an index that a history has led to: its searches keep the promise.
use Rattle.std.specs.Prelude.{◌≡◌, ℕ, List, [], ◌∷◌, ◌++◌, Some, codes, Result}
use Rattle.metric.specs.Model.{Model}
use Rattle.patch.specs.Patches.{few}
use Rattle.aggregate.specs.Choices.{chosen, number as choice_number}
use Rattle.aggregate.specs.declared.Choice.{Choice}
use Rattle.refusal.specs.Refusals.{number}
use Rattle.refusal.specs.declared.Refusal.{Refusal}
use Rattle.command.specs.declared.format.Format.{Format}
use Rattle.command.specs.Commands.{Instruction, insert, remove, add_pivot, remove_pivot, nearest, encode, Fits, read_refusal}
use Rattle.index.specs.History.{Call, Written, worked, Holds}
use Rattle.engine.specs.declared.records.Answer.{Answer}
use Rattle.engine.specs.declared.records.Neighbor.{Neighbor}
use Rattle.promise.specs.Promise.{Promise, contents, reply}
use Rattle.search.specs.Refusals.{refused, Granted}
use Rattle.search.specs.Promised.{question}
use Rattle.console.specs.Lines.{line}
use Rattle.console.specs.Sessions.{call_of}
use Rattle.search_console.specs.Lines.{search_lines}
use Rattle.search_console.specs.Sessions.{Room, nearest_refusal, unfollowed, Says}

-- a granted search after the history h: the promise is kept of its answer and its hits, over the patches and pivots that h holds. What the
-- metrics are asked is not followed
pub record Kept (ms : List Model) (cap : ℕ) (h : List Call) (g : ℕ) (ws : List ℕ) (k radius budget : ℕ) (rows : List ℕ) (a : Answer) (hits : List Neighbor) : Type 0 where
  pub aggregate : Choice
  pub by_number : choice_number aggregate ≡ g
  pub promise : Promise ms (contents ms cap h) (question rows ws (chosen aggregate) k radius) budget (reply a hits) unfollowed unfollowed

-- the lines that answer a command after new over the store b, with cap slots, and the history h
abbrev pub Tells : List Model → Room → (cap : ℕ) (b : List ℕ) (h : List Call) → Instruction → (said : List ℕ) → Type 0
Tells ms room cap b h (insert a rows) said = Says (few ms) room (worked ms cap b h) (insert a rows) said
Tells ms room cap b h (remove a) said = Says (few ms) room (worked ms cap b h) (remove a) said
Tells ms room cap b h (add_pivot c a) said = Says (few ms) room (worked ms cap b h) (add_pivot c a) said
Tells ms room cap b h (remove_pivot c p) said = Says (few ms) room (worked ms cap b h) (remove_pivot c p) said
Tells ms room cap b h (nearest g ws k radius budget rows) said =
    (r : Result Answer Refusal) × (hits : List Neighbor)
    × (refused r ≡ nearest_refusal (few ms) room (worked ms cap b h) g ws k rows)
    × Granted r (λ a. Kept ms cap h g ws k radius budget rows a hits)
    × (said ≡ search_lines r hits)

-- after a history an input prints lines, and each command served adds its call to the history
pub data PromisedSession (ms : List Model) (f : Format) (room : Room) (cap : ℕ) (b : List ℕ) : List Call → (input printed : List ℕ) → List Call → Type 0 where
  over : {h : List Call} → PromisedSession ms f room cap b h [] [] h
  unread : {h : List Call} {input : List ℕ} (e : Refusal) → read_refusal f input ≡ Some e → PromisedSession ms f room cap b h input (line (codes "?") (number e)) h
  next : {h h' : List Call} {input rest printed : List ℕ} (i : Instruction) (said : List ℕ) → Fits f i → input ≡ encode i ++ rest → Tells ms room cap b h i said
      → PromisedSession ms f room cap b (call_of i ∷ h) rest printed h' → PromisedSession ms f room cap b h input (said ++ printed) h'

-- whatever history has led to what is held, w: the input prints, behind what was printed before, what a promised session prints, and the
-- calls of the commands served have led from there to what is held at last, w'
abbrev pub Promised : List Model → Format → Room → (w w' : Written) → (input before after : List ℕ) → Type 0
Promised ms f room w w' input before after =
    (cap : ℕ) (b : List ℕ) (h : List Call) → Holds ms w.counts w.bytes cap b h
    → (printed : List ℕ) × (h' : List Call) × PromisedSession ms f room cap b h input printed h' × Holds ms w'.counts w'.bytes cap b h' × (after ≡ before ++ printed)
