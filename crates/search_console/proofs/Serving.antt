-- What serving a command comes to.
use Rattle.std.proofs.Common.{◌≡◌, ℕ, List, ◌++◌, IfOk, Result, sym, refl, subst}
use Rattle.std.proofs.lemmas.Result.{IfOk-weaker}
use Rattle.std.specs.declared.fmt.Error.{Error}
use Rattle.refusal.specs.declared.Refusal.{Refusal}
use Rattle.metric.specs.Model.{Model}
use Rattle.command.specs.declared.Command.{Command}
use Rattle.command.specs.Commands.{Instruction, meant, nearest}
use Rattle.index.specs.History.{Written, call}
use Rattle.engine.specs.declared.records.Answer.{Answer}
use Rattle.engine.specs.declared.records.Neighbor.{Neighbor}
use Rattle.console.specs.Sessions.{call_of}
use Rattle.search_console.specs.Lines.{search_lines}
use Rattle.search_console.specs.Sessions.{Room, Replies, Says, Serves}

-- the command m, which says i, found w, left w' and is answered by `said`
serves : (ms : List Model) (room : Room) (w w' : Written) (m : Command) (i : Instruction) → meant m ≡ i
    → w'.counts ≡ (call ms (call_of i) w).counts → w'.bytes ≡ (call ms (call_of i) w).bytes → (said : List ℕ) → Says ms room w i said → Serves ms room w w' (meant m) said
serves ms room w w' m i is k b said s =
    subst (λ (j : Instruction). Serves ms room w w' j said) (sym is) (record { says = s; leaves = λ t. record { counts = k t; bytes = b t } })

-- a search, of which the reply was printed
pub searched : (ms : List Model) (room : Room) (w w' : Written) (m : Command) (g : ℕ) (ws : List ℕ) (k radius budget : ℕ) (rows : List ℕ)
    → meant m ≡ nearest g ws k radius budget rows → w'.counts ≡ w.counts → w'.bytes ≡ w.bytes
    → (r : Result Answer Refusal) (hits hits' : List Neighbor) → Replies ms room w g ws k radius budget rows r hits hits'
    → (p : Result (Unit {0}) Error) (before after : List ℕ) → IfOk p (λ _. after ≡ before ++ search_lines r hits')
    → IfOk p (λ _. (said : List ℕ) × Serves ms room w w' (meant m) said × (after ≡ before ++ said))
searched ms room w w' m g ws k radius budget rows is c b r hits hits' reply p before after printed =
    IfOk-weaker p _ _ (λ _ h. (search_lines r hits', serves ms room w w' m (nearest g ws k radius budget rows) is c b (search_lines r hits') (r, hits, hits', reply, refl), h)) printed
