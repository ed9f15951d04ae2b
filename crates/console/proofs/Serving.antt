-- What serving a command comes to.
use Rattle.std.proofs.Common.{◌≡◌, List, Some, None, Option, Result, sym, refl, ap, ◌∙◌, subst}
use Rattle.refusal.specs.Refusals.{answered, code_of}
use Rattle.refusal.specs.declared.Refusal.{Refusal}
use Rattle.metric.specs.Model.{Model}
use Rattle.command.specs.declared.Command.{Command}
use Rattle.command.specs.Commands.{Instruction, meant}
use Rattle.index.specs.History.{Written, call}
use Rattle.console.specs.Sessions.{letter, call_of, code, answer, Serves}

answered_code : (o : Option Refusal) → code_of (answered o tt) ≡ code o
answered_code None = refl
answered_code (Some e) = refl

-- the command m, which says i, was served by a call that answered r by its refusal o, and left w'
pub served : (ms : List Model) (w w' : Written) (m : Command) (i : Instruction) (o : Option Refusal) (r : Result (Unit {0}) Refusal)
    → meant m ≡ i → answer ms w i ≡ code o → r ≡ answered o tt → w'.counts ≡ (call ms (call_of i) w).counts → w'.bytes ≡ (call ms (call_of i) w).bytes
    → Serves ms w w' (meant m) (letter i) (code_of r)
served ms w w' m i o r says a f k b =
    subst (λ (j : Instruction). Serves ms w w' j (letter i) (code_of r)) (sym says)
    (record { says = refl; number = ap code_of f ∙ answered_code o ∙ sym a; leaves = λ t. record { counts = k t; bytes = b t } })
