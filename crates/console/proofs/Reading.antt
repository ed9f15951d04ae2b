-- Commands that are served, in front of an input.
use Rattle.std.proofs.Common.{◌≡◌, ℕ, ◌<◌, Bool, cond, List, [], ◌∷◌, ◌++◌, length, get_or, Some, None, Ok, Err, Option, Result, unwrap_or, sym, refl, ap, ◌∙◌, subst, arith, eq-eqb, ne_eqb, MatchOption}
use Rattle.metric.specs.Model.{Model}
use Rattle.index.specs.History.{Written}
use Rattle.refusal.specs.declared.Refusal.{Refusal}
use Rattle.refusal.specs.declared.Refusal.TheVariants.{UnknownCommand}
use Rattle.command.specs.declared.format.Format.{Format}
use Rattle.command.specs.declared.Command.{Command}
use Rattle.command.specs.Commands.{Instruction, insert, remove, add_pivot, remove_pivot, nearest, encode, meant, read_refusal, Next}
use Rattle.console.specs.Sessions.{Served, refuses, NextServed, Session, over}

-- the first byte, or 0
abbrev pub first_byte : List ℕ → ℕ
first_byte l = get_or l 0 0

pub peeked : (l : List ℕ) (o : Option ℕ) → MatchOption o (length l ≡ 0) (λ byte. (0 < length l) × (byte ≡ first_byte l)) → unwrap_or o 0 ≡ first_byte l
peeked [] None p = refl
peeked (x ∷ l) None p = absurd (omega (arith, p))
peeked l (Some byte) p = p.1

pub unknown : (f : Format) (l : List ℕ) → first_byte l ≡ 0x43 → refuses f l ≡ Some UnknownCommand
unknown f [] e = absurd (omega arith)
unknown f (byte ∷ bytes) e = rw (eq-eqb byte 0x43 e)

not_search : (i : Instruction) (rest : List ℕ) → (first_byte (encode i ++ rest) ≡ 0x43 → ⊥) → Served i
not_search (insert a rows) rest h = tt
not_search (remove a) rest h = tt
not_search (add_pivot c a) rest h = tt
not_search (remove_pivot c p) rest h = tt
not_search (nearest g ws k r b rows) rest h = h refl

known : (f : Format) (l : List ℕ) (e : Refusal) → (first_byte l ≡ 0x43 → ⊥) → read_refusal f l ≡ Some e → refuses f l ≡ Some e
known f [] e h r = r
known f (byte ∷ bytes) e h r = ap (λ (t : Bool). cond t (Some UnknownCommand) (read_refusal f (byte ∷ bytes))) (ne_eqb byte 0x43 h) ∙ r

pub served_next : (f : Format) (before after : List ℕ) (r : Result (Option Command) Refusal) → (first_byte before ≡ 0x43 → ⊥) → Next f before after r → NextServed f before after r
served_next f before after (Ok None) h n = n
served_next f before after (Ok (Some c)) h n = (n.0, n.1, not_search (meant c) after (λ e. h (ap first_byte n.0 ∙ e)))
served_next f before after (Err e) h n = (known f before e h n.0, n.1)

-- a run that ends
pub ended : (ms : List Model) (f : Format) (w : Written) (l : List ℕ) → l ≡ [] → Session ms f w l [] w
ended ms f w l e = subst (λ (x : List ℕ). Session ms f w x [] w) (sym e) over
