-- A run so far.
use Rattle.std.proofs.Common.{◌≡◌, ℕ, ◌<◌, Bool, true, false, List, [], ◌++◌, length, sym, ap, subst, append_assoc, arith, length-append}
use Rattle.metric.specs.Model.{Model}
use Rattle.command.specs.declared.format.Format.{Format}
use Rattle.command.specs.Commands.{Instruction, insert, remove, add_pivot, remove_pivot, nearest, encode}
use Rattle.index.specs.History.{Written}
use Rattle.search_console.specs.Sessions.{Room, Session, over, next, Turn}

-- a run that ends
pub ended : (ms : List Model) (f : Format) (room : Room) (w : Written) (l : List ℕ) → l ≡ [] → Session ms f room w l [] w
ended ms f room w l e = subst (λ (x : List ℕ). Session ms f room w x [] w) (sym e) over

-- from w over the input a run has printed some lines and come to w' with `rest` still to read
abbrev pub Sofar : List Model → Format → Room → Written → (input printed : List ℕ) → Written → (rest : List ℕ) → Type 0
Sofar ms f room w input printed w' rest = (o : List ℕ) (v : Written) → Session ms f room w' rest o v → Session ms f room w input (printed ++ o) v

-- a command has at least one byte
longer : (i : Instruction) → 0 < length (encode i)
longer (insert a rows) = omega arith
longer (remove a) = omega arith
longer (add_pivot c a) = omega arith
longer (remove_pivot c p) = omega arith
longer (nearest g ws k r b rows) = omega arith

module _ (ms : List Model) (f : Format) (room : Room) (w : Written) (input printed said : List ℕ) (w' v : Written) (rest after : List ℕ) (s : Sofar ms f room w input printed w' rest) where
  pub one_more : Turn ms f room w' v rest after said true → Sofar ms f room w input (printed ++ said) v after
  one_more t = λ o u r.
      subst (λ (x : List ℕ). Session ms f room w input x u) (sym (append_assoc printed said o))
      (s (said ++ o) u (next t.0 said t.1 t.2 t.3.says (subst (λ (x : Written). Session ms f room x after o u) t.3.leaves r)))

  -- a run that has come to its end
  pub come : Turn ms f room w' v rest after said false → Session ms f room w input (printed ++ said) v
  come t = subst (λ (x : Written). Session ms f room w input (printed ++ said) x) (sym t.0) (s said w' t.2)

  -- a turn leaves less to do
  pub shorter : Turn ms f room w' v rest after said true → length after < length rest
  shorter t = omega (arith, ap length t.2, length-append (encode t.0) after, longer t.0)

-- the same under names that are equal
pub turned : (ms ms' : List Model) (f f' : Format) (room room' : Room) (w v : Written) (before after said : List ℕ) (more now : Bool)
    → ms' ≡ ms → f' ≡ f → room' ≡ room → more ≡ now → Turn ms' f' room' w v before after said more → Turn ms f room w v before after said now
turned ms ms' f f' room room' w v before after said more now e g l m t =
    subst (λ (b : Bool). Turn ms f room w v before after said b) m
    (subst (λ (x : Room). Turn ms f x w v before after said more) l
    (subst (λ (h : Format). Turn ms h room' w v before after said more) g
    (subst (λ (x : List Model). Turn x f' room' w v before after said more) e t)))
