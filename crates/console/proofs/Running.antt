-- A run so far.
use Rattle.std.proofs.Common.{◌≡◌, ℕ, ◌<◌, true, false, Bool, List, ◌++◌, length, sym, ap, subst, append_assoc, arith, length-append}
use Rattle.metric.specs.Model.{Model}
use Rattle.command.specs.declared.format.Format.{Format}
use Rattle.command.specs.Commands.{Instruction, insert, remove, add_pivot, remove_pivot, nearest, encode}
use Rattle.index.specs.History.{Written}
use Rattle.console.specs.Sessions.{Session, next, Turn}

-- from w over the input a run has printed some lines and come to w' with `rest` still to read
abbrev pub Sofar : List Model → Format → Written → (input printed : List ℕ) → Written → (rest : List ℕ) → Type 0
Sofar ms f w input printed w' rest = (o : List ℕ) (v : Written) → Session ms f w' rest o v → Session ms f w input (printed ++ o) v

-- a command has at least one byte
longer : (i : Instruction) → 0 < length (encode i)
longer (insert a rows) = omega arith
longer (remove a) = omega arith
longer (add_pivot c a) = omega arith
longer (remove_pivot c p) = omega arith
longer (nearest g ws k r b rows) = omega arith

module _ (ms : List Model) (f : Format) (w : Written) (input printed line : List ℕ) (w' v : Written) (rest after : List ℕ) (s : Sofar ms f w input printed w' rest) where
  pub one_more : Turn ms f w' v rest after line true → Sofar ms f w input (printed ++ line) v after
  one_more t = λ o u r.
      subst (λ (x : List ℕ). Session ms f w input x u) (sym (append_assoc printed line o))
      (s (line ++ o) u (subst (λ (x : List ℕ). Session ms f w' rest (x ++ o) u) (sym t.5) (next t.0 t.1 t.2 t.3 (subst (λ (x : Written). Session ms f x after o u) t.4 r))))

  -- a run that has come to its end
  pub come : Turn ms f w' v rest after line false → Session ms f w input (printed ++ line) v
  come t = subst (λ (x : Written). Session ms f w input (printed ++ line) x) (sym t.0) (s line w' t.2)

  -- a turn leaves less to do
  pub shorter : Turn ms f w' v rest after line true → length after < length rest
  shorter t = omega (arith, ap length t.3, length-append (encode t.0) after, longer t.0)

-- the same under names that are equal
pub turned : (ms ms' : List Model) (f f' : Format) (w v : Written) (before after line : List ℕ) (more now : Bool) → ms' ≡ ms → f' ≡ f → more ≡ now
    → Turn ms' f' w v before after line more → Turn ms f w v before after line now
turned ms ms' f f' w v before after line more now e g m t =
    subst (λ (b : Bool). Turn ms f w v before after line b) m
    (subst (λ (h : Format). Turn ms h w v before after line more) g (subst (λ (l : List Model). Turn l f' w v before after line more) e t))
