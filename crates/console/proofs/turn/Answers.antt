use Rattle.std.proofs.Common.{ℕ, [], ◌++◌, Ok, string_bytes, codes, Option, sym, refl, ap, ◌∙◌, subst, append-nil}
use Rattle.refusal.specs.Refusals.{number}
use Rattle.console.specs.Lines.{line}
use Rattle.command.specs.declared.Command.{Command}
use Rattle.console.specs.Sessions.{NextServed, unread}
use Rattle.console.proofs.Reading.{ended}
use Rattle.console.proofs.turn.Goals as goal

pub returns-in_default : goal.returns-in_default
returns-in_default g c =
    let n = subst (λ (o : Option Command). NextServed c.args.reader.now.format c.args.reader.now.rest.now c.next_command.new.reader.rest.now (Ok o)) c.in_default.is c.in-Ok.ensures.next in
    record { same = refl; format = c.next_command.ensures.format; turn = ([], (refl, n.1 ∙ sym n.0, ended _ _ _ _ n.0), sym (append-nil (string_bytes c.args.out.now))) }

pub returns-in-Err : goal.returns-in-Err
returns-in-Err g c = record {
  same = refl;
  format = c.next_command.ensures.format;
  turn = (
    line (codes "?") (number c.in-Err.refusal),
    (refl, c.in-Err.ensures.next.1, unread c.in-Err.refusal c.in-Err.ensures.next.0),
    c.in_ok-print_line-in-Err.ensures ∙ ap (λ (n : ℕ). string_bytes c.args.out.now ++ line (codes "?") n) c.number.ensures.value,
  );
}
