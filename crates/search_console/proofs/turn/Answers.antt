use Rattle.std.proofs.Common.{ℕ, [], ◌++◌, Ok, string_bytes, codes, Option, sym, refl, ap, ◌∙◌, subst, append-nil}
use Rattle.refusal.specs.Refusals.{number}
use Rattle.command.specs.declared.Command.{Command}
use Rattle.command.specs.Commands.{meant, Next}
use Rattle.console.specs.Lines.{line}
use Rattle.search_console.specs.Sessions.{unread}
use Rattle.search_console.proofs.Running.{ended}
use Rattle.search_console.proofs.turn.Goals as goal

pub returns-in_default : goal.returns-in_default
returns-in_default g c =
    let n = subst (λ (o : Option Command). Next c.args.reader.now.format c.args.reader.now.rest.now c.next.new.self.rest.now (Ok o)) c.in_default.is c.in-Ok.ensures.next in
    record { same = refl; format = c.next.ensures.format; turn = ([], (refl, n.1 ∙ sym n.0, ended _ _ _ _ _ n.0), sym (append-nil (string_bytes c.args.out.now))) }

pub returns-in-Err : goal.returns-in-Err
returns-in-Err g c = record {
  same = refl;
  format = c.next.ensures.format;
  turn = (
    line (codes "?") (number c.in-Err.refusal),
    (refl, c.in-Err.ensures.next.1, unread c.in-Err.refusal c.in-Err.ensures.next.0),
    c.in_ok-print_line-in-Err.ensures ∙ ap (λ (n : ℕ). string_bytes c.args.out.now ++ line (codes "?") n) c.number.ensures.value,
  );
}

pub returns : goal.returns
returns g c =
    let n = subst (λ (o : Option Command). Next c.args.reader.now.format c.args.reader.now.rest.now c.next.new.self.rest.now (Ok o)) c.in-Some.is c.in-Ok.ensures.next in
    let s = c.in_ok-serve.ensures.serves in
    record { same = c.serve.ensures.same; format = c.next.ensures.format; turn = (s.0, (meant c.in-Some.command, n.1, n.0, s.1), s.2) }
