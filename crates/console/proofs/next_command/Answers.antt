use Rattle.std.proofs.Common.{◌∙◌}
use Rattle.console.proofs.Reading.{peeked, served_next}
use Rattle.console.proofs.next_command.Goals as goal

pub returns : goal.returns
returns c = record {
  next = served_next c.args.reader.now.format c.args.reader.now.rest.now _ c.next.result (λ e. c.if-unwrap_or-eq67.false (c.unwrap_or.ensures ∙ peeked c.args.reader.now.rest.now c.peek.result c.peek.ensures ∙ e)) c.next.ensures.next;
  format = c.next.ensures.format;
}
