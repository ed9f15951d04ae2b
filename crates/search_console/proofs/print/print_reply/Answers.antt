use Rattle.std.proofs.Common.{List, ◌++◌, string_bytes, Result, sym, ap, ◌∙◌}
use Rattle.std.proofs.lemmas.Result.{IfOk-weaker}
use Rattle.refusal.specs.declared.Refusal.{Refusal}
use Rattle.engine.specs.declared.records.Answer.{Answer}
use Rattle.engine.specs.declared.records.Neighbor.{Neighbor}
use Rattle.search_console.specs.Lines.{summary, hit_lines, search_lines}
use Rattle.search_console.proofs.Printing.{behind}
use Rattle.search_console.proofs.print.print_reply.Goals as goal

pub returns-in_ok-print_summary-in-Ok : goal.returns-in_ok-print_summary-in-Ok
returns-in_ok-print_summary-in-Ok c =
    let out = string_bytes c.args.out.now in
    let hits = c.args.hits.now in
    let a = c.in-Ok.answer in
    IfOk-weaker c.print_hits.result _ _
    (λ _ e.
    behind out _ _ (summary a) (hit_lines c.named.result.now) c.in_ok-print_summary-in-Ok.ensures e
    ∙ ap (λ (l : List Neighbor). out ++ (summary a ++ hit_lines l)) c.named.ensures
    ∙ ap (λ (r : Result Answer Refusal). out ++ search_lines r hits) (sym c.in-Ok.is))
    c.print_hits.ensures
