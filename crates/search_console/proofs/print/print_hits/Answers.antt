use Rattle.std.proofs.Common.{ℕ, List, ◌++◌, get_or, take, string_bytes, sym, ap, ◌∙◌}
use Rattle.std.proofs.lemmas.List.{take_all}
use Rattle.engine.specs.declared.records.Neighbor.{Neighbor}
use Rattle.search_console.specs.Lines.{hit_line, hit_lines}
use Rattle.search_console.proofs.Printing.{hits_more, behind}
use Rattle.search_console.proofs.print.print_hits.Goals as goal

pub loop-hit-preserved : goal.loop-hit-preserved
loop-hit-preserved c =
    let out = string_bytes c.args.out.now in
    let hits = c.args.hits.now in
    let i = c.loop-hit.hit-index in
    let none : Neighbor = record { accession = 0; distance = 0 } in
    behind out _ _ (hit_lines (take i hits)) (hit_line (get_or hits i none)) c.loop-hit.invariant c.in_ok-print_hit.ensures
    ∙ ap (λ (l : List ℕ). out ++ l) (sym (hits_more hits i none c.loop-hit-test.true))

pub returns : goal.returns
returns c = c.loop-hit.invariant ∙ ap (λ (l : List Neighbor). string_bytes c.args.out.now ++ hit_lines l) (take_all c.loop-hit.hit-index c.args.hits.now c.loop-hit-test.false)
