use Rattle.std.proofs.Common.{◌≡◌, ◌++◌, take, string_bytes}
use Rattle.search_console.specs.Lines.{hit_lines}
use Rattle.search_console.proofs.print.print_hits.Given as goal

abbrev pub invariant-loop-hit : goal.invariant-loop-hit
invariant-loop-hit l = string_bytes l.out ≡ string_bytes l.initial.out ++ hit_lines (take l.hit-index l.hits)
