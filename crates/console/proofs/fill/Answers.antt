use Rattle.std.proofs.Common.{ℕ, List, sym, subst, arith}
use Rattle.std.proofs.lemmas.Grind.{common_steps}
use Rattle.std.specs.Io.KnownBytes.{Consumes}
use Rattle.console.proofs.Filling.{consumed, filled}
use Rattle.console.proofs.fill.Goals as goal

pub loop-len-preserved : goal.loop-len-preserved
loop-len-preserved g c =
    let l = c.loop-len in
    let was = l.invariant in
    let got = c.in_ok-got.ensures in
    record {
      count = grind (arith, common_steps);
      bytes = subst (λ (bs : List ℕ). Consumes (g.R.Read.remaining c.args.source.now) (g.R.Read.remaining c.read.new.self) bs)
          (sym (filled l.len _ c.in_ok-got.got l.buffer c.read.new.buf was.count got.bound.0))
          (consumed _ _ _ _ _ was.bytes got.bytes.0);
    }
