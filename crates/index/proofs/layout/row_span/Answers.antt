use Rattle.std.proofs.Common.{sym, ap, ◌∙◌, arith, length-take}
use Rattle.metric.specs.Model.{Model}
use Rattle.patch.specs.Patches.{few}
use Rattle.patch.proofs.Widths.{few_at, row_ends}
use Rattle.index.proofs.layout.row_span.Goals as goal

pub returns : goal.returns
returns g c =
    let ms = g.S.ChannelSet.models c.args.set.now in
    let w = c.width.ensures ∙ ap (λ (m : Model). m.width) (sym (few_at ms c.args.c c.requires.channel)) in
    record {
      known = omega (arith, length-take 8 ms);
      channel = omega arith;
      begins = c.row_offset.ensures.value;
      wide = w;
      same = c.width.ensures;
      inside = omega (arith, w, row_ends (few ms) c.args.c c.requires.channel);
    }
