use Rattle.std.proofs.Common.{ap, ◌∙◌, arith, length-take}
use Rattle.patch.specs.Patches.{few, patch_width}
use Rattle.patch.proofs.Widths.{Turn, turn, offset_all, offset_end, few_all}
use Rattle.patch.proofs.row_offset.Given as given
use Rattle.patch.proofs.row_offset.Goals as goal

next : (g : given.Over) (c : goal.After-width-start g) → Turn (g.S.ChannelSet.models c.args.set.now) c.loop-i.i c.loop-i.start c.width-start.result
next g c = turn _ _ _ _ (g.met.S.ChannelSet.lawful c.args.set.now) (omega arith) c.loop-i.invariant.1 c.loop-i.invariant.0 c.width-start.ensures

pub overflow_add-start : goal.overflow_add-start
overflow_add-start g c = omega (arith, (next g c).low, (next g c).small)

pub loop-i-preserved : goal.loop-i-preserved
loop-i-preserved g c = ((next g c).next, (next g c).low)

pub returns : goal.returns
returns g c =
    let ms = g.S.ChannelSet.models c.args.set.now in
    let v = c.loop-i.invariant.0 ∙ offset_end (few ms) c.loop-i.i c.args.c (omega arith) (omega arith) in
    record {
      value = v;
      past = λ h. v ∙ offset_all (few ms) c.args.c (omega (arith, length-take 8 ms));
      all = λ h k. v ∙ offset_all (few ms) c.args.c (omega (arith, length-take 8 ms)) ∙ ap patch_width (few_all ms k);
      bound = omega arith;
    }
