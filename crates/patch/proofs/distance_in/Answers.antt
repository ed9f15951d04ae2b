use Rattle.std.proofs.Common.{◌+◌, ◌≤◌, length, ◌∙◌, inl, inr, ⊎_elim, arith, rules}
use Rattle.metric.specs.Channels.{at}
use Rattle.patch.specs.Patches.{row}
use Rattle.patch.proofs.Rows.{cut_is_row, cut_ends, dist_at}
use Rattle.patch.proofs.distance_in.Goals as goal

pub slice_bounds-distance-end : goal.slice_bounds-distance-end
slice_bounds-distance-end g c =
    let e = cut_ends (g.S.ChannelSet.models c.args.set.now) c.args.c _ _ c.requires.few c.requires.channel c.row_offset-start.ensures.value c.width.ensures in
    let f : c.row_offset-start.result + c.width.result ≤ length c.args.query.now = omega arith in
    search rules

pub slice_bounds-distance-end-2 : goal.slice_bounds-distance-end-2
slice_bounds-distance-end-2 g c =
    let e = cut_ends (g.S.ChannelSet.models c.args.set.now) c.args.c _ _ c.requires.few c.requires.channel c.row_offset-start.ensures.value c.width.ensures in
    let f : c.row_offset-start.result + c.width.result ≤ length c.args.patch.now = omega arith in
    search rules

pub returns : goal.returns
returns g c =
    let ms = g.S.ChannelSet.models c.args.set.now in
    let q = c.args.query.now in
    let o = c.args.patch.now in
    let i = c.args.c in
    let a = cut_is_row ms i _ _ q c.requires.few c.row_offset-start.ensures.value c.width.ensures in
    let b = cut_is_row ms i _ _ o c.requires.few c.row_offset-start.ensures.value c.width.ensures in
    let v = dist_at (at ms i) c.distance.result _ _ (row ms i q) (row ms i o) a b c.distance.ensures.value in
    record {
      value = v;
      kept = c.distance.ensures.kept;
      adds = λ k x y h. ⊎_elim inl (λ t. inr (t.0, t.1 ∙ a, t.2 ∙ b)) (c.distance.ensures.adds k x y h);
    }
