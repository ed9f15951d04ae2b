use Rattle.std.proofs.Common.{ℕ, ◌<◌, List, length, ap, ◌∙◌, arith, length-set}
use Rattle.metric.specs.Model.{Model}
use Rattle.metric.specs.Channels.{at}
use Rattle.patch.specs.Patches.{few, row}
use Rattle.index.specs.declared.layout.Layout.{Layout}
use Rattle.index.specs.Limits.{pivots_in}
use Rattle.index.specs.Steps.{pivot_row}
use Rattle.index.proofs.Stores.{adds_pair}
use Rattle.promise.specs.Held.{NearAsks}
use Rattle.search.proofs.Asking.{write_near, near_from}
use Rattle.search.proofs.near.ask_channel.Goals as goal

pub loop-p-preserved : goal.loop-p-preserved
loop-p-preserved g c =
    let s = g.S.ChannelSet in
    let ms = s.models c.args.set.now in
    let same = c.loop-p.invariant.0 in
    let i = c.args.c in
    let p = c.loop-p.p in
    let q = c.args.view.now.query.now in
    let b = c.args.view.now.store.now in
    let l = c.args.view.now.layout in
    let k = c.args.view.now.counts in
    let lt : p < pivots_in k i = omega (arith, c.loop-p-test.true, c.pivots_in-p-end.ensures) in
    let room : p < length c.loop-p.near = omega (arith, c.loop-p.invariant.1, c.requires.fits.ready.eight i) in
    let x = ap (λ (ls : List Model). row (few ls) i q) same in
    let y = ap (λ (ls : List Model). pivot_row (few ls) l i p b) same in
    let f : ℕ → ℕ = λ j. (at (few ms) i).dist (row (few ms) i q) (pivot_row (few ms) l i j b) in
    let v = c.pivot_distance.ensures.value ∙ ap (λ (ls : List Model). (at (few ls) i).dist (row (few ls) i q) (pivot_row (few ls) l i p b)) same in (
      c.pivot_distance.ensures.kept ∙ same,
      length-set c.loop-p.near p c.pivot_distance.result ∙ c.loop-p.invariant.1,
      write_near f c.loop-p.near p c.pivot_distance.result room v c.loop-p.invariant.2,
      adds_pair (s.asked c.args.set.now) (s.asked c.loop-p.set) (s.asked c.pivot_distance.new.set) (NearAsks (few ms) k b q) i _ _
          c.loop-p.invariant.3 c.pivot_distance.ensures.adds
          (c.requires.channel, x, (p, lt, y ∙ ap (λ (z : Layout). pivot_row (few ms) z i p b) c.requires.fits.ready.layout)),
    )

pub returns : goal.returns
returns g c =
    let ms = g.S.ChannelSet.models c.args.set.now in
    record {
      near = near_from (few ms) c.args.view.now.counts c.args.view.now.layout c.args.view.now.store.now c.args.view.now.query.now c.args.c c.loop-p.near
          c.requires.fits.ready.layout c.loop-p.invariant.1 (λ j h. c.loop-p.invariant.2 j (omega (arith, c.pivots_in-p-end.ensures)));
      kept = c.loop-p.invariant.0;
      asks = c.loop-p.invariant.3;
    }
