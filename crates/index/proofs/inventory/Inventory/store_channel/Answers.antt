use Rattle.std.proofs.Common.{◌+◌, ◌-◌, ◌<◌, ◌≤◌, length, take, drop, sym, ap, ◌∙◌, arith}
use Rattle.patch.specs.Patches.{few, row}
use Rattle.big_endian.specs.Numbers.{be16}
use Rattle.index.specs.declared.layout.Layout.{Layout}
use Rattle.index.specs.Asks.{InsertAsks}
use Rattle.index.specs.Steps.{pivot_row, store_distance}
use Rattle.index.proofs.Eaches.{each_more}
use Rattle.index.proofs.Puts.{length_put, take_put}
use Rattle.index.proofs.Stores.{row_cut, pivot_cut, pivot_kept, stored, adds_pair}
use Rattle.index.proofs.inventory.Inventory.store_channel.Goals as goal

pub loop-p-preserved : goal.loop-p-preserved
loop-p-preserved g c =
    let u = c.row_span-start.ensures in
    let s = g.S.ChannelSet in
    let ms = s.models c.args.set.now in
    let l = c.args.self.now.layout in
    let i = c.args.c in
    let p = c.loop-p.p in
    let b = c.loop-p.store in
    let b₀ = c.args.store.now in
    let from = c.pivot_at-from.result in
    let start = c.row_span-start.result.start in
    let w = c.row_span-start.result.width in
    let rows = c.args.rows.now in
    let x = row (few ms) i rows in
    let y = take ((from + w) - from) (drop from b) in
    let f = store_distance (few ms) l c.args.slot i x in
    let same = c.loop-p.invariant.0 in
    let wrote = c.put_u16.ensures in
    let ex = row_cut ms l i start w rows u in
    let ey = pivot_cut ms l i start w p from b u c.pivot_at-from.ensures.at in
    let lt : p < 8 = omega (arith, c.requires.ready.eight i, c.pivots_in-p-end.ensures, c.loop-p-test.true) in
    let fits : c.distance_at-to.result + 2 ≤ length b = omega (arith, c.distance_at-to.ensures.ends, c.requires.ready.long, c.loop-p.invariant.1) in (
      c.distance-d.ensures.kept ∙ same,
      ap length wrote ∙ length_put c.distance_at-to.result (be16 c.distance-d.result) b fits ∙ c.loop-p.invariant.1,
      stored ms (s.models c.loop-p.set) same i c.requires.channel l c.args.slot p c.distance_at-to.result c.distance-d.result x _ y b c.put_u16.new.store
          c.distance_at-to.ensures.at c.distance-d.ensures.value ex ey wrote
          ∙ ap (f p) c.loop-p.invariant.2 ∙ sym (each_more p f b₀),
      ap (take l.distances) wrote ∙ take_put l.distances c.distance_at-to.result (be16 c.distance-d.result) b c.distance_at-to.ensures.begins fits ∙ c.loop-p.invariant.3,
      adds_pair (s.asked c.args.set.now) (s.asked c.loop-p.set) (s.asked c.distance-d.new.self) (InsertAsks (few ms) c.args.self.now.counts b₀ rows) i _ y
          c.loop-p.invariant.4 c.distance-d.ensures.adds (
            c.requires.channel,
            ex,
            (
              p,
              omega (arith, c.loop-p-test.true, c.pivots_in-p-end.ensures),
              ey ∙ pivot_kept (few ms) c.args.self.now.counts l b b₀ i p c.requires.ready c.requires.channel lt c.loop-p.invariant.3 ∙ ap (λ (z : Layout). pivot_row (few ms) z i p b₀) c.requires.ready.layout,
            ),
          ),
    )
