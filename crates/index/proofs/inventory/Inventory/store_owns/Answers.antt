use Rattle.std.proofs.Common.{◌+◌, ◌-◌, ◌<◌, ◌≤◌, length, take, drop, sym, refl, ap, ◌∙◌, arith}
use Rattle.patch.specs.Patches.{few}
use Rattle.big_endian.specs.Numbers.{be16}
use Rattle.index.specs.Steps.{slot_row, store_own}
use Rattle.index.specs.Works.{OwnAsks}
use Rattle.index.proofs.Eaches.{each_more}
use Rattle.index.proofs.Puts.{length_put, take_put}
use Rattle.index.proofs.Stores.{own_cut, pivot_cut, pivot_kept, slot_same, stored, adds_pair}
use Rattle.index.proofs.inventory.Inventory.store_owns.Goals as goal

pub loop-slot-preserved : goal.loop-slot-preserved
loop-slot-preserved g c =
    let u = c.row_span-start.ensures in
    let s = g.S.ChannelSet in
    let ms = s.models c.args.set.now in
    let k = c.args.self.now.counts in
    let l = c.args.self.now.layout in
    let i = c.args.c in
    let p = c.args.p in
    let j = c.loop-slot.slot in
    let b = c.loop-slot.store in
    let b₀ = c.args.store.now in
    let from = c.pivot_at-from.result in
    let start = c.row_span-start.result.start in
    let w = c.row_span-start.result.width in
    let own = c.row_at.result + start in
    let y = take ((from + w) - from) (drop from b) in
    let f = store_own (few ms) l i p in
    let same = c.loop-slot.invariant.0 in
    let below = c.loop-slot.invariant.3 in
    let wrote = c.put_u16.ensures in
    let ex = own_cut ms l i start w j c.row_at.result b u c.row_at.ensures.at in
    let ey = pivot_cut ms l i start w p from b u c.pivot_at-from.ensures.at in
    let lt : j < k.held = omega (arith, c.loop-slot-test.true, c.from-slot-end.ensures) in
    let fits : c.distance_at-to.result + 2 ≤ length b = omega (arith, c.distance_at-to.ensures.ends, c.requires.ready.long, c.loop-slot.invariant.1) in (
      c.distance-d.ensures.kept ∙ same,
      ap length wrote ∙ length_put c.distance_at-to.result (be16 c.distance-d.result) b fits ∙ c.loop-slot.invariant.1,
      stored ms (s.models c.loop-slot.set) same i c.requires.channel l j p c.distance_at-to.result c.distance-d.result (slot_row (few ms) l i j b) _ y b c.put_u16.new.store
          c.distance_at-to.ensures.at c.distance-d.ensures.value ex ey wrote
          ∙ ap (f j) c.loop-slot.invariant.2 ∙ sym (each_more j f b₀),
      ap (take l.distances) wrote ∙ take_put l.distances c.distance_at-to.result (be16 c.distance-d.result) b c.distance_at-to.ensures.begins fits ∙ below,
      adds_pair (s.asked c.args.set.now) (s.asked c.loop-slot.set) (s.asked c.distance-d.new.self) (OwnAsks (few ms) l k.held b₀ i p) i _ y
          c.loop-slot.invariant.4 c.distance-d.ensures.adds (
            refl,
            ey ∙ pivot_kept (few ms) k l b b₀ i p c.requires.ready c.requires.channel c.requires.pivot below,
            (j, lt, ex ∙ slot_same (few ms) k l b b₀ i j c.requires.ready c.requires.channel (omega (arith, lt, c.requires.ready.held)) below),
          ),
    )
