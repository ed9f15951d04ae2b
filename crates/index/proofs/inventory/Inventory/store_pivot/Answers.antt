use Rattle.std.proofs.Common.{ℕ, ap, ◌∙◌, arith}
use Rattle.metric.specs.Channels.{at}
use Rattle.patch.specs.Patches.{few, offset}
use Rattle.index.specs.declared.layout.Layout.{Layout}
use Rattle.index.specs.Asks.{PivotAsks}
use Rattle.index.specs.Bytes.{put}
use Rattle.index.specs.Layouts.{layout_of, pivot_at}
use Rattle.index.specs.Steps.{each, slot_row, store_own}
use Rattle.index.specs.Works.{OwnAsks}
use Rattle.index.proofs.Stores.{adds_among}
use Rattle.index.proofs.Workings.{pivot_asks}
use Rattle.index.proofs.inventory.Inventory.store_pivot.Goals as goal

pub returns : goal.returns
returns g c =
    let s = g.S.ChannelSet in
    let ms = few (s.models c.args.set.now) in
    let k = c.args.self.now.counts in
    let l = c.args.self.now.layout in
    let b = c.args.store.now in
    let b₂ = c.put_pivot.new.store in
    let i = c.args.c in
    let slot = c.args.slot in
    let p = c.pivots_in-p.result in
    let e = c.pivots_in-p.ensures in
    record {
      kept = c.store_owns.ensures.kept;
      bytes =
          c.store_owns.ensures.bytes
          ∙ ap (each k.held (store_own ms l i p)) c.put_pivot.ensures
          ∙ ap (λ (z : Layout). each k.held (store_own ms z i p) (put (pivot_at z (offset ms i) (at ms i).width p) (slot_row ms z i slot b) b)) c.requires.ready.layout
          ∙ ap (λ (q : ℕ). each k.held (store_own ms (layout_of ms k.capacity) i q) (put (pivot_at (layout_of ms k.capacity) (offset ms i) (at ms i).width q) (slot_row ms (layout_of ms k.capacity) i slot b) b)) e;
      asks =
          adds_among (s.asked c.args.set.now) (s.asked c.store_owns.new.set) (OwnAsks ms l k.held b₂ i p) (PivotAsks ms k b i slot)
          (pivot_asks ms k l b c.requires.ready i p slot b₂ c.requires.channel (omega (arith, e, c.requires.room)) c.requires.slot c.put_pivot.ensures)
          c.store_owns.ensures.asks;
    }
