use Rattle.std.proofs.Common.{ℕ, length, ap, ◌∙◌, arith}
use Rattle.big_endian.specs.Numbers.{be16}
use Rattle.patch.specs.Patches.{few}
use Rattle.index.specs.declared.layout.Layout.{Layout}
use Rattle.index.specs.Asks.{InsertAsks}
use Rattle.index.specs.Bytes.{put}
use Rattle.index.specs.Layouts.{number_at, row_at}
use Rattle.index.specs.Steps.{each, store_channel}
use Rattle.index.proofs.Stores.{insert_asks_same, adds_among}
use Rattle.index.proofs.Workings.{patch_leaves}
use Rattle.index.proofs.inventory.Inventory.store_next.Goals as goal

pub returns : goal.returns
returns g c =
    let s = g.S.ChannelSet in
    let ms = few (s.models c.args.set.now) in
    let k = c.args.self.now.counts in
    let l = c.args.self.now.layout in
    let b = c.args.store.now in
    let b₂ = c.put_patch.new.store in
    let a = c.args.accession in
    let rows = c.args.rows.now in
    record {
      kept = c.store_patch.ensures.kept;
      bytes =
          c.store_patch.ensures.bytes
          ∙ ap (each (length ms) (store_channel ms l k c.from-slot.result rows)) c.put_patch.ensures
          ∙ ap (λ (n : ℕ). each (length ms) (store_channel ms l k n rows) (put (row_at l n) rows (put (number_at n) (be16 a) b))) c.from-slot.ensures
          ∙ ap (λ (z : Layout). each (length ms) (store_channel ms z k k.held rows) (put (row_at z k.held) rows (put (number_at k.held) (be16 a) b))) c.requires.ready.layout;
      asks =
          adds_among (s.asked c.args.set.now) (s.asked c.store_patch.new.set) (InsertAsks ms k b₂ rows) (InsertAsks ms k b rows)
          (insert_asks_same ms k b₂ b rows (patch_leaves ms k l b c.requires.ready c.from-slot.result a rows b₂ (omega (arith, c.from-slot.ensures, c.requires.free)) c.requires.rows c.put_patch.ensures))
          c.store_patch.ensures.asks;
    }
