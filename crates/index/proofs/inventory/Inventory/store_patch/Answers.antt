use Rattle.std.proofs.Common.{ℕ, List, sym, ap, ◌∙◌}
use Rattle.metric.specs.Model.{Model}
use Rattle.patch.specs.Patches.{few}
use Rattle.index.specs.Asks.{InsertAsks}
use Rattle.index.specs.Steps.{store_channel}
use Rattle.index.proofs.Eaches.{each_more}
use Rattle.index.proofs.Stores.{insert_asks_below, adds_more, adds_among}
use Rattle.index.proofs.inventory.Inventory.store_patch.Goals as goal

pub loop-c-preserved : goal.loop-c-preserved
loop-c-preserved g c =
    let s = g.S.ChannelSet in
    let ms = s.models c.args.set.now in
    let ms₁ = s.models c.loop-c.set in
    let k = c.args.self.now.counts in
    let l = c.args.self.now.layout in
    let rows = c.args.rows.now in
    let b = c.loop-c.store in
    let b₀ = c.args.store.now in
    let j = c.loop-c.c in
    let same = c.loop-c.invariant.0 in
    let f : ℕ → List ℕ → List ℕ = store_channel (few ms) l k c.args.slot rows in
    let before = s.asked c.args.set.now in
    let mid = s.asked c.loop-c.set in
    let after = s.asked c.store_channel.new.set in (
      c.store_channel.ensures.kept ∙ same,
      c.store_channel.ensures.bytes ∙ ap (λ (ls : List Model). store_channel (few ls) l k c.args.slot rows j b) same ∙ ap (f j) c.loop-c.invariant.1 ∙ sym (each_more j f b₀),
      c.store_channel.ensures.below ∙ c.loop-c.invariant.2,
      adds_more before mid after (InsertAsks (few ms) k b₀ rows) c.loop-c.invariant.3
          (adds_among mid after (InsertAsks (few ms₁) k b rows) (InsertAsks (few ms) k b₀ rows) (insert_asks_below ms ms₁ k l b b₀ rows same c.requires.ready c.loop-c.invariant.2) c.store_channel.ensures.asks),
    )
