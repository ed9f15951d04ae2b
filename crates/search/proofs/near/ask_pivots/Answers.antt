use Rattle.std.proofs.Common.{ℕ, ◌<◌, ◌≢◌, List, [], length, sym, ◌∙◌, subst, arith, length-set, get_or-set_other, get_or-set_same, below_more}
use Rattle.metric.specs.Model.{Model}
use Rattle.patch.specs.Patches.{few}
use Rattle.index.proofs.Stores.{adds_more}
use Rattle.index.specs.Asks.{AddsOnly}
use Rattle.promise.specs.Held.{NearAsks}
use Rattle.search.specs.Walks.{NearIn}
use Rattle.search.proofs.near.ask_pivots.Goals as goal

pub loop-c-preserved : goal.loop-c-preserved
loop-c-preserved g c =
    let s = g.S.ChannelSet in
    let ms = s.models c.args.set.now in
    let same = c.loop-c.invariant.0 in
    let i = c.loop-c.c in
    let k = c.args.view.now.counts in
    let b = c.args.view.now.store.now in
    let q = c.args.view.now.query.now in
    let t = c.loop-c.table in
    let v = c.ask_channel.result in
    let room : i < length t = omega (arith, c.loop-c.invariant.1, c.requires.ready.sound.channels_few) in (
      c.ask_channel.ensures.kept ∙ same,
      length-set t i v ∙ c.loop-c.invariant.1,
      below_more _ _
          (λ j h. let ne : j ≢ i = omega arith in subst (λ (xs : List ℕ). NearIn (few ms) k b q j xs) (sym (get_or-set_other t i j v [] ne)) (c.loop-c.invariant.2 j h))
          (subst (λ (xs : List ℕ). NearIn (few ms) k b q i xs) (sym (get_or-set_same t i v [] room)) (subst (λ (ls : List Model). NearIn (few ls) k b q i v) same c.ask_channel.ensures.near)),
      adds_more (s.asked c.args.set.now) (s.asked c.loop-c.set) (s.asked c.ask_channel.new.set) (NearAsks (few ms) k b q) c.loop-c.invariant.3
          (subst (λ (ls : List Model). AddsOnly (s.asked c.loop-c.set) (s.asked c.ask_channel.new.set) (NearAsks (few ls) k b q)) same c.ask_channel.ensures.asks),
    )
