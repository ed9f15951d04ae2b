use Rattle.std.proofs.Common.{ℕ, ◌≤◌, [], get_or, ap, ◌∙◌, arith}
use Rattle.patch.specs.Patches.{few}
use Rattle.refine.specs.Bounds.{upper_of}
use Rattle.promise.specs.Held.{near, far}
use Rattle.search.proofs.Reading.{lower_read, upper_read}
use Rattle.search.proofs.held.HeldSource.bounds.Goals as goal

pub bounds-requires : goal.bounds-requires
bounds-requires g c =
    let few = c.requires.ready.fits.ready.eight c.args.c in
    let long = (c.requires.ready.near.in_channel c.args.c c.requires.channel).long in
    record { near = omega (arith, c.pivots_in-pivots.ensures); far = omega (arith, c.pivots_in-pivots.ensures, c.distances_of-far.ensures.long) }

pub returns : goal.returns
returns g c =
    let ms = g.S.ChannelSet.models c.args._meter.now in
    let h = c.args.self.now in
    let i = c.args.c in
    let n = c.pivots_in-pivots.result in
    let small : n ≤ 8 = omega (arith, c.requires.ready.fits.ready.eight i, c.pivots_in-pivots.ensures) in
    let t = c.requires.ready.near.in_channel i c.requires.channel in
    let top = c.requires.ready.tops.in_channel i c.requires.channel in
    let b = h.view.store.now in
    let q = h.view.query.now in
    let xs = get_or h.near i [] in
    let ys = c.distances_of-far.result.now in
    record {
      lower = c.bounds.ensures.lower
          ∙ lower_read (few ms) h.view.counts h.view.layout b q c.args.slot i n xs ys c.requires.ready.fits.ready.layout c.pivots_in-pivots.ensures small t c.distances_of-far.ensures.is;
      upper = c.bounds.ensures.upper
          ∙ upper_read (few ms) h.view.counts h.view.layout b q c.args.slot i n xs ys c.requires.ready.fits.ready.layout c.pivots_in-pivots.ensures small t c.distances_of-far.ensures.is (get_or h.tops i 0)
          ∙ ap (λ (m : ℕ). upper_of m (near (few ms) h.view.counts b q i) (far (few ms) h.view.counts b q c.args.slot i)) top;
    }
