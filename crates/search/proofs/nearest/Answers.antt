use Rattle.std.proofs.Common.{length, sym, refl, ap, ◌∙◌}
use Rattle.engine.specs.Outcomes.{asking}
use Rattle.patch.specs.Patches.{few}
use Rattle.promise.proofs.Within.{ran_within}
use Rattle.promise.specs.Held.{held_tables, NearAsks}
use Rattle.search.specs.Refusals.{handed, search_refusal}
use Rattle.search.specs.declared.checks.Sizes.{Sizes}
use Rattle.search.specs.Promised.{question, either}
use Rattle.search.proofs.Granting.{keeps, holds_search}
use Rattle.search.proofs.nearest.Goals as goal

pub returns : goal.returns
returns g c =
    let S = g.S.ChannelSet in
    let a = c.args in
    let s = c.serve in
    let e = s.ensures in
    let o = c.in_ok-layout.ensures in
    let x = a.index.now in
    let y = a.query.now in
    let ms = S.models x.set in
    let b = a.store.now in
    let f = g.A.Aggregate.meaning y.aggregate in
    let q = question y.rows.now y.weights.now f y.k y.radius in
    let sizes = handed (length y.rows.now) (length y.weights.now) (length a.hits.now) (length a.candidates.now) (length a.uppers.now) in
    let none = ap (λ (v : Sizes). search_refusal (few ms) x.counts b y.k v) (sym c.sizes_of-sizes.ensures.lengths) ∙ o.0 in
    record {
      answer = sym none;
      searched = rw c.from.ensures at e.ran;
      within = ran_within (held_tables (few ms) x.counts b y.rows.now) (asking y.weights.now f y.k y.radius a.budget) s.result a.hits.now s.new.hits
          (either (S.asked x.set) (NearAsks (few ms) x.counts b y.rows.now)) (S.asked s.new.set) (rw c.from.ensures at e.ran);
      promised = keeps ms x.counts b q a.budget sizes s.result a.hits.now s.new.hits (S.asked x.set) (S.asked s.new.set)
          (g.met.S.ChannelSet.some x.set) (g.met.S.ChannelSet.lawful x.set) (g.met.A.Aggregate.lawful y.aggregate) none refl refl
          c.sizes_of-sizes.ensures.rows c.sizes_of-sizes.ensures.weights (rw c.from.ensures at e.ran);
      counts = refl;
      same = e.same;
      scratch = (e.candidates, e.uppers);
      refused = tt;
      history = holds_search ms (S.models s.new.set) x.counts x.counts b e.same refl;
    }
