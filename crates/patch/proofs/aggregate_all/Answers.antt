use Rattle.std.proofs.Common.{◌≡◌, ℕ, ◌∷◌, [], length, ◌∙◌, ap, arith, length-take, take_all}
use Rattle.std.proofs.lemmas.List.{take-append-le}
use Rattle.std.proofs.lemmas.List.FromFn.{fill_by_all}
use Rattle.patch.specs.Patches.{weighted}
use Rattle.patch.proofs.aggregate_all.Goals as goal

pub returns-clause-value : goal.returns-clause-value
returns-clause-value g c =
    let ms = g.S.ChannelSet.models c.args.set.now in
    let n = c.channels-channels.result in
    let long : length c.loop-c.entry-items ≡ n = omega (arith, length-take {A = ℕ} n (0 ∷ 0 ∷ 0 ∷ 0 ∷ 0 ∷ 0 ∷ 0 ∷ 0 ∷ [])) in
    let many : n ≡ length ms = omega arith in
    let all = fill_by_all (weighted ms c.args.weights.now c.args.query.now c.args.patch.now) c.loop-c.entry-items (length ms) 0 (long ∙ many) (λ k l. c.loop-c.invariant.1 k (omega arith)) in
    c.combine.ensures ∙ ap (g.A.Aggregate.meaning c.args.aggregate.now) (take-append-le n c.loop-c.entry-items _ (omega arith) ∙ (take_all n c.loop-c.entry-items (omega arith) ∙ all))
