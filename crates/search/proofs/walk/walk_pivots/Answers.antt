use Rattle.std.proofs.Common.{ℕ, ◌+◌, ◌*◌, min, get_or, ap, ◌∙◌, arith}
use Rattle.index.specs.Bytes.{get16}
use Rattle.metric.specs.Distances.{difference}
use Rattle.search.proofs.Walking.{lower_more, upper_more}
use Rattle.search.proofs.walk.walk_pivots.Goals as goal

pub loop-p-preserved : goal.loop-p-preserved
loop-p-preserved c =
    let f : ℕ → ℕ = λ p. get_or c.args.near.now p 0 in
    let g : ℕ → ℕ = λ p. get16 (2 * p) c.args.far.now in
    let p = c.loop-p.p in (
      lower_more f g p _ _ _ c.loop-p.invariant.0 (c.sides-least.ensures.lower ∙ ap (difference (f p)) c.get_u16.ensures) c.max-lower.ensures,
      upper_more f g c.args.top p _ _ _ (omega arith) c.loop-p.invariant.1 (c.sides-least.ensures.upper ∙ ap (λ (n : ℕ). min (f p + n) 65535) c.get_u16.ensures) c.min-upper.ensures,
    )
