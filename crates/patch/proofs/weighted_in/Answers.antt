use Rattle.std.proofs.Common.{ℕ, ◌*◌, get_or, ap, arith}
use Rattle.std.proofs.lemmas.Nat.{mul-le}
use Rattle.patch.proofs.weighted_in.Goals as goal

pub returns : goal.returns
returns g c =
    let w = get_or c.args.weights.now c.args.c 0 in
    record {
      value = ap (λ (d : ℕ). w * d) c.distance_in.ensures.value;
      small = mul-le w c.distance_in.result 255 65535 (omega (arith, c.type_inv.weights c.args.c)) (omega (arith, c.distance_in.type_inv));
      kept = c.distance_in.ensures.kept;
      adds = c.distance_in.ensures.adds;
    }
