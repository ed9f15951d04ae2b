use Rattle.std.proofs.Common.{refl, arith}
use Rattle.metric.specs.Model.{Row}
use Rattle.suppliers.proofs.Book.{book_adds, book_has}
use Rattle.suppliers.proofs.recorder.RecorderMetric.distance.Goals as goal

pub returns : goal.returns
returns c =
    let r : Row 1 c.args.a.now = record { long = c.requires.left; bytes = λ k. omega (arith, c.type_inv.a k) } in
    let s : Row 1 c.args.b.now = record { long = c.requires.right; bytes = λ k. omega (arith, c.type_inv.b k) } in
    record {
      value = c.differ.ensures;
      kept = refl;
      adds = book_adds _ _ _ _ r s c.entry_of.ensures.value;
      records = book_has _ _ _ _ r s c.entry_of.ensures.value (omega arith);
    }
