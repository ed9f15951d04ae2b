use Rattle.std.proofs.Common.{ℕ, ◌==◌, sym, ◌∙◌, refl, arith, rules}
use Rattle.std.proofs.lemmas.Iterator.{YieldsList-from_range}
use Rattle.std.proofs.lemmas.Iterator.Search.{find_from_yields_List}
use Rattle.std.proofs.lemmas.Iterator.Adapters.{option_map_id}
use Rattle.index.specs.Bytes.{get16}
use Rattle.index.specs.Layouts.{number_at}
use Rattle.index.proofs.Eaches.{first_find}
use Rattle.index.proofs.inventory.Inventory.first_slot.Goals as goal

pub returns-clause-is : goal.returns-clause-is
returns-clause-is c =
    let b = c.args.store.now in
    let a = c.args.accession in
    let n = c.args.self.now.counts.held in
    sym (option_map_id c.find.result)
    ∙ find_from_yields_List (λ (s : ℕ). get16 (number_at s) b == a) _ _ c.find.result c.find.ensures.ran (YieldsList-from_range 0 n n refl (omega arith)) (λ x v q k. search rules)
    ∙ first_find b a n 0
