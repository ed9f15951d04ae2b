-- What a call that is past the check of its store works by.
use Rattle.std.specs.Prelude.{◌≡◌, ℕ, List, Ok, Err, Result}
use Rattle.metric.specs.Model.{Model}
use Rattle.refusal.specs.declared.Refusal.{Refusal}
use Rattle.index.specs.declared.counts.Counts.{Counts}
use Rattle.index.specs.declared.inventory.Inventory.{Inventory}
use Rattle.index.specs.Works.{Opened}

-- the counts k, with the layout of a store that is long enough for it
abbrev pub Taken : List Model → Counts → List ℕ → Result Inventory Refusal → Type 0
Taken ms k b (Ok i) = (i.counts ≡ k) × Opened ms i.counts b (Ok i.layout)
Taken ms k b (Err e) = Opened ms k b (Err e)
