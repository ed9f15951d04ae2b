-- What each choice of an aggregate means.
use Rattle.std.specs.Prelude.{◌≡◌, ℕ, ◌<◌, List, Ok, Err, Result}
use Rattle.aggregate.specs.Aggregates.{LawfulAggregate, total, greatest, smallest}
use Rattle.aggregate.specs.Folds.{total_lawful, greatest_lawful, smallest_lawful}
use Rattle.refusal.specs.declared.Refusal.{Refusal}
use Rattle.refusal.specs.declared.Refusal.TheVariants.{UnknownAggregate}
use Rattle.aggregate.specs.declared.Choice.{Choice}
use Rattle.aggregate.specs.declared.Choice.TheVariants.{Sum, Max, Min}

abbrev pub chosen : Choice → List ℕ → ℕ
chosen Sum = total
chosen Max = greatest
chosen Min = smallest

-- each is lawful
pub chosen_lawful : (c : Choice) → LawfulAggregate (chosen c)
chosen_lawful Sum = total_lawful
chosen_lawful Max = greatest_lawful
chosen_lawful Min = smallest_lawful

-- the number by which a command names it
abbrev pub number : Choice → ℕ
number Sum = 0
number Max = 1
number Min = 2

-- what a number names: a choice, or none above 2
abbrev pub Chooses : ℕ → Result Choice Refusal → Type 0
Chooses n (Ok c) = number c ≡ n
Chooses n (Err e) = (2 < n) × (e ≡ UnknownAggregate)
