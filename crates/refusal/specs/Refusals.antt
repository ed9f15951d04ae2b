-- Why a call is refused: the cases, how many there are, and the number of each.
use Rattle.std.specs.Prelude.{◌≡◌, ℕ, ◌-◌, List, [], ◌∷◌, map, length, Some, None, Ok, Err, Option, Result, slice_index_or}
use Rattle.std.specs.List.{range_with_len}
use Rattle.refusal.specs.declared.Refusal.{Refusal}
use Rattle.refusal.specs.declared.Refusal.TheVariants.{WrongRowsLength, AlreadyHeld, Full, NotHeld, NoSuchChannel, PivotsFull, NoSuchPivot, WrongWeightsLength, NothingWanted, HitsTooShort, ScratchTooShort, BadStore, TooManyChannels, UnknownCommand, CutShort, UnknownAggregate}

abbrev pub number : Refusal → ℕ
number WrongRowsLength = 1
number AlreadyHeld = 2
number Full = 3
number NotHeld = 4
number NoSuchChannel = 5
number PivotsFull = 6
number NoSuchPivot = 7
number WrongWeightsLength = 8
number NothingWanted = 9
number HitsTooShort = 10
number ScratchTooShort = 11
number BadStore = 12
number TooManyChannels = 13
number UnknownCommand = 14
number CutShort = 15
number UnknownAggregate = 16

-- every case, by rising number
abbrev pub listed : List Refusal
listed =
    WrongRowsLength ∷ AlreadyHeld ∷ Full ∷ NotHeld ∷ NoSuchChannel ∷ PivotsFull ∷ NoSuchPivot ∷ WrongWeightsLength
    ∷ NothingWanted ∷ HitsTooShort ∷ ScratchTooShort ∷ BadStore ∷ TooManyChannels ∷ UnknownCommand ∷ CutShort ∷ UnknownAggregate ∷ []

-- there are sixteen cases, numbered 1 to 16, and no other
pub record Listed : Type 0 where
  pub many : length listed ≡ 16
  pub numbers : map number listed ≡ range_with_len 1 16
  pub complete : (e d : Refusal) → slice_index_or listed (number e - 1) d ≡ e

-- what a call answers: its refusal, or else v
abbrev pub answered : {V : Type 0} → Option Refusal → V → Result V Refusal
answered None v = Ok v
answered (Some e) v = Err e

-- the number that a call answers: 0, or its refusal's
abbrev pub code_of : Result (Unit {0}) Refusal → ℕ
code_of (Ok x) = 0
code_of (Err e) = number e
