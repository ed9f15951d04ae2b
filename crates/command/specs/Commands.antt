-- Commands: how each is written as bytes, and what a reader makes of an input.
use Rattle.std.specs.Prelude.{◌≡◌, ℕ, ◌+◌, ◌<◌, cond, List, [], ◌∷◌, ◌++◌, length, Some, None, Ok, Err, Option, Result, ◌==◌, nat_lt}
use Rattle.std.specs.Borrow.{Bor}
use Rattle.big_endian.specs.Numbers.{be16, be32}
use Rattle.refusal.specs.declared.Refusal.{Refusal}
use Rattle.refusal.specs.declared.Refusal.TheVariants.{UnknownCommand, CutShort}
use Rattle.command.specs.declared.format.Format.{Format}
use Rattle.command.specs.declared.Command.{Command}
use Rattle.command.specs.declared.Command.TheVariants.{Insert, Remove, AddPivot, RemovePivot, Nearest}

-- a command as numbers and bytes
pub data Instruction : Type 0 where
  insert : (accession : ℕ) (rows : List ℕ) → Instruction
  remove : (accession : ℕ) → Instruction
  add_pivot : (channel accession : ℕ) → Instruction
  remove_pivot : (channel pivot : ℕ) → Instruction
  nearest : (aggregate : ℕ) (weights : List ℕ) (k radius budget : ℕ) (rows : List ℕ) → Instruction

-- how it is written: a letter, then its operands, numbers big-endian
abbrev pub encode : Instruction → List ℕ
encode (insert a rows) = 0x4c ∷ (be16 a ++ rows)
encode (remove a) = 0x55 ∷ be16 a
encode (add_pivot c a) = 0x50 ∷ (c ∷ be16 a)
encode (remove_pivot c p) = 0x52 ∷ (c ∷ (p ∷ []))
encode (nearest g ws k r b rows) = 0x43 ∷ (g ∷ (ws ++ (be16 k ++ (be32 r ++ (be32 b ++ rows)))))

-- how many bytes of operands follow a letter; none where it is no command's
abbrev pub operands : Format → ℕ → Option ℕ
operands f byte =
    cond (byte == 0x4c) (Some (2 + f.rows))
    (cond (byte == 0x55) (Some 2)
    (cond (byte == 0x50) (Some 3)
    (cond (byte == 0x52) (Some 2)
    (cond (byte == 0x43) (Some (11 + f.weights + f.rows)) None))))

-- its numbers and parts are as long as the format has them
abbrev pub Fits : Format → Instruction → Type 0
Fits f (insert a rows) = (a < 65536) × (length rows ≡ f.rows)
Fits f (remove a) = a < 65536
Fits f (add_pivot c a) = (c < 256) × (a < 65536)
Fits f (remove_pivot c p) = (c < 256) × (p < 256)
Fits f (nearest g ws k r b rows) = (g < 256) × (length ws ≡ f.weights) × (k < 65536) × (r < 4294967296) × (b < 4294967296) × (length rows ≡ f.rows)

-- what a command that was read says
abbrev pub meant : Command → Instruction
meant (Insert a rows) = insert a rows.now
meant (Remove a) = remove a
meant (AddPivot c a) = add_pivot c a
meant (RemovePivot c p) = remove_pivot c p
meant (Nearest g ws k r b rows) = nearest g ws.now k r b rows.now

-- why the next command cannot be read; none where it can, or where nothing is left
abbrev pub cut : List ℕ → Option ℕ → Option Refusal
cut bytes None = Some UnknownCommand
cut bytes (Some n) = cond (nat_lt (length bytes) n) (Some CutShort) None

abbrev pub read_refusal : Format → List ℕ → Option Refusal
read_refusal f [] = None
read_refusal f (byte ∷ bytes) = cut bytes (operands f byte)

-- the first n bytes and what follows them; none where they are fewer
abbrev pub Part : (n : ℕ) (bytes : List ℕ) → Option (Bor (List ℕ) × Bor (List ℕ)) → Type 0
Part n bytes None = length bytes < n
Part n bytes (Some p) = (bytes ≡ p.0.now ++ p.1.now) × (length p.0.now ≡ n) × (length bytes ≡ n + length p.1.now)

-- the operands behind a letter: a command and what follows it, or too few bytes
abbrev pub Operands : Format → (byte size : ℕ) (bytes : List ℕ) → Option (Command × Bor (List ℕ)) → Type 0
Operands f byte size bytes None = length bytes < size
Operands f byte size bytes (Some p) = (byte ∷ bytes ≡ encode (meant p.0) ++ p.1.now) × Fits f (meant p.0) × (length bytes ≡ size + length p.1.now)

-- what stands behind any byte: a command and what follows it, or why there is none
abbrev pub Behind : Format → (byte : ℕ) (bytes : List ℕ) → Result (Command × Bor (List ℕ)) Refusal → Type 0
Behind f byte bytes (Ok p) = (byte ∷ bytes ≡ encode (meant p.0) ++ p.1.now) × Fits f (meant p.0) × (cut bytes (operands f byte) ≡ None)
Behind f byte bytes (Err e) = cut bytes (operands f byte) ≡ Some e

-- the command in front of an input and what follows it, or none where the input is empty, or why it cannot be read
abbrev pub InFront : Format → (input : List ℕ) → Result (Option (Command × Bor (List ℕ))) Refusal → Type 0
InFront f input (Ok None) = input ≡ []
InFront f input (Ok (Some p)) = (input ≡ encode (meant p.0) ++ p.1.now) × Fits f (meant p.0)
InFront f input (Err e) = read_refusal f input ≡ Some e

-- the next command of an input, where before and after are what is left of it: it stands in front, and is as long as it is written
abbrev pub Next : Format → (before after : List ℕ) → Result (Option Command) Refusal → Type 0
Next f before after (Ok None) = (before ≡ []) × (after ≡ [])
Next f before after (Ok (Some c)) = (before ≡ encode (meant c) ++ after) × Fits f (meant c)
Next f before after (Err e) = (read_refusal f before ≡ Some e) × (after ≡ before)

abbrev pub Gives : Result (Option Command) Refusal → Instruction → Type 0
Gives (Ok None) i = ⊥
Gives (Ok (Some c)) i = meant c ≡ i
Gives (Err e) i = ⊥

-- every command is read as it is written, whatever follows it
abbrev pub Exact : Format → (before after : List ℕ) → Result (Option Command) Refusal → Type 0
Exact f before after r = (i : Instruction) (rest : List ℕ) → Fits f i → before ≡ encode i ++ rest → Gives r i × (after ≡ rest)
