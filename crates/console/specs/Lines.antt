-- What is printed.
use Rattle.std.specs.Prelude.{ℕ, List, [], ◌∷◌, ◌++◌, decimal}

-- a letter, a space, a number, the end of the line
abbrev pub line : List ℕ → ℕ → List ℕ
line letter n = letter ++ ((32 ∷ []) ++ (decimal n ++ (10 ∷ [])))
