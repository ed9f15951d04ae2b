-- What is printed.
use Rattle.std.specs.Prelude.{ℕ, Bool, true, false, List, [], ◌∷◌, ◌++◌, take, Ok, Err, codes, decimal, Result}
use Rattle.refusal.specs.Refusals.{number}
use Rattle.refusal.specs.declared.Refusal.{Refusal}
use Rattle.console.specs.Lines.{line}
use Rattle.engine.specs.declared.records.Answer.{Answer}
use Rattle.engine.specs.declared.records.Neighbor.{Neighbor}

-- 1 for a search that has finished, 0 for one that its budget stopped
abbrev pub flag : Bool → ℕ
flag true = 1
flag false = 0

-- the first line of a granted search: whether it has finished, and how many patches it named, channels it measured and patches it admitted
abbrev pub summary : Answer → List ℕ
summary a =
    codes "C 0 " ++ (decimal (flag a.complete) ++ ((32 ∷ []) ++ (decimal a.named ++ ((32 ∷ []) ++ (decimal a.measured ++ ((32 ∷ []) ++ (decimal a.admitted ++ (10 ∷ []))))))))

-- a hit: its accession number and its distance
abbrev pub hit_line : Neighbor → List ℕ
hit_line h = codes "N " ++ (decimal h.accession ++ ((32 ∷ []) ++ (decimal h.distance ++ (10 ∷ []))))

abbrev pub hit_lines : List Neighbor → List ℕ
hit_lines [] = []
hit_lines (h ∷ hs) = hit_line h ++ hit_lines hs

-- a search: its refusal's number, or its summary and the hits that it named, in order
abbrev pub search_lines : Result Answer Refusal → List Neighbor → List ℕ
search_lines (Ok a) hits = summary a ++ hit_lines (take a.named hits)
search_lines (Err e) hits = line (codes "C") (number e)
