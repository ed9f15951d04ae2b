-- Hits printed one after another.
use Rattle.std.proofs.Common.{◌≡◌, ℕ, ◌+◌, ◌<◌, List, [], ◌∷◌, ◌++◌, length, get_or, take, sym, refl, ap, ◌∙◌, append_assoc, append-nil}
use Rattle.std.proofs.lemmas.List.{take_more}
use Rattle.engine.specs.declared.records.Neighbor.{Neighbor}
use Rattle.search_console.specs.Lines.{hit_line, hit_lines}

lines_joined : (xs ys : List Neighbor) → hit_lines (xs ++ ys) ≡ hit_lines xs ++ hit_lines ys
lines_joined [] ys = refl
lines_joined (x ∷ xs) ys = ap (λ (l : List ℕ). hit_line x ++ l) (lines_joined xs ys) ∙ sym (append_assoc (hit_line x) (hit_lines xs) (hit_lines ys))

-- one more hit
pub hits_more : (xs : List Neighbor) (i : ℕ) (d : Neighbor) → i < length xs → hit_lines (take (i + 1) xs) ≡ hit_lines (take i xs) ++ hit_line (get_or xs i d)
hits_more xs i d h =
    ap hit_lines (take_more xs i d h) ∙ lines_joined (take i xs) (get_or xs i d ∷ []) ∙ ap (λ (l : List ℕ). hit_lines (take i xs) ++ l) (append-nil (hit_line (get_or xs i d)))

-- what is printed behind what was printed before
pub behind : (out mid end a b : List ℕ) → mid ≡ out ++ a → end ≡ mid ++ b → end ≡ out ++ (a ++ b)
behind out mid end a b e f = f ∙ ap (λ (l : List ℕ). l ++ b) e ∙ append_assoc out a b
