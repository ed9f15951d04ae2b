-- Lists read by place, and lists mapped.
use Rattle.std.proofs.Common.{◌≡◌, ℕ, suc, ◌<◌, List, [], ◌∷◌, map, length, get_or, sym, refl, ap, ◌∙◌, ap₂, arith}
use Rattle.std.specs.List.{range_with_len, ContainsAt as Has, AllByRecursion as Every}
use Rattle.std.proofs.lemmas.List.FromFn.{fill_by_all}
use Rattle.std.proofs.ByRecursion.{All-from_get_or}
use Rattle.std.proofs.lemmas.List.{length-map, get_or-map}
use Rattle.refine.specs.Chains.{EachTwo}

-- what is computed place by place is what is computed element by element
pub by_place : {X : Type 0} (f : ℕ → ℕ) (g : X → ℕ) (xs : List X) (n : ℕ) (d : X) → n ≡ length xs → ((i : ℕ) → i < length xs → f i ≡ g (get_or xs i d))
    → map f (range_with_len 0 n) ≡ map g xs
by_place f g xs n d e h =
    sym (fill_by_all f (map g xs) n 0 (length-map xs g ∙ sym e)
    (λ i l. get_or-map g xs i d 0 (omega arith) ∙ sym (h i (omega arith))))

-- the elements at all places are the list
pub all_places : {X : Type 0} (xs : List X) (n : ℕ) (d : X) → n ≡ length xs → map (λ i. get_or xs i d) (range_with_len 0 n) ≡ xs
all_places xs n d e = sym (fill_by_all (λ i. get_or xs i d) xs n d (sym e) (λ i l. refl))

-- what holds of the elements at each two places holds of each two elements
pub two_from_getD : {X : Type 0} (R : X → X → Type 0) (xs : List X) (d : X) → ((i j : ℕ) → i < j → j < length xs → R (get_or xs i d) (get_or xs j d)) → EachTwo R xs
two_from_getD R [] d h = tt
two_from_getD R (x ∷ xs) d h = (
  All-from_get_or (R x) xs d (λ i l. h 0 (suc i) (omega arith) (omega arith)),
  two_from_getD R xs d (λ i j l g. h (suc i) (suc j) (omega arith) (omega arith)),
)

-- what stands in a list has its image in the list mapped
pub has_map : {X Y : Type 0} (f : X → Y) (xs : List X) (x : X) → Has xs x → Has (map f xs) (f x)
has_map f xs x h = (h.0, omega (arith, h.1, length-map xs f), λ d. get_or-map f xs h.0 x d h.1 ∙ ap f (h.2 x))

-- two ways to map in two steps that agree on each element
pub map_twice : {X Y Y' Z : Type 0} (f : X → Y) (g : Y → Z) (f' : X → Y') (g' : Y' → Z) (xs : List X) → Every (λ x. g (f x) ≡ g' (f' x)) xs → map g (map f xs) ≡ map g' (map f' xs)
map_twice f g f' g' [] h = refl
map_twice f g f' g' (x ∷ xs) h = ap₂ (λ y ys. y ∷ ys) h.0 (map_twice f g f' g' xs h.1)
