-- Lists with the same elements that begin alike go on with the same elements.
use Rattle.std.proofs.Common.{◌≡◌, ◌⊎◌, List, ◌∷◌, refl, subst, inl, inr}
use Rattle.std.specs.List.Sorted.{IsPermutation}
use Rattle.refine.proofs.Reorders.{Reordered, same, skip, swap, chain, reordered, shuffled}

-- the second list is the first with a put in somewhere
data Ins {A : Type 0} (a : A) : List A → List A → Type 0 where
  here : {r : List A} → Ins a r (a ∷ r)
  there : {b : A} {r l : List A} → Ins a r l → Ins a (b ∷ r) (b ∷ l)

ins_moves : {A : Type 0} (a : A) {l l' : List A} → Reordered l l' → {r : List A} → Ins a r l → (r' : List A) × Ins a r' l' × Reordered r r'
ins_moves a same {r} i = (r, i, same)
ins_moves a (skip p) here = (_, here, p)
ins_moves a (skip p) (there i) = let q = ins_moves a p i in (_ ∷ q.0, there q.1, skip q.2)
ins_moves a swap here = (_, there here, same)
ins_moves a swap (there here) = (_, here, same)
ins_moves a swap (there (there i)) = (_, there (there i), swap)
ins_moves a (chain p q) i =
    let u = ins_moves a p i in
    let v = ins_moves a q u.1 in
    (v.0, v.1, chain u.2 v.2)

ins_front : {A : Type 0} {a : A} {r l : List A} → Ins a r l → Reordered (a ∷ r) l
ins_front here = same
ins_front (there i) = chain swap (skip (ins_front i))

split : {A : Type 0} (a : A) (r : List A) (b : A) (l : List A) → Ins a r (b ∷ l) → (r ≡ l) ⊎ ((q : List A) × (r ≡ b ∷ q) × Ins a q l)
split a r b l here = inl refl
split a r b l (there {r = q} i) = inr (q, refl, i)

cancel : {A : Type 0} (a : A) (l l' : List A) → Reordered (a ∷ l) (a ∷ l') → Reordered l l'
cancel a l l' p = pick (ins_moves a p here)
  where
    pick : (r : List _) × Ins a r (a ∷ l') × Reordered l r → Reordered l l'
    pick u = case (split a u.0 a l' u.1)
      where
        case : (u.0 ≡ l') ⊎ ((q : List _) × (u.0 ≡ a ∷ q) × Ins a q l') → Reordered l l'
        case (inl e) = subst (λ r. Reordered l r) e u.2
        case (inr e) = chain (subst (λ r. Reordered l r) e.1 u.2) (ins_front e.2)

pub shuffled_cancel : {A : Type 0} (a : A) (l l' : List A) → IsPermutation (a ∷ l) (a ∷ l') → IsPermutation l l'
shuffled_cancel a l l' p = shuffled (cancel a l l' (reordered p))

pub shuffled_two : {A : Type 0} (a b : A) (l : List A) → IsPermutation (a ∷ b ∷ l) (b ∷ a ∷ l)
shuffled_two a b l = shuffled swap
