-- The full scan: a strictly rising list, the same for each order of the patches.
use Rattle.std.proofs.Common.{◌≡◌, Bool, true, false, cond, List, [], ◌∷◌, filter, sym, refl, ap, ◌∙◌, arith}
use Rattle.std.specs.List.{AllByRecursion as Every}
use Rattle.refine.specs.Orders.{Order, insert_by}
use Rattle.refine.specs.Chains.{Table, EachTwo}
use Rattle.refine.specs.Scan.{final, ranking}
use Rattle.refine.proofs.Reorders.{Reordered, same, skip, swap, chain, perm_all, perm_two}
use Rattle.std.proofs.ByRecursion.{all_kept_by, All-weaker}

module _ {K : Type 0} (o : Order K) where
  pub le_refl : (a : K) → o.le a a ≡ true
  le_refl a = grind (arith, o.connected)

  pub le_lt : (a b c : K) → o.le a b ≡ true → o.le c b ≡ false → o.le c a ≡ false
  le_lt a b c h g = grind (arith, o.transitive c a b)

  pub lt_le : (a b c : K) → o.le b a ≡ false → o.le b c ≡ true → o.le c a ≡ false
  lt_le a b c h g = grind (arith, o.transitive b c a)

module _ {A K : Type 0} (x : Table A K) where
  abbrev pub insert : A → List A → List A
  insert a l = insert_by (λ b c. x.ord.le (final x b) (final x c)) a l

  -- the final keys differ
  abbrev pub Other : A → A → Type 0
  Other a b = final x a ≡ final x b → ⊥

  pub insert_comm : (a b : A) (l : List A) → Other a b → insert a (insert b l) ≡ insert b (insert a l)
  insert_comm a b [] h = grind (arith, x.ord.connected (final x a) (final x b), x.ord.antisymmetric (final x a) (final x b))
  insert_comm a b (c ∷ l) h =
      let ih = insert_comm a b l h in
      grind (arith, x.ord.connected (final x a) (final x b), x.ord.antisymmetric (final x a) (final x b), x.ord.transitive)

  other_sym : (a b : A) → Other a b → Other b a
  other_sym a b h e = h (sym e)

  pub insert_perm : (a : A) (l : List A) → Reordered (a ∷ l) (insert a l)
  insert_perm a [] = same
  insert_perm a (b ∷ l) = go (x.ord.le (final x a) (final x b)) (insert_perm a l)
    where
      go : (t : Bool) → Reordered (a ∷ l) (insert a l) → Reordered (a ∷ b ∷ l) (cond t (a ∷ b ∷ l) (b ∷ insert a l))
      go true h = same
      go false h = chain swap (skip h)

  pub rank_perm : (l : List A) → Reordered l (ranking x l)
  rank_perm [] = same
  rank_perm (a ∷ l) = chain (skip (rank_perm l)) (insert_perm a (ranking x l))

  -- strictly rising final keys
  abbrev pub Ascending : List A → Type 0
  Ascending [] = Unit {0}
  Ascending (a ∷ l) = Every (λ b. x.ord.le (final x b) (final x a) ≡ false) l × Ascending l

  pub insert_ascending : (a : A) (l : List A) → Every (Other a) l → Ascending l → Ascending (insert a l)
  insert_ascending a [] h s = (tt, tt)
  insert_ascending a (b ∷ l) h s = go (x.ord.le (final x a) (final x b)) refl (insert_ascending a l h.1 s.1)
    where
      go : (t : Bool) → x.ord.le (final x a) (final x b) ≡ t → Ascending (insert a l) → Ascending (cond t (a ∷ b ∷ l) (b ∷ insert a l))
      go true e ih =
          let f : x.ord.le (final x b) (final x a) ≡ false = lt_of e in
          ((f, All-weaker _ _ (λ c g. lt_le x.ord (final x a) (final x b) (final x c) f (x.ord.connected _ _ g)) l s.0), s)
        where
          lt_of : x.ord.le (final x a) (final x b) ≡ true → x.ord.le (final x b) (final x a) ≡ false
          lt_of e = let k = h.0 in grind (arith, x.ord.antisymmetric (final x a) (final x b))
      go false e ih = (perm_all (λ c. x.ord.le (final x c) (final x b) ≡ false) (insert_perm a l) (e, s.0), ih)

  pub rank_ascending : (l : List A) → EachTwo Other l → Ascending (ranking x l)
  rank_ascending [] h = tt
  rank_ascending (a ∷ l) h = insert_ascending a (ranking x l) (perm_all (Other a) (rank_perm l) h.0) (rank_ascending l h.1)

  pub rank_same : {l l' : List A} → Reordered l l' → EachTwo Other l → ranking x l ≡ ranking x l'
  rank_same same h = refl
  rank_same (skip {a = a} p) h = ap (insert a) (rank_same p h.1)
  rank_same (swap {a = a} {b = b} {l = l}) h = insert_comm a b (ranking x l) h.0.0
  rank_same (chain p q) h = rank_same p h ∙ rank_same q (perm_two Other other_sym p h)

  pub insert_least : (a : A) (l : List A) → Every (λ b. x.ord.le (final x a) (final x b) ≡ true) l → insert a l ≡ a ∷ l
  insert_least a [] h = refl
  insert_least a (b ∷ l) h = let e = h.0 in cc

  pub ascending_kept : (p : A → Bool) (l : List A) → Ascending l → Ascending (filter p l)
  ascending_kept p [] s = tt
  ascending_kept p (a ∷ l) s = go (p a) (ascending_kept p l s.1)
    where
      go : (t : Bool) → Ascending (filter p l) → Ascending (cond t (a ∷ filter p l) (filter p l))
      go true ih = (all_kept_by p _ l s.0, ih)
      go false ih = ih

  pub insert_kept : (p : A → Bool) (a : A) (l : List A) → Ascending l → filter p (insert a l) ≡ cond (p a) (insert a (filter p l)) (filter p l)
  insert_kept p a [] s = grind arith
  insert_kept p a (b ∷ l) s = go (x.ord.le (final x a) (final x b)) refl (insert_kept p a l s.1)
    where
      go : (t : Bool) → x.ord.le (final x a) (final x b) ≡ t → filter p (insert a l) ≡ cond (p a) (insert a (filter p l)) (filter p l) → filter p (cond t (a ∷ b ∷ l) (b ∷ insert a l)) ≡ cond (p a) (insert a (filter p (b ∷ l))) (filter p (b ∷ l))
      go true e ih =
          let f = insert_least a (filter p (b ∷ l)) (all_kept_by p _ (b ∷ l) (e, All-weaker _ _ (λ c g. x.ord.transitive _ _ _ e (x.ord.connected _ _ g)) l s.0)) in
          grind arith
      go false e ih = grind arith

  pub rank_kept : (p : A → Bool) (l : List A) → EachTwo Other l → ranking x (filter p l) ≡ filter p (ranking x l)
  rank_kept p [] h = refl
  rank_kept p (a ∷ l) h =
      let ih = rank_kept p l h.1 in
      let e = insert_kept p a (ranking x l) (rank_ascending l h.1) in
      grind arith
