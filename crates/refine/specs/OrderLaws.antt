-- The two orders in use, with the proofs that they are total orders: nothing here has to be believed.
use Rattle.std.specs.Prelude.{◌≡◌, ℕ, ◌<◌, Bool, true, false, cond, ◌⊎◌, ◌==◌, nat_lt, nat_le, refl}
use Rattle.std.proofs.Common.{sym, inl, inr, arith, ltb-true, ltb-false, leb-true, leb-false, eqb-true, lt-ltb, le-leb, eq-eqb, ne_eqb}
use Rattle.std.proofs.lemmas.Bool.{eqb-false}
use Rattle.refine.specs.Orders.{Order, number_first}

-- the numbers, the lesser first
abbrev pub numbers : Order ℕ
numbers = record {
  le = nat_le;
  connected = λ a b h. le-leb b a (let g = leb-false a b h in omega arith);
  transitive = λ a b c h g. le-leb a c (let h' = leb-true a b h in let g' = leb-true b c g in omega arith);
  antisymmetric = λ a b h g. (let h' = leb-true a b h in let g' = leb-true b a g in omega arith);
}

module _ {I : Type 0} (o : Order I) where
  abbrev pub first : ℕ × I → ℕ × I → Bool
  first p q = number_first o.le p q

  pub first_lt : (p q : ℕ × I) → p.0 < q.0 → number_first o.le p q ≡ true
  first_lt p q h = rw (ne_eqb p.0 q.0 (omega arith)) (lt-ltb p.0 q.0 h)

  pub first_eq : (p q : ℕ × I) → p.0 ≡ q.0 → o.le p.1 q.1 ≡ true → number_first o.le p q ≡ true
  first_eq p q e h = rw (eq-eqb p.0 q.0 e) h

  pub first_cases : (p q : ℕ × I) → number_first o.le p q ≡ true → (p.0 < q.0) ⊎ ((p.0 ≡ q.0) × (o.le p.1 q.1 ≡ true))
  first_cases p q h = go (p.0 == q.0) refl h
    where
      go : (t : Bool) → (p.0 == q.0) ≡ t → cond t (o.le p.1 q.1) (nat_lt p.0 q.0) ≡ true → (p.0 < q.0) ⊎ ((p.0 ≡ q.0) × (o.le p.1 q.1 ≡ true))
      go true e h = inr (eqb-true p.0 q.0 e, h)
      go false e h = inl (ltb-true p.0 q.0 h)

  pub first_connected : (p q : ℕ × I) → first p q ≡ false → first q p ≡ true
  first_connected p q h = go (p.0 == q.0) refl h
    where
      go : (t : Bool) → (p.0 == q.0) ≡ t → cond t (o.le p.1 q.1) (nat_lt p.0 q.0) ≡ false → first q p ≡ true
      go true e h = first_eq q p (sym (eqb-true p.0 q.0 e)) (o.connected p.1 q.1 h)
      go false e h = first_lt q p (let f = eqb-false p.0 q.0 e in let g = ltb-false p.0 q.0 h in omega arith)

  pub first_transitive : (p q r : ℕ × I) → first p q ≡ true → first q r ≡ true → first p r ≡ true
  first_transitive p q r h g = go (first_cases p q h) (first_cases q r g)
    where
      go : (p.0 < q.0) ⊎ ((p.0 ≡ q.0) × (o.le p.1 q.1 ≡ true)) → (q.0 < r.0) ⊎ ((q.0 ≡ r.0) × (o.le q.1 r.1 ≡ true)) → first p r ≡ true
      go (inl a) (inl b) = first_lt p r (omega arith)
      go (inl a) (inr b) = first_lt p r (omega arith)
      go (inr a) (inl b) = first_lt p r (omega arith)
      go (inr a) (inr b) = first_eq p r (omega arith) (o.transitive _ _ _ a.1 b.1)

  pub first_antisymmetric : (p q : ℕ × I) → first p q ≡ true → first q p ≡ true → p ≡ q
  first_antisymmetric p q h g = go (first_cases p q h) (first_cases q p g)
    where
      go : (p.0 < q.0) ⊎ ((p.0 ≡ q.0) × (o.le p.1 q.1 ≡ true)) → (q.0 < p.0) ⊎ ((q.0 ≡ p.0) × (o.le q.1 p.1 ≡ true)) → p ≡ q
      go (inl a) (inl b) = absurd (omega arith)
      go (inl a) (inr b) = absurd (omega arith)
      go (inr a) (inl b) = absurd (omega arith)
      go (inr a) (inr b) = let e = a.0 in let f = o.antisymmetric _ _ a.1 b.1 in λ i. (e i, f i)

  -- numbers with identifiers, by number_first
  abbrev pub keys : Order (ℕ × I)
  keys = record { le = λ p q. number_first o.le p q; connected = first_connected; transitive = first_transitive; antisymmetric = first_antisymmetric }
