-- Two sets of channels side by side.
use Rattle.std.specs.Prelude.{◌≡◌, ℕ, ◌+◌, ◌-◌, ◌<◌, List, ◌++◌, length, refl}
use Rattle.std.proofs.Common.{sym, ap, ◌∙◌, subst, inl, inr, ⊎_elim, arith, length-append}
use Rattle.std.proofs.lemmas.List.{get_or_append_left, get_or-append_right}
use Rattle.std.proofs.lemmas.Bool.{cases_lt}
use Rattle.metric.specs.Model.{Model, Lawful}
use Rattle.metric.specs.Channels.{AllLawful, AddsAt, Asked, at, count, beside, no_model}

pub lawful_append : (xs ys : List Model) → AllLawful xs → AllLawful ys → AllLawful (xs ++ ys)
lawful_append xs ys p q c h = ⊎_elim
    (λ k. subst Lawful (sym (get_or_append_left xs ys no_model c k)) (p c k))
    (λ k. subst Lawful (sym (get_or-append_right xs ys (length xs) c no_model refl k)) (q (c - length xs) (omega (arith, length-append xs ys))))
    (cases_lt c (length xs))

module _ (xs ys : List Model) (c : ℕ) where
  -- a channel of the first set
  pub at_first : c < count xs → at (xs ++ ys) c ≡ at xs c
  at_first h = get_or_append_left xs ys no_model c (omega arith)

  module _ (j : ℕ) (l : c ≡ count xs + j) (h : c < count (xs ++ ys)) where
    -- the first set is counted in full where a channel lies past it
    pub counted : count xs ≡ length xs
    counted = omega arith

    -- a channel of the second set
    pub at_second : at (xs ++ ys) c ≡ at ys j
    at_second = get_or-append_right xs ys (length xs) c no_model refl (omega (arith, counted)) ∙ ap (at ys) (let e : c - length xs ≡ j = omega (arith, counted) in e)

    pub in_second : j < count ys
    in_second = omega (arith, length-append xs ys)

module _ (c : ℕ) (a b : List ℕ) where
  -- a question to the first set
  pub adds_first : (n n' : ℕ) (first first' second : Asked) → n' ≡ n → AddsAt first first' c a b → AddsAt (beside n first second) (beside n' first' second) c a b
  adds_first n n' first first' second e h k x y (inl p) = ⊎_elim (λ r. inl (inl (omega (arith, p.0), r))) (λ r. inr r) (h k x y p.1)
  adds_first n n' first first' second e h k x y (inr p) = inl (inr (p.0, omega (arith, p.1), p.2))

  -- a question to the second set
  pub adds_second : (n j : ℕ) (first second second' : Asked) → c ≡ n + j → AddsAt second second' j a b → AddsAt (beside n first second) (beside n first second') c a b
  adds_second n j first second second' e h k x y (inl p) = inl (inl p)
  adds_second n j first second second' e h k x y (inr p) =
      ⊎_elim (λ r. inl (inr (p.0, p.1, r))) (λ r. inr (omega (arith, p.1, r.0), r.1, r.2)) (h p.0 x y p.2)
