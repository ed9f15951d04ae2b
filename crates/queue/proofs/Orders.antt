-- Laws of orders: what a record kind in another crate may cite for its own.
use Rattle.std.proofs.Common.{◌≡◌, ℕ, ◌≤◌, ◌⊎◌, sym, refl, ◌∙◌, subst, inl, inr, ⊎_elim, arith}
use Rattle.std.proofs.lemmas.Bool.{cases_order}
use Rattle.queue.specs.Orders.{ThenBy, Lex}

-- the laws that the heap's proofs use
pub record Order {X : Type 0} (R : X → X → Type 0) : Type 0 where
  pub same : (x : X) → R x x
  pub chain : (x y z : X) → R x y → R y z → R x z
  pub either : (x y : X) → R x y ⊎ R y x

-- a number, and then what R orders
module _ {B : Type 0} (R : B → B → Type 0) where
  pub then_reflexive : ((b : B) → R b b) → (a : ℕ) (b : B) → ThenBy R a b a b
  then_reflexive h a b = inr (refl, h b)

  pub then_transitive : ((b d f : B) → R b d → R d f → R b f) → (a c e : ℕ) (b d f : B) → ThenBy R a b c d → ThenBy R c d e f → ThenBy R a b e f
  then_transitive h a c e b d f p q = ⊎_elim
      (λ l. ⊎_elim (λ m. inl (omega arith)) (λ m. inl (omega (arith, m.0))) q)
      (λ l. ⊎_elim (λ m. inl (omega (arith, l.0))) (λ m. inr (l.0 ∙ m.0, h b d f l.1 m.1)) q) p

  pub then_total : ((b d : B) → R b d ⊎ R d b) → (a c : ℕ) (b d : B) → ThenBy R a b c d ⊎ ThenBy R c d a b
  then_total h a c b d = ⊎_elim
      (λ e. ⊎_elim (λ r. inl (inr (e, r))) (λ r. inr (inr (sym e, r))) (h b d))
      (⊎_elim (λ l. inl (inl l)) (λ l. inr (inl l))) (cases_order a c)

  pub then_antisymmetric : ((b d : B) → R b d → R d b → b ≡ d) → (a c : ℕ) (b d : B) → ThenBy R a b c d → ThenBy R c d a b → (a ≡ c) × (b ≡ d)
  then_antisymmetric h a c b d p q = ⊎_elim
      (λ l. ⊎_elim (λ m. absurd (omega arith)) (λ m. absurd (omega (arith, m.0))) q)
      (λ l. ⊎_elim (λ m. absurd (omega (arith, l.0))) (λ m. (l.0, h b d l.1 m.1)) q) p

  pub then_keyed : ((b : B) → R b b) → (a c : ℕ) (b d : B) → a ≡ c → b ≡ d → ThenBy R a b c d
  then_keyed h a c b d e f = inr (e, subst (R b) f (h b))

-- numbers
pub le_total : (b d : ℕ) → (b ≤ d) ⊎ (d ≤ b)
le_total b d = ⊎_elim (λ e. inl (omega arith)) (⊎_elim (λ l. inl (omega arith)) (λ l. inr (omega arith))) (cases_order b d)

-- two numbers
pub lex_reflexive : (a b : ℕ) → Lex a b a b
lex_reflexive = then_reflexive (λ x y. x ≤ y) (λ b. omega arith)

pub lex_transitive : (a c e b d f : ℕ) → Lex a b c d → Lex c d e f → Lex a b e f
lex_transitive = then_transitive (λ x y. x ≤ y) (λ b d f p q. omega arith)

pub lex_total : (a c b d : ℕ) → Lex a b c d ⊎ Lex c d a b
lex_total = then_total (λ x y. x ≤ y) le_total

pub lex_antisymmetric : (a c b d : ℕ) → Lex a b c d → Lex c d a b → (a ≡ c) × (b ≡ d)
lex_antisymmetric = then_antisymmetric (λ x y. x ≤ y) (λ b d p q. omega arith)

pub lex_keyed : (a c b d : ℕ) → a ≡ c → b ≡ d → Lex a b c d
lex_keyed = then_keyed (λ x y. x ≤ y) (λ b. omega arith)
