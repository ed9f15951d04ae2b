-- The run that is computed takes the steps of the relation, and ends.
use Rattle.std.proofs.Common.{◌≡◌, ℕ, zero, suc, ◌-◌, ◌<◌, ◌≤◌, Bool, true, false, cond, not, eqb, leb, List, [], ◌∷◌, length, refl, arith}
use mathlib.Core.Option.{some}
use Rattle.std.specs.List.{AllByRecursion as Every}
use Rattle.std.proofs.ByRecursion.{All-weaker}
use Rattle.refine.specs.Chains.{Table}
use Rattle.refine.specs.Steps.{Candidate, State, Next, done, halt, on, naming, measuring, key_now, least, step_at, step_among, step, onward, run, steps_left, Chosen, Move, full, dry, names, halts, measures, Runs, finishes, stops, goes}
use Rattle.refine.proofs.Reorders.{Reordered, same, skip, swap, chain, shuffled, perm_all, perm_sym}
use Rattle.refine.proofs.Lists.{adding, adding_is, perm_adding}
use Rattle.refine.proofs.Run.{Closed, outside, picked}

module _ {A K : Type 0} (x : Table A K) where
  least_perm : (c : Candidate A) (l : List (Candidate A)) → Reordered (c ∷ l) ((least x c l).0 ∷ (least x c l).1)
  least_perm c [] = same
  least_perm c (d ∷ l) = go (x.ord.le (key_now x c) (key_now x (least x d l).0)) (least_perm d l)
    where
      go : (t : Bool) → Reordered (d ∷ l) ((least x d l).0 ∷ (least x d l).1)
          → Reordered (c ∷ d ∷ l) ((cond {A = Candidate A × List (Candidate A)} t (c, d ∷ l) ((least x d l).0, c ∷ (least x d l).1)).0 ∷ (cond {A = Candidate A × List (Candidate A)} t (c, d ∷ l) ((least x d l).0, c ∷ (least x d l).1)).1)
      go true p = same
      go false p = chain (skip p) swap

  least_first : (c : Candidate A) (l : List (Candidate A)) → Every (λ d. x.ord.le (key_now x (least x c l).0) (key_now x d) ≡ true) (least x c l).1
  least_first c [] = tt
  least_first c (d ∷ l) = go (x.ord.le (key_now x c) (key_now x (least x d l).0)) refl (least_first d l)
    where
      go : (t : Bool) → x.ord.le (key_now x c) (key_now x (least x d l).0) ≡ t → Every (λ e. x.ord.le (key_now x (least x d l).0) (key_now x e) ≡ true) (least x d l).1
          → Every (λ e. x.ord.le (key_now x (cond {A = Candidate A × List (Candidate A)} t (c, d ∷ l) ((least x d l).0, c ∷ (least x d l).1)).0) (key_now x e) ≡ true)
          (cond {A = Candidate A × List (Candidate A)} t (c, d ∷ l) ((least x d l).0, c ∷ (least x d l).1)).1
      go true e h = perm_all _ (perm_sym (least_perm d l)) (e, All-weaker _ _ (λ f g. x.ord.transitive _ _ _ e g) (least x d l).1 h)
      go false e h = (x.ord.connected _ _ e, h)

  abbrev pub size : List (Candidate A) → ℕ
  size l = adding (λ c. suc (x.m - c.t)) l

  module _ (closed : Closed x) (k B : ℕ) where
    act_moves : (s : State A) (c : Candidate A) (l : List (Candidate A)) → Reordered s.live (c ∷ l) → Every (λ d. x.ord.le (key_now x c) (key_now x d) ≡ true) l → Move x k B s (step_at x k B s c l)
    act_moves s c l p h = go (leb k (length s.named)) refl (x.within (key_now x c)) refl (eqb c.t x.m) refl (leb B s.measured) refl
      where
        pick : Chosen x s c l
        pick = record { among = shuffled p; first = h }

        go : (b₁ : Bool) → leb k (length s.named) ≡ b₁ → (b₂ : Bool) → x.within (key_now x c) ≡ b₂ → (b₃ : Bool) → eqb c.t x.m ≡ b₃ → (b₄ : Bool) → leb B s.measured ≡ b₄
            → Move x k B s (cond b₁ done (cond (not b₂) done (cond b₃ (on (naming s c l))
            (cond b₄ halt (on (measuring s c l))))))
        go true e₁ b₂ e₂ b₃ e₃ b₄ e₄ = full (grind arith)
        go false e₁ false e₂ b₃ e₃ b₄ e₄ = dry (perm_all _ (perm_sym p) (e₂, All-weaker _ _ (λ d g. outside x closed _ _ g e₂) l h))
        go false e₁ true e₂ true e₃ b₄ e₄ = names c l pick (grind arith) e₂ (grind arith)
        go false e₁ true e₂ false e₃ true e₄ = halts c l pick (grind arith) e₂ (λ q. grind arith) (grind arith)
        go false e₁ true e₂ false e₃ false e₄ = measures c l pick (grind arith) e₂ (λ q. grind arith) (grind arith)

    choose_moves : (s : State A) (l : List (Candidate A)) → s.live ≡ l → Move x k B s (step_among x k B s l)
    choose_moves s [] e = dry (rw e tt)
    choose_moves s (c ∷ l) e = act_moves s (least x c l).0 (least x c l).1 (rw e (least_perm c l)) (least_first c l)

    lt_of : {a b : ℕ} → a ≤ b → (a ≡ b → ⊥) → a < b
    lt_of h g = omega arith

    falls : {s s' : State A} → Move x k B s (on s') → Every (λ c. c.t ≤ x.m) s.live → Every (λ c. c.t ≤ x.m) s'.live × (size s'.live < size s.live)
    falls (names c l y f w t) g = ((perm_all _ (picked x y) g).1, omega (arith, perm_adding (λ c. suc (x.m - c.t)) (picked x y)))
    falls (measures c l y f w t h) g =
        let g' = perm_all _ (picked x y) g in
        let i : c.t < x.m = lt_of g'.0 t in
        ((i, g'.1), omega (arith, perm_adding (λ c. suc (x.m - c.t)) (picked x y)))

    pub step_moves : (s : State A) → Move x k B s (step x k B s)
    step_moves s = choose_moves s s.live refl

    pub shrinks : {s s' : State A} → Move x k B s (on s') → Every (λ c. c.t ≤ x.m) s.live → Every (λ c. c.t ≤ x.m) s'.live × (steps_left x s' < steps_left x s)
    shrinks {s} {s'} v g =
        let f = falls v g in
        let a = adding_is (λ c. suc (x.m - c.t)) s.live in
        let b = adding_is (λ c. suc (x.m - c.t)) s'.live in
        (f.0, omega (arith, f.1))

    -- the run ends
    pub run_ends : (n : ℕ) (s : State A) → Every (λ c. c.t ≤ x.m) s.live → size s.live < n
        → (b : Bool) × (e : State A) × (run x k B n s ≡ some (b, e)) × Runs x k B s b e
    run_ends zero s g h = absurd (omega arith)
    run_ends (suc n) s g h = go (step x k B s) (step_moves s) (λ s' g' h'. run_ends n s' g' h')
      where
        go : (w : Next A) → Move x k B s w → ((s' : State A) → Every (λ c. c.t ≤ x.m) s'.live → size s'.live < n → (b : Bool) × (e : State A) × (run x k B n s' ≡ some (b, e)) × Runs x k B s' b e)
            → (b : Bool) × (e : State A) × (onward x s (λ s'. run x k B n s') w ≡ some (b, e)) × Runs x k B s b e
        go done v ih = (true, s, refl, finishes v)
        go halt v ih = (false, s, refl, stops v)
        go (on s') v ih = let f = falls v g in
            let r = ih s' f.0 (omega arith) in
            (r.0, r.1, r.2, goes v r.3)
