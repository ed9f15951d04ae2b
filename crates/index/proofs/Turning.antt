-- A store in which the fields turn, one turn after the other, from what they held to what they hold then.
use Rattle.std.proofs.Common.{◌≡◌, ℕ, ◌+◌, ◌<◌, ◌≤◌, ◌⊎◌, List, length, drop, replicate, sym, refl, ap, ◌∙◌, subst, inl, inr, add-zero, arith}
use Rattle.std.proofs.lemmas.Bool.{cases_eq, cases_lt}
use Rattle.metric.specs.Model.{Model}
use Rattle.index.specs.Bytes.{put, part}
use Rattle.index.specs.Layouts.{layout_of}
use Rattle.index.specs.Steps.{moved}
use Rattle.index.proofs.Puts.{Apart, length_put, drop_put, part_put_other, part_put_same, length_moved, drop_moved, moved_zero, moved_taken, moved_other}
use Rattle.index.proofs.Fields.{Field, Differs, cases_field, start, long, Valid, view, field_ends, apart}

-- what a call does to a store: at which turn each field goes from `old` to `new`
pub record Job : Type 0 where
  pub models : List Model
  pub capacity : ℕ
  pub store : List ℕ
  pub turn : Field → ℕ
  pub old : Field → List ℕ
  pub new : Field → List ℕ

-- before turn n the fields of earlier turns show `new`, the others `old`
pub record Turned (job : Job) (n : ℕ) (y : List ℕ) : Type 0 where
  pub same_length : length y ≡ length job.store
  pub beyond : drop (layout_of job.models job.capacity).size y ≡ drop (layout_of job.models job.capacity).size job.store
  pub shows : (F : Field) → Valid job.models job.capacity F
      → ((job.turn F < n) × (view job.models job.capacity y F ≡ job.new F)) ⊎ ((n ≤ job.turn F) × (view job.models job.capacity y F ≡ job.old F))

-- all turns are over: y is b, with every field as in `new`
pub record Became (ms : List Model) (cap : ℕ) (new : Field → List ℕ) (b y : List ℕ) : Type 0 where
  pub same_length : length y ≡ length b
  pub beyond : drop (layout_of ms cap).size y ≡ drop (layout_of ms cap).size b
  pub shows : (F : Field) → Valid ms cap F → view ms cap y F ≡ new F

module _ (job : Job) where
  abbrev ms : List Model
  ms = job.models

  abbrev cap : ℕ
  cap = job.capacity

  abbrev b : List ℕ
  b = job.store

  abbrev turn : Field → ℕ
  turn = job.turn

  abbrev old : Field → List ℕ
  old = job.old

  abbrev new : Field → List ℕ
  new = job.new

  pub turned_none : ((F : Field) → Valid ms cap F → view ms cap b F ≡ old F) → Turned job 0 b
  turned_none h = record { same_length = refl; beyond = refl; shows = λ F v. inr (omega arith, h F v) }

  pub turned_at : (n m : ℕ) (y : List ℕ) → n ≡ m → Turned job n y → Turned job m y
  turned_at n m y e t = subst (λ (x : ℕ). Turned job x y) e t

  pub reads_old : (n : ℕ) (y : List ℕ) (F : Field) → Turned job n y → Valid ms cap F → n ≤ turn F → view ms cap y F ≡ old F
  reads_old n y F t v h = elim (t.shows F v) [ inl e ↦ absurd (omega arith) | inr e ↦ e.1 ]

  pub reads_new : (n : ℕ) (y : List ℕ) (F : Field) → Turned job n y → Valid ms cap F → turn F < n → view ms cap y F ≡ new F
  reads_new n y F t v h = elim (t.shows F v) [ inl e ↦ e.1 | inr e ↦ absurd (omega arith) ]

  pub turned_over : (n : ℕ) (y : List ℕ) → Turned job n y → ((F : Field) → Valid ms cap F → turn F < n) → Became ms cap new b y
  turned_over n y t over = record { same_length = t.same_length; beyond = t.beyond; shows = λ F v. reads_new n y F t v (over F v) }

  -- a field that does not change
  pub reads_same : (n : ℕ) (y : List ℕ) (F : Field) → Turned job n y → Valid ms cap F → old F ≡ new F → view ms cap y F ≡ new F
  reads_same n y F t v h = elim (t.shows F v) [ inl e ↦ e.1 | inr e ↦ e.1 ∙ h ]

  -- turns that change nothing
  pub turned_idle : (n m : ℕ) (y : List ℕ) → Turned job n y → n ≤ m → ((F : Field) → Valid ms cap F → n ≤ turn F → turn F < m → old F ≡ new F)
      → Turned job m y
  turned_idle n m y t h idle = record {
    same_length = t.same_length;
    beyond = t.beyond;
    shows = λ F v. elim (t.shows F v) [
      | inl e ↦ inl (omega arith, e.1)
      | inr e ↦ elim (cases_lt (turn F) m) [ inl l ↦ inl (l, e.1 ∙ idle F v e.0 l) | inr l ↦ inr (l, e.1) ]
    ];
  }

  -- one field that keeps its bytes through turn n
  kept_through : (n m : ℕ) (y z : List ℕ) (G : Field) → m ≡ n + 1 → Turned job n y → Valid ms cap G → (turn G ≡ n → old G ≡ new G) → view ms cap z G ≡ view ms cap y G
      → ((turn G < m) × (view ms cap z G ≡ new G)) ⊎ ((m ≤ turn G) × (view ms cap z G ≡ old G))
  kept_through n m y z G e t v idle k =
      elim (t.shows G v) [
        | inl s ↦ inl (omega arith, k ∙ s.1)
        | inr s ↦ elim (cases_eq (turn G) n) [ inl q ↦ inl (omega arith, k ∙ s.1 ∙ idle q) | inr q ↦ inr (omega (arith, q), k ∙ s.1) ]
      ]

  -- turn n writes one field
  pub turned_put : (n m : ℕ) (y : List ℕ) (F : Field) (x : List ℕ) → m ≡ n + 1 → (layout_of ms cap).size ≤ length b → Turned job n y → Valid ms cap F
      → turn F ≡ n → length x ≡ long ms cap F → x ≡ new F → ((G : Field) → Valid ms cap G → Differs G F → turn G ≡ n → old G ≡ new G)
      → Turned job m (put (start ms cap F) x y)
  turned_put n m y F x e room t v at_n lx is idle =
      let ends = field_ends ms cap F v in
      let fits : start ms cap F + length x ≤ length y = omega (arith, t.same_length) in
      record {
        same_length = length_put (start ms cap F) x y fits ∙ t.same_length;
        beyond = drop_put (start ms cap F) x y fits (layout_of ms cap).size (omega arith) ∙ t.beyond;
        shows = λ G w. elim (cases_field G F) [
          | inl g ↦ inl (
            (let q : turn G ≡ turn F = ap turn g in omega arith),
            (ap (λ (H : Field). view ms cap (put (start ms cap F) x y) H) g ∙ part_put_same (start ms cap F) x y fits (long ms cap F) (sym lx) ∙ is ∙ ap new (sym g)),
          )
          | inr d ↦ kept_through n m y (put (start ms cap F) x y) G e t w (idle G w d)
              (part_put_other (start ms cap F) x y fits (start ms cap G) (long ms cap G) (subst (λ (k : ℕ). Apart (start ms cap G) (long ms cap G) (start ms cap F) k) (sym lx) (apart ms cap G F w v d)))
        ];
      }

  -- what turn n, which moves `len` bytes, does to a field: it lies in the bytes left and becomes zero, it takes what another field held, or it lies elsewhere
  pub data Fate (n from to len : ℕ) (G : Field) : Type 0 where
    zeroed : (k : ℕ) → start ms cap G ≡ from + k → k + long ms cap G ≤ len → turn G ≡ n → new G ≡ replicate (long ms cap G) 0 → Fate n from to len G
    taken : (k : ℕ) (H : Field) → Apart to len from len → Valid ms cap H → n ≤ turn H → start ms cap H ≡ from + k → long ms cap H ≡ long ms cap G → start ms cap G ≡ to + k
        → k + long ms cap G ≤ len → turn G ≡ n → old H ≡ new G → Fate n from to len G
    elsewhere : Apart (start ms cap G) (long ms cap G) from len → Apart (start ms cap G) (long ms cap G) to len → (turn G ≡ n → old G ≡ new G) → Fate n from to len G

  module _ (n m from to len : ℕ) (y : List ℕ) (e : m ≡ n + 1) (t : Turned job n y) (ff : from + len ≤ length y) (ft : to + len ≤ length y) where
    after_move : (G : Field) → Valid ms cap G → Fate n from to len G
        → ((turn G < m) × (view ms cap (moved from to len y) G ≡ new G)) ⊎ ((m ≤ turn G) × (view ms cap (moved from to len y) G ≡ old G))
    after_move G v (zeroed k at fit now is) =
        inl (omega arith, ap (λ (x : ℕ). part x (long ms cap G) (moved from to len y)) at ∙ moved_zero from to len y ff ft k (long ms cap G) fit ∙ sym is)
    after_move G v (taken k H off w later at same at' fit now is) =
        inl (
          omega arith,
          ap (λ (x : ℕ). part x (long ms cap G) (moved from to len y)) at'
              ∙ moved_taken from to len y ff ft k (long ms cap G) fit off
              ∙ ap (λ (x : ℕ). part x (long ms cap G) y) (sym at)
              ∙ ap (λ (x : ℕ). part (start ms cap H) x y) (sym same)
              ∙ reads_old n y H t w later
              ∙ is,
        )
    after_move G v (elsewhere p q idle) =
        kept_through n m y (moved from to len y) G e t v idle (moved_other from to len y ff ft (start ms cap G) (long ms cap G) p q)

  -- turn n moves bytes
  pub turned_move : (n m from to len : ℕ) (y : List ℕ) → m ≡ n + 1 → (layout_of ms cap).size ≤ length b → Turned job n y
      → from + len ≤ (layout_of ms cap).size → to + len ≤ (layout_of ms cap).size → ((G : Field) → Valid ms cap G → Fate n from to len G)
      → Turned job m (moved from to len y)
  turned_move n m from to len y e room t hf ht fate =
      let s = t.same_length in
      let ff : from + len ≤ length y = omega arith in
      let ft : to + len ≤ length y = omega arith in
      record {
        same_length = length_moved from to len y ff ft ∙ s;
        beyond = drop_moved from to len y ff ft (layout_of ms cap).size hf ht ∙ t.beyond;
        shows = λ G v. after_move n m from to len y e t ff ft G v (fate G v);
      }

  -- turn n moves the field F to E
  pub turned_move_field : (n m : ℕ) (y : List ℕ) (F E : Field) → m ≡ n + 1 → (layout_of ms cap).size ≤ length b → Turned job n y
      → Valid ms cap F → Valid ms cap E → long ms cap E ≡ long ms cap F → turn F ≡ n → turn E ≡ n → new F ≡ replicate (long ms cap F) 0 → (Differs E F → old F ≡ new E)
      → ((G : Field) → Valid ms cap G → Differs G F → Differs G E → turn G ≡ n → old G ≡ new G)
      → Turned job m (moved (start ms cap F) (start ms cap E) (long ms cap F) y)
  turned_move_field n m y F E e room t v w same tf te zero-there moves idle =
      turned_move n m (start ms cap F) (start ms cap E) (long ms cap F) y e room t (field_ends ms cap F v)
      (subst (λ (x : ℕ). start ms cap E + x ≤ (layout_of ms cap).size) same (field_ends ms cap E w))
      (λ G u. elim (cases_field G F) [
        | inl g ↦ subst (λ (H : Field). Fate n (start ms cap F) (start ms cap E) (long ms cap F) H) (sym g)
            (zeroed 0 (sym (add-zero (start ms cap F))) (omega arith) tf zero-there)
        | inr d ↦ elim (cases_field G E) [
          | inl g ↦ subst (λ (H : Field). Fate n (start ms cap F) (start ms cap E) (long ms cap F) H) (sym g)
              (taken 0 F (whole (subst (λ (H : Field). Differs H F) g d)) v (omega arith) (sym (add-zero (start ms cap F))) (sym same) (sym (add-zero (start ms cap E))) (omega arith) te (moves (subst (λ (H : Field). Differs H F) g d)))
          | inr f ↦ elsewhere (apart ms cap G F u v d) (subst (λ (x : ℕ). Apart (start ms cap G) (long ms cap G) (start ms cap E) x) same (apart ms cap G E u w f)) (idle G u d f)
        ]
      ])
    where
      whole : Differs E F → Apart (start ms cap E) (long ms cap F) (start ms cap F) (long ms cap F)
      whole d = subst (λ (x : ℕ). Apart (start ms cap E) x (start ms cap F) (long ms cap F)) same (apart ms cap E F w v d)
