-- Each call keeps the patches and the pivots held in order.
use Rattle.std.proofs.Common.{◌≡◌, ℕ, ◌-◌, ◌<◌, ◌≤◌, ◌⊎◌, List, [], ◌∷◌, ◌++◌, length, get_or, sym, refl, ap, ◌∙◌, subst, inl, inr, arith}
use Rattle.std.proofs.lemmas.List.{length_push, get_or_push, get_or_append_left}
use Rattle.std.proofs.lemmas.Bool.{cases_eq, cases_order}
use Rattle.metric.specs.Model.{Model, Row}
use Rattle.metric.specs.Channels.{at}
use Rattle.patch.specs.Patches.{Patch, patch_width}
use Rattle.index.specs.History.{no_patch, closed_up}
use Rattle.index.specs.Image.{Kept}
use Rattle.index.proofs.Fields.{Ne}
use Rattle.index.proofs.Shown.{closed_length, closed_entry, closed_gap}

-- what holds of every entry holds with one more, and with one less
module _ {X : Type 0} (d : X) (P : X → Type 0) (xs : List X) (all : (i : ℕ) → i < length xs → P (get_or xs i d)) where
  pub all_push : (x : X) → P x → (i : ℕ) → i < length (xs ++ x ∷ []) → P (get_or (xs ++ x ∷ []) i d)
  all_push x px i h =
      let n = length_push xs x in
      elim (cases_eq i (length xs)) [
        | inl e ↦ subst P (sym (get_or_push xs x d i (sym e))) px
        | inr ne ↦ let l : i < length xs = omega (arith, ne) in subst P (sym (get_or_append_left xs (x ∷ []) d i l)) (all i l)
      ]

-- where an entry of the closed-up list came from
pub record Source {X : Type 0} (d : X) (xs : List X) (slot i : ℕ) : Type 0 where
  pub from : ℕ
  pub below : from < length xs
  pub entry : get_or (closed_up d xs slot) i d ≡ get_or xs from d
  pub why : ((i ≡ slot) × (from ≡ length xs - 1)) ⊎ ((Ne i slot) × (from ≡ i))

module _ {X : Type 0} (d : X) (xs : List X) (slot : ℕ) (here : slot < length xs) where
  pub source : (i : ℕ) → i < length (closed_up d xs slot) → Source d xs slot i
  source i h =
      let n = closed_length d xs slot here in
      let l : i < length xs - 1 = omega arith in
      elim (cases_order i slot) [
        | inl e ↦ record {
          from = length xs - 1;
          below = omega arith;
          entry = ap (λ (x : ℕ). get_or (closed_up d xs slot) x d) e ∙ closed_gap d xs slot here (omega arith);
          why = inl (e, refl);
        }
        | inr ne ↦ record { from = i; below = omega arith; entry = closed_entry d xs slot here i l ne; why = inr (ne, refl) }
      ]

  pub all_closed : (P : X → Type 0) → ((i : ℕ) → i < length xs → P (get_or xs i d)) → (i : ℕ) → i < length (closed_up d xs slot) → P (get_or (closed_up d xs slot) i d)
  all_closed P all i h = let s = source i h in subst P (sym s.entry) (all s.from s.below)

module _ (ms : List Model) (cap : ℕ) (ps : List Patch) (pv : ℕ → List (List ℕ)) (kept : Kept ms cap ps pv) where
  abbrev number_of : List Patch → ℕ → ℕ
  number_of qs i = (get_or qs i no_patch).accession

  pub kept_insert : (p : Patch) → length ps < cap → p.accession < 65536 → Row (patch_width ms) p.rows → ((i : ℕ) → i < length ps → number_of ps i ≡ p.accession → ⊥)
      → Kept ms cap (ps ++ p ∷ []) pv
  kept_insert p room fit is_row fresh =
      let n = length_push ps p in
      record {
        few = omega arith;
        once = λ i j h l e. elim (cases_eq i (length ps)) [
          | inl z ↦ elim (cases_eq j (length ps)) [
            | inl y ↦ z ∙ sym y
            | inr y ↦ let m : j < length ps = omega (arith, y) in absurd (fresh j m (sym (old j m) ∙ sym e ∙ new i z))
          ]
          | inr z ↦ let k : i < length ps = omega (arith, z) in elim (cases_eq j (length ps)) [
            | inl y ↦ absurd (fresh i k (sym (old i k) ∙ e ∙ new j y))
            | inr y ↦ let m : j < length ps = omega (arith, y) in kept.once i j k m (sym (old i k) ∙ e ∙ old j m)
          ]
        ];
        numbers = all_push no_patch (λ (q : Patch). q.accession < 65536) ps kept.numbers p fit;
        rows = all_push no_patch (λ (q : Patch). Row (patch_width ms) q.rows) ps kept.rows p is_row;
        eight = kept.eight;
        pivots = kept.pivots;
        none = kept.none;
      }
    where
      old : (i : ℕ) → i < length ps → number_of (ps ++ p ∷ []) i ≡ number_of ps i
      old i h = ap (λ (q : Patch). q.accession) (get_or_append_left ps (p ∷ []) no_patch i h)

      new : (i : ℕ) → i ≡ length ps → number_of (ps ++ p ∷ []) i ≡ p.accession
      new i e = ap (λ (q : Patch). q.accession) (get_or_push ps p no_patch i (sym e))

  pub kept_remove : (slot : ℕ) → slot < length ps → Kept ms cap (closed_up no_patch ps slot) pv
  kept_remove slot h =
      let n = closed_length no_patch ps slot h in
      record {
        few = omega (arith, kept.few);
        once = λ i j l m e.
            let s = source no_patch ps slot h i l in
            let t = source no_patch ps slot h j m in
            let z : s.from ≡ t.from = kept.once s.from t.from s.below t.below
            (sym (ap (λ (q : Patch). q.accession) s.entry) ∙ e ∙ ap (λ (q : Patch). q.accession) t.entry) in
            omega (arith, s.why, t.why);
        numbers = all_closed no_patch ps slot h (λ (q : Patch). q.accession < 65536) kept.numbers;
        rows = all_closed no_patch ps slot h (λ (q : Patch). Row (patch_width ms) q.rows) kept.rows;
        eight = kept.eight;
        pivots = kept.pivots;
        none = kept.none;
      }

  -- only the pivots of channel c change
  pub kept_pivots : (qv : ℕ → List (List ℕ)) (c : ℕ) → c < length ms → ((d : ℕ) → (d ≡ c → ⊥) → qv d ≡ pv d) → length (qv c) ≤ 8
      → ((p : ℕ) → p < length (qv c) → Row (at ms c).width (get_or (qv c) p [])) → Kept ms cap ps qv
  kept_pivots qv c h others small all = record {
    few = kept.few;
    once = kept.once;
    numbers = kept.numbers;
    rows = kept.rows;
    eight = λ d. elim (cases_eq d c) [
      | inl e ↦ subst (λ (x : ℕ). length (qv x) ≤ 8) (sym e) small
      | inr ne ↦ subst (λ (l : List (List ℕ)). length l ≤ 8) (sym (others d ne)) (kept.eight d)
    ];
    pivots = λ d p l m. elim (cases_eq d c) [
      | inl e ↦ subst (λ (x : ℕ). Row (at ms x).width (get_or (qv x) p [])) (sym e) (all p (subst (λ (x : ℕ). p < length (qv x)) e m))
      | inr ne ↦ subst (λ (r : List (List ℕ)). Row (at ms d).width (get_or r p [])) (sym (others d ne)) (kept.pivots d p l (subst (λ (r : List (List ℕ)). p < length r) (others d ne) m))
    ];
    none = λ d l. others d (λ e. omega arith) ∙ kept.none d l;
  }
