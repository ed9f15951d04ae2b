-- A store and its counts stand for the patches and pivots held, and each call, granted or refused, keeps that.
use Rattle.std.proofs.Common.{◌≡◌, ℕ, ◌+◌, ◌-◌, ◌<◌, ◌≤◌, Bool, true, false, cond, ◌&&◌, eqb, ltb, List, [], ◌∷◌, ◌++◌, length, get_or, drop, is_some, Some, None, Option, unwrap_or, sym, refl, ap, ◌∙◌, subst, arith}
use mathlib.Core.Path.{fun_ext}
use Rattle.std.proofs.lemmas.List.{length_push}
use Rattle.std.proofs.lemmas.Bool.{eqb-true, ltb-true, le-ltb, eq-eqb, ne_eqb, cond-true, cond-false}
use Rattle.metric.specs.Model.{Model, Row}
use Rattle.metric.specs.Channels.{at}
use Rattle.patch.specs.Patches.{Patch, patch_width, row}
use Rattle.patch.proofs.Rows.{row_is_row}
use Rattle.refusal.specs.declared.Refusal.{Refusal}
use Rattle.refusal.specs.declared.Refusal.TheVariants.{WrongRowsLength, AlreadyHeld, Full, NotHeld, NoSuchChannel, PivotsFull, NoSuchPivot, BadStore}
use Rattle.index.specs.declared.counts.Counts.{Counts}
use Rattle.index.specs.Calls.{first_slot, insert_refusal, inserted_bytes, removed_bytes, added_bytes, freed_bytes}
use Rattle.index.specs.History.{Call, insert, remove, add_pivot, remove_pivot, nearest, Written, call, no_patch, closed_up, place, change, change_pivots, Fits}
use Rattle.index.specs.Image.{counted, Kept}
use Rattle.index.specs.Layouts.{layout_of, number_at}
use Rattle.index.specs.Limits.{pivots_in, with_held, with_pivots}
use Rattle.index.proofs.Fields.{Field, number, Valid, view}
use Rattle.index.proofs.Turning.{Became}
use Rattle.index.proofs.Shown.{shown, number_held, closed_length}
use Rattle.index.proofs.Counting.{pivots_counted, counted_pivots}
use Rattle.index.proofs.Places.{get16_is, found_place, place_below, place_none}
use Rattle.index.proofs.Keeping.{all_push, all_closed, kept_insert, kept_remove, kept_pivots}
use Rattle.index.proofs.Inserting.{inserted}
use Rattle.index.proofs.Removing.{removed}
use Rattle.index.proofs.Adding.{added}
use Rattle.index.proofs.Freeing.{freed}

-- the counts and the store w stand for ps and pv; the store was b₀
pub record Stands (ms : List Model) (cap : ℕ) (b₀ : List ℕ) (ps : List Patch) (pv : ℕ → List (List ℕ)) (w : Written) : Type 0 where
  pub counts : w.counts ≡ counted ms ps pv cap
  pub same_length : length w.bytes ≡ length b₀
  pub beyond : drop (layout_of ms cap).size w.bytes ≡ drop (layout_of ms cap).size b₀
  pub shows : (F : Field) → Valid ms cap F → view ms cap w.bytes F ≡ shown ms ps pv F
  pub kept : Kept ms cap ps pv

-- what a call leaves: the same where it is refused, else these
abbrev left_by : Written → Counts → List ℕ → Option Refusal → Written
left_by w k b r = record { counts = cond (is_some r) w.counts k; bytes = cond (is_some r) w.bytes b }

under : {X : Type 0} (v : Bool) (x y z : X) → (v ≡ true → x ≡ y) → cond v x z ≡ cond v y z
under true x y z e = e refl
under false x y z e = refl

first_is : (ms : List Model) (cap : ℕ) (b₀ b : List ℕ) (ps : List Patch) (pv : ℕ → List (List ℕ))
    → Stands ms cap b₀ ps pv (record { counts = counted ms ps pv cap; bytes = b }) → (a : ℕ) → first_slot (counted ms ps pv cap) b a ≡ place a ps
first_is ms cap b₀ b ps pv st a =
    let full = st.kept.few in
    found_place b a ps (λ j h. get16_is (number_at j) (get_or ps j no_patch).accession b (st.shows (number j) (omega arith) ∙ number_held ms ps pv j h))

module _ (ms : List Model) (cap : ℕ) (b₀ : List ℕ) (few : length ms ≤ 8) (room : (layout_of ms cap).size ≤ length b₀) where
  module _ (ps : List Patch) (pv : ℕ → List (List ℕ)) (b : List ℕ) where
    abbrev k : Counts
    k = counted ms ps pv cap

    abbrev w : Written
    w = record { counts = k; bytes = b }

    module _ (st : Stands ms cap b₀ ps pv w) where
      -- a call that is granted
      granted : (qs : List Patch) (qv : ℕ → List (List ℕ)) (j : Counts) (y : List ℕ) → Became ms cap (shown ms qs qv) b y → j ≡ counted ms qs qv cap → Kept ms cap qs qv
          → Stands ms cap b₀ qs qv (record { counts = j; bytes = y })
      granted qs qv j y t e kept = record {
        counts = e;
        same_length = t.same_length ∙ st.same_length;
        beyond = t.beyond ∙ st.beyond;
        shows = t.shows;
        kept = kept;
      }

      held_room : (layout_of ms cap).size ≤ length b
      held_room = omega (arith, st.same_length)

      not_short : ltb (length b) (layout_of ms cap).size ≡ false
      not_short = le-ltb (length b) (layout_of ms cap).size held_room

      -- insert
      module _ (a : ℕ) (new-rows : List ℕ) (fit : a < 65536) (bytes : (i : ℕ) → get_or new-rows i 0 < 256) where
        abbrev patch : Patch
        patch = record { accession = a; rows = new-rows }

        insert_granted : length new-rows ≡ patch_width ms → is_some (place a ps) ≡ false → length ps < cap
            → Stands ms cap b₀ (ps ++ patch ∷ []) pv (record { counts = with_held k (length ps + 1); bytes = inserted_bytes ms k b a new-rows })
        insert_granted wide fresh free =
            granted (ps ++ patch ∷ []) pv (with_held k (length ps + 1)) (inserted_bytes ms k b a new-rows)
            (inserted ms cap b ps pv a new-rows held_room few free wide st.kept.eight st.shows)
            (ap (λ (n : ℕ). with_held k n) (sym (length_push ps patch)))
            (kept_insert ms cap ps pv st.kept patch free fit (record { long = wide; bytes = bytes }) (place_none a ps 0 fresh))

        insert_cases : (v₂ v₃ v₄ : Bool) → (v₂ ≡ true → length new-rows ≡ patch_width ms) → (v₃ ≡ false → is_some (place a ps) ≡ false) → (v₄ ≡ true → length ps < cap)
            → Stands ms cap b₀ (cond v₂ (cond v₃ ps (cond v₄ (ps ++ patch ∷ []) ps)) ps) pv
            (left_by w (with_held k (length ps + 1)) (inserted_bytes ms k b a new-rows) (cond v₂ (cond v₃ (Some AlreadyHeld) (cond v₄ None (Some Full))) (Some WrongRowsLength)))
        insert_cases false v₃ v₄ x y z = st
        insert_cases true true v₄ x y z = st
        insert_cases true false true x y z = insert_granted (x refl) (y refl) (z refl)
        insert_cases true false false x y z = st

        insert_stands : Stands ms cap b₀ (change ms cap (insert a new-rows) ps) pv (call ms (insert a new-rows) w)
        insert_stands =
            let v₂ = eqb (length new-rows) (patch_width ms) in
            let v₄ = ltb (length ps) cap in
            let R : Bool → Option ℕ → Option Refusal = λ x f. cond x (Some BadStore) (cond v₂ (cond (is_some f) (Some AlreadyHeld) (cond v₄ None (Some Full))) (Some WrongRowsLength)) in
            let e : insert_refusal ms k b a new-rows ≡ R false (place a ps) =
            ap (λ (x : Bool). R x (first_slot k b a)) not_short ∙ ap (λ (f : Option ℕ). R false f) (first_is ms cap b₀ b ps pv st a) in
            subst (λ (r : Option Refusal). Stands ms cap b₀ (change ms cap (insert a new-rows) ps) pv (left_by w (with_held k (length ps + 1)) (inserted_bytes ms k b a new-rows) r)) (sym e)
            (insert_cases v₂ (is_some (place a ps)) v₄ (eqb-true (length new-rows) (patch_width ms)) (λ y. y) (ltb-true (length ps) cap))

      -- remove
      remove_granted : (slot : ℕ) → slot < length ps → Stands ms cap b₀ (closed_up no_patch ps slot) pv (record { counts = with_held k (length ps - 1); bytes = removed_bytes ms k slot b })
      remove_granted slot below =
          granted (closed_up no_patch ps slot) pv (with_held k (length ps - 1)) (removed_bytes ms k slot b)
          (removed ms cap b ps pv slot below held_room st.kept.few st.shows)
          (ap (λ (n : ℕ). with_held k n) (sym (closed_length no_patch ps slot below)))
          (kept_remove ms cap ps pv st.kept slot below)

      remove_cases : (f : Option ℕ) → (is_some f ≡ true → unwrap_or f 0 < length ps)
          → Stands ms cap b₀ (cond (is_some f) (closed_up no_patch ps (unwrap_or f 0)) ps) pv
          (left_by w (with_held k (length ps - 1)) (removed_bytes ms k (unwrap_or f 0) b) (cond (is_some f) None (Some NotHeld)))
      remove_cases None h = st
      remove_cases (Some i) h = remove_granted i (h refl)

      place_in : (a : ℕ) → is_some (place a ps) ≡ true → unwrap_or (place a ps) 0 < length ps
      place_in a e = omega (arith, place_below a ps 0 e)

      remove_stands : (a : ℕ) → Stands ms cap b₀ (change ms cap (remove a) ps) pv (call ms (remove a) w)
      remove_stands a =
          let V : Bool → Option ℕ → Written = λ x f. left_by w (with_held k (length ps - 1)) (removed_bytes ms k (unwrap_or f 0) b) (cond x (Some BadStore) (cond (is_some f) None (Some NotHeld))) in
          let e : call ms (remove a) w ≡ V false (place a ps) =
          ap (λ (x : Bool). V x (first_slot k b a)) not_short ∙ ap (λ (f : Option ℕ). V false f) (first_is ms cap b₀ b ps pv st a) in
          subst (λ (x : Written). Stands ms cap b₀ (change ms cap (remove a) ps) pv x) (sym e) (remove_cases (place a ps) (place_in a))

      -- the pivots where nothing is added or removed
      same_pivots : (qv : ℕ → List (List ℕ)) → ((j : ℕ) → qv j ≡ pv j) → Stands ms cap b₀ ps qv w
      same_pivots qv e = subst (λ (v : ℕ → List (List ℕ)). Stands ms cap b₀ ps v w) (sym (fun_ext e)) st

      pivots_are : (c : ℕ) → ltb c (length ms) ≡ true → pivots_in k c ≡ length (pv c)
      pivots_are c h = pivots_counted ms ps pv cap c (omega (arith, ltb-true c (length ms) h))

      -- add pivot
      module _ (c : ℕ) where
        abbrev with_more : Bool → Option ℕ → Bool → ℕ → List (List ℕ)
        with_more x f y j = cond (eqb j c && x && is_some f && y) (pv j ++ row ms c (get_or ps (unwrap_or f 0) no_patch).rows ∷ []) (pv j)

        abbrev add_left : Option ℕ → Option Refusal → Written
        add_left f r = left_by w (with_pivots k c (pivots_in k c + 1)) (added_bytes ms k c (unwrap_or f 0) b) r

        add_granted : (slot : ℕ) → c < length ms → slot < length ps → length (pv c) < 8 → Stands ms cap b₀ ps (with_more true (Some slot) true) (add_left (Some slot) None)
        add_granted slot chan below space =
            let x = row ms c (get_or ps slot no_patch).rows in
            let qv = with_more true (Some slot) true in
            let here : qv c ≡ pv c ++ x ∷ [] = cond-true (eqb c c && true && true && true) (pv c ++ x ∷ []) (pv c) (grind (arith, eq-eqb c c refl)) in
            let others : (d : ℕ) → (d ≡ c → ⊥) → qv d ≡ pv d =
            λ d ne. cond-false (eqb d c && true && true && true) (pv d ++ x ∷ []) (pv d) (grind (arith, ne_eqb d c ne)) in
            let n : length (qv c) ≡ length (pv c) + 1 = ap length here ∙ length_push (pv c) x in
            let p : pivots_in k c ≡ length (pv c) = pivots_counted ms ps pv cap c (omega arith) in
            let r = st.kept.rows slot below in
            granted ps qv (with_pivots k c (pivots_in k c + 1)) (added_bytes ms k c slot b)
            (added ms cap b ps pv qv c slot here others held_room few st.kept.few chan below space st.kept.rows st.shows)
            (counted_pivots ms ps pv qv cap c (pivots_in k c + 1) (omega arith) (omega arith) others)
            (kept_pivots ms cap ps pv st.kept qv c chan others (omega arith)
            (subst (λ (l : List (List ℕ)). (i : ℕ) → i < length l → Row (at ms c).width (get_or l i [])) (sym here)
            (all_push [] (Row (at ms c).width) (pv c) (λ i h. st.kept.pivots c i chan h) x (row_is_row ms c chan (get_or ps slot no_patch).rows r.long r.bytes))))

        add_cases : (x : Bool) (f : Option ℕ) (y : Bool) → (x ≡ true → c < length ms) → (is_some f ≡ true → unwrap_or f 0 < length ps) → (y ≡ true → length (pv c) < 8)
            → Stands ms cap b₀ ps (with_more x f y) (add_left f (cond x (cond (is_some f) (cond y None (Some PivotsFull)) (Some NotHeld)) (Some NoSuchChannel)))
        add_cases false f y h₁ h₂ h₃ = same_pivots (with_more false f y) (λ j. cond-false (eqb j c && false && is_some f && y) (pv j ++ row ms c (get_or ps (unwrap_or f 0) no_patch).rows ∷ []) (pv j) (grind arith))
        add_cases true None y h₁ h₂ h₃ = same_pivots (with_more true None y) (λ j. cond-false (eqb j c && true && false && y) (pv j ++ row ms c (get_or ps 0 no_patch).rows ∷ []) (pv j) (grind arith))
        add_cases true (Some i) false h₁ h₂ h₃ = same_pivots (with_more true (Some i) false) (λ j. cond-false (eqb j c && true && true && false) (pv j ++ row ms c (get_or ps i no_patch).rows ∷ []) (pv j) (grind arith))
        add_cases true (Some i) true h₁ h₂ h₃ = add_granted i (h₁ refl) (h₂ refl) (h₃ refl)

        add_stands : (a : ℕ) → Stands ms cap b₀ ps (change_pivots ms ps (add_pivot c a) pv) (call ms (add_pivot c a) w)
        add_stands a =
            let x = ltb c (length ms) in
            let I : Option ℕ → ℕ → Option Refusal = λ f n. cond (is_some f) (cond (ltb n 8) None (Some PivotsFull)) (Some NotHeld) in
            let R : Bool → Option ℕ → ℕ → Option Refusal = λ s f n. cond s (Some BadStore) (cond x (I f n) (Some NoSuchChannel)) in
            let V : Bool → Option ℕ → ℕ → Written = λ s f n. add_left f (R s f n) in
            let e : call ms (add_pivot c a) w ≡ V false (place a ps) (pivots_in k c) =
            ap (λ (s : Bool). V s (first_slot k b a) (pivots_in k c)) not_short ∙ ap (λ (f : Option ℕ). V false f (pivots_in k c)) (first_is ms cap b₀ b ps pv st a) in
            let e₂ : R false (place a ps) (pivots_in k c) ≡ R false (place a ps) (length (pv c)) =
            under x (I (place a ps) (pivots_in k c)) (I (place a ps) (length (pv c))) (Some NoSuchChannel) (λ h. ap (I (place a ps)) (pivots_are c h)) in
            subst (λ (z : Written). Stands ms cap b₀ ps (change_pivots ms ps (add_pivot c a) pv) z) (sym (e ∙ ap (add_left (place a ps)) e₂))
            (add_cases x (place a ps) (ltb (length (pv c)) 8) (ltb-true c (length ms)) (place_in a) (ltb-true (length (pv c)) 8))

      -- remove pivot
      module _ (c p : ℕ) where
        abbrev with_less : Bool → Bool → ℕ → List (List ℕ)
        with_less x y j = cond (eqb j c && x && y) (closed_up [] (pv j) p) (pv j)

        abbrev free_left : Option Refusal → Written
        free_left r = left_by w (with_pivots k c (pivots_in k c - 1)) (freed_bytes ms k c p b) r

        free_granted : c < length ms → p < length (pv c) → Stands ms cap b₀ ps (with_less true true) (free_left None)
        free_granted chan below =
            let qv = with_less true true in
            let here : qv c ≡ closed_up [] (pv c) p = cond-true (eqb c c && true && true) (closed_up [] (pv c) p) (pv c) (grind (arith, eq-eqb c c refl)) in
            let others : (d : ℕ) → (d ≡ c → ⊥) → qv d ≡ pv d = λ d ne. cond-false (eqb d c && true && true) (closed_up [] (pv d) p) (pv d) (grind (arith, ne_eqb d c ne)) in
            let n : length (qv c) ≡ length (pv c) - 1 = ap length here ∙ closed_length [] (pv c) p below in
            let q : pivots_in k c ≡ length (pv c) = pivots_counted ms ps pv cap c (omega arith) in
            let small = st.kept.eight c in
            granted ps qv (with_pivots k c (pivots_in k c - 1)) (freed_bytes ms k c p b)
            (freed ms cap b ps pv qv c p below here others held_room few st.kept.few chan small st.shows)
            (counted_pivots ms ps pv qv cap c (pivots_in k c - 1) (omega arith) (omega arith) others)
            (kept_pivots ms cap ps pv st.kept qv c chan others (omega arith)
            (subst (λ (l : List (List ℕ)). (i : ℕ) → i < length l → Row (at ms c).width (get_or l i [])) (sym here)
            (all_closed [] (pv c) p below (Row (at ms c).width) (λ i h. st.kept.pivots c i chan h))))

        free_cases : (x y : Bool) → (x ≡ true → c < length ms) → (y ≡ true → p < length (pv c))
            → Stands ms cap b₀ ps (with_less x y) (free_left (cond x (cond y None (Some NoSuchPivot)) (Some NoSuchChannel)))
        free_cases false y h₁ h₂ = same_pivots (with_less false y) (λ j. cond-false (eqb j c && false && y) (closed_up [] (pv j) p) (pv j) (grind arith))
        free_cases true false h₁ h₂ = same_pivots (with_less true false) (λ j. cond-false (eqb j c && true && false) (closed_up [] (pv j) p) (pv j) (grind arith))
        free_cases true true h₁ h₂ = free_granted (h₁ refl) (h₂ refl)

        free_stands : Stands ms cap b₀ ps (change_pivots ms ps (remove_pivot c p) pv) (call ms (remove_pivot c p) w)
        free_stands =
            let x = ltb c (length ms) in
            let I : ℕ → Option Refusal = λ n. cond (ltb p n) None (Some NoSuchPivot) in
            let R : Bool → ℕ → Option Refusal = λ s n. cond s (Some BadStore) (cond x (I n) (Some NoSuchChannel)) in
            let e : R (ltb (length b) (layout_of ms cap).size) (pivots_in k c) ≡ R false (pivots_in k c) = ap (λ (s : Bool). R s (pivots_in k c)) not_short in
            let e₂ : R false (pivots_in k c) ≡ R false (length (pv c)) = under x (I (pivots_in k c)) (I (length (pv c))) (Some NoSuchChannel) (λ h. ap I (pivots_are c h)) in
            subst (λ (z : Written). Stands ms cap b₀ ps (change_pivots ms ps (remove_pivot c p) pv) z) (sym (ap free_left (e ∙ e₂)))
            (free_cases x (ltb p (length (pv c))) (ltb-true c (length ms)) (ltb-true p (length (pv c))))

      call_here : (c : Call) → Fits c → Stands ms cap b₀ (change ms cap c ps) (change_pivots ms ps c pv) (call ms c w)
      call_here (insert a new-rows) fit = insert_stands a new-rows fit.0 fit.1
      call_here (remove a) fit = remove_stands a
      call_here (add_pivot c a) fit = add_stands c a
      call_here (remove_pivot c p) fit = free_stands c p
      call_here nearest fit = st

  -- each call keeps that the store stands for what is held
  pub call_stands : (ps : List Patch) (pv : ℕ → List (List ℕ)) (w : Written) (c : Call) → Fits c → Stands ms cap b₀ ps pv w
      → Stands ms cap b₀ (change ms cap c ps) (change_pivots ms ps c pv) (call ms c w)
  call_stands ps pv w c fit st =
      let z : Written = record { counts = counted ms ps pv cap; bytes = w.bytes } in
      let e : w ≡ z = ap (λ (x : Counts). record { counts = x; bytes = w.bytes }) st.counts in
      subst (λ (x : Written). Stands ms cap b₀ (change ms cap c ps) (change_pivots ms ps c pv) (call ms c x)) (sym e)
      (call_here ps pv w.bytes (subst (λ (x : Written). Stands ms cap b₀ ps pv x) e st) c fit)
