-- A run over slots, by the numbers found there, is a run over the patches that lie there.
use Rattle.std.proofs.Common.{◌≡◌, ℕ, Bool, true, false, cond, ◌&&◌, leb, List, [], ◌∷◌, map, length, filter, sym, refl, ap, ◌∙◌, subst, ap₂}
use Rattle.std.specs.List.{AllByRecursion as Every}
use Rattle.std.proofs.ByRecursion.{All-map, All-weaker, all_kept_by}
use Rattle.std.proofs.lemmas.List.{length-map}
use Rattle.refine.specs.Chains.{Family, table, kth_least, threshold, not_above, admitted}
use Rattle.refine.specs.Steps.{State, Runs, begin}
use Rattle.refine.specs.Theorems.{stand_ins, image, StandInsRun}
use Rattle.refine.proofs.Images.{image_of, runs_image}

kept_map : {A B : Type 0} (f : A → B) (p : A → Bool) (p' : B → Bool) (l : List A) → Every (λ a. p a ≡ p' (f a)) l → map f (filter p l) ≡ filter p' (map f l)
kept_map f p p' [] h = refl
kept_map f p p' (a ∷ l) h = go (p a) (p' (f a)) h.0 (kept_map f p p' l h.1)
  where
    go : (t u : Bool) → t ≡ u → map f (filter p l) ≡ filter p' (map f l) → map f (cond t (a ∷ filter p l) (filter p l)) ≡ cond u (f a ∷ filter p' (map f l)) (filter p' (map f l))
    go t u e ih = subst (λ v. map f (cond t (a ∷ filter p l) (filter p l)) ≡ cond v (f a ∷ filter p' (map f l)) (filter p' (map f l))) e (same t)
      where
        same : (t : Bool) → map f (cond t (a ∷ filter p l) (filter p l)) ≡ cond t (f a ∷ filter p' (map f l)) (filter p' (map f l))
        same true = ap (λ r. f a ∷ r) ih
        same false = ih

module _ {A B I : Type 0} (f : A → B) (g : Family B I) (id : A → I) (bound : A → ℕ → ℕ) (upper : A → ℕ) where
  -- the family of the slots
  abbrev pub own : Family A I
  own = stand_ins g id bound upper

  -- what is found in slot a is what the patch there gives
  abbrev pub Stands : A → Type 0
  Stands a = ((t : ℕ) → bound a t ≡ g.bound (f a) t) × (upper a ≡ g.upper (f a)) × (id a ≡ g.id (f a))

  uppers_same : (l : List A) → Every Stands l → map upper l ≡ map g.upper (map f l)
  uppers_same [] h = refl
  uppers_same (a ∷ l) h = ap₂ (λ n r. n ∷ r) h.0.1 (uppers_same l h.1)

  module _ (k R : ℕ) (l : List A) (h : Every Stands l) where
    threshold_same : threshold own k l ≡ threshold g k (map f l)
    threshold_same = ap (kth_least k) (uppers_same l h)

    admitted_same : (a : A) → Stands a → admitted own k R l a ≡ admitted g k R (map f l) (f a)
    admitted_same a s =
        ap (λ v. leb (bound a 0) R && v) (ap (λ o. not_above o (bound a 0)) threshold_same)
        ∙ ap (λ n. leb n R && not_above (threshold g k (map f l)) n) (s.0 0)

    kept_same : map f (filter (admitted own k R l) l) ≡ filter (admitted g k R (map f l)) (map f l)
    kept_same = kept_map f _ _ l (All-weaker _ _ admitted_same l h)

    pub admitted_count : length (filter (admitted own k R l) l) ≡ length (filter (admitted g k R (map f l)) (map f l))
    admitted_count = sym (length-map (filter (admitted own k R l) l) f) ∙ ap length kept_same

    abbrev keys : A → ℕ → ℕ × I
    keys a t = (bound a t, id a)

    live_same : (l : List A) → map (image_of f (table g R) keys) (map (λ a. record { patch = a; t = 0 }) l) ≡ map (λ a. record { patch = a; t = 0 }) (map f l)
    live_same [] = refl
    live_same (a ∷ l) = ap (λ r. record { patch = f a; t = 0 } ∷ r) (live_same l)

    begin_same : image f (begin own k R l) ≡ begin g k R (map f l)
    begin_same = ap (λ v. record { live = v; named = []; measured = 0 }) (live_same (filter (admitted own k R l) l) ∙ ap (map (λ a. record { patch = a; t = 0 })) kept_same)

    pub runs_stand : (N : ℕ) {b : Bool} {e : State A} → Runs (table own R) k N (begin own k R l) b e → Runs (table g R) k N (begin g k R (map f l)) b (image f e)
    runs_stand N {b} {e} r = subst (λ s. Runs (table g R) k N s b (image f e)) begin_same
        (runs_image f (table g R) keys k N (begin own k R l)
        (All-map _ (λ a. record { patch = a; t = 0 }) (filter (admitted own k R l) l)
        (all_kept_by _ _ l (All-weaker _ _ (λ a s t. (let x = s.0 t in let y = s.2 in λ i. (x i, y i))) l h))) r)

pub stand_ins_run : (A B I : Type 0) → StandInsRun A B I
stand_ins_run A B I f g id bound upper k radius budget l h = ((λ b e r. runs_stand f g id bound upper k radius l h budget r), admitted_count f g id bound upper k radius l h)
