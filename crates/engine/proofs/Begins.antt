-- The candidates that the passes leave stand for the start of the step rule.
use Rattle.std.proofs.Common.{◌≡◌, ℕ, ◌+◌, ◌<◌, ◌≤◌, Bool, cond, List, [], ◌∷◌, map, length, take, filter, sym, refl, ap, ◌∙◌, subst, arith}
use mathlib.Core.Option.{Option}
use Rattle.std.specs.List.{range_with_len, AllByRecursion as Every}
use Rattle.std.specs.List.Sorted.{IsPermutation}
use Rattle.std.proofs.lemmas.List.{length-map, length-take-le}
use Rattle.std.proofs.ByRecursion.{All-from_get_or, All-weaker}
use Rattle.std.proofs.lemmas.List.FromFn.{length-range_with_len, get_or-range_with_len}
use Rattle.std.proofs.lemmas.List.Sorted.{IsPermutation-sym, length_permutation}
use Rattle.refine.specs.Chains.{threshold, admitted}
use Rattle.refine.specs.Steps.{begin}
use Rattle.engine.specs.declared.records.Neighbor.{Neighbor}
use Rattle.engine.specs.declared.records.Candidate.{Candidate}
use Rattle.engine.specs.Tables.{Tables}
use Rattle.engine.specs.Slots.{Coherent, Unmeasured}
use Rattle.engine.specs.Passes.{passes, bound_at, FirstBounds, spot, untouched, Admits}
use Rattle.engine.specs.Outcomes.{Question, slots_of, family_of}
use Rattle.engine.specs.Turns.{Stands}

kept_same : {A : Type 0} (p q : A → Bool) (l : List A) → Every (λ a. p a ≡ q a) l → filter p l ≡ filter q l
kept_same p q [] h = refl
kept_same p q (a ∷ l) h = ap (λ b. cond b (a ∷ filter p l) (filter p l)) h.0 ∙ ap (λ r. cond (q a) (a ∷ r) r) (kept_same p q l h.1)

-- the heap begins in the slots that hold the first bounds
pub admitted_from : (t : Tables) (q : Question) (limit : Option ℕ) (n : ℕ) (xs xs' ys : List Candidate) → xs' ≡ xs
    → Admits t q.weights (λ i. passes q.radius limit (bound_at xs' i)) t.slots n xs' ys → Admits t q.weights (λ i. passes q.radius limit (bound_at xs i)) t.slots n xs ys
admitted_from t q limit n xs xs' ys e h = subst (λ (zs : List Candidate). Admits t q.weights (λ i. passes q.radius limit (bound_at zs i)) t.slots n zs ys) e h

module _ (t : Tables) (q : Question) (limit : Option ℕ) (n : ℕ) (xs ys : List Candidate) (bounds : FirstBounds (family_of t q) t.slots xs)
    (found : limit ≡ threshold (family_of t q) q.k (slots_of t))
    (ad : Admits t q.weights (λ i. passes q.radius limit (bound_at xs i)) t.slots n xs ys) (room : n ≤ length ys) where
  same : filter (λ i. passes q.radius limit (bound_at xs i)) (range_with_len 0 t.slots) ≡ filter (admitted (family_of t q) q.k q.radius (slots_of t)) (slots_of t)
  same = kept_same (λ i. passes q.radius limit (bound_at xs i)) (admitted (family_of t q) q.k q.radius (slots_of t)) (range_with_len 0 t.slots)
      (All-from_get_or _ (range_with_len 0 t.slots) 0 (λ i l.
      subst (λ (j : ℕ). passes q.radius limit (bound_at xs j) ≡ admitted (family_of t q) q.k q.radius (slots_of t) j)
      (sym (get_or-range_with_len 0 t.slots i 0 (let e = length-range_with_len 0 t.slots in omega arith)))
      (at (0 + i) (let e = length-range_with_len 0 t.slots in omega arith))))
    where
      at : (j : ℕ) → j < t.slots → passes q.radius limit (bound_at xs j) ≡ admitted (family_of t q) q.k q.radius (slots_of t) j
      at j h = ap (passes q.radius limit) (bounds j h) ∙ ap (λ (o : Option ℕ). passes q.radius o ((family_of t q).bound j 0)) found

  pub counted : n ≡ length (filter (admitted (family_of t q) q.k q.radius (slots_of t)) (slots_of t))
  counted =
      let K = filter (λ i. passes q.radius limit (bound_at xs i)) (range_with_len 0 t.slots) in
      let a = length_permutation (map spot (take n ys)) (map untouched K) ad.live in
      let b = length-map K untouched in
      let c = length-map (take n ys) spot in
      let d = length-take-le n ys room in
      let e = ap length same in
      omega arith

  pub stands_first : (old : List Neighbor) → Stands t q old n ys old (record { named = 0; measured = 0 }) (begin (family_of t q) q.k q.radius (slots_of t))
  stands_first old = record {
    within = room;
    heap = ad.heap;
    coherent = All-weaker _ (Coherent t q.weights q.aggregate) (λ x u. coherent x u) (take n ys) ad.sound;
    live = subst (λ (l : List ℕ). IsPermutation (map untouched l) (map spot (take n ys))) same (IsPermutation-sym _ _ ad.live);
    named = refl;
    measured = refl;
    hits = refl;
    few = let f = ad.few in omega arith;
  }
    where
      coherent : (x : Candidate) → Unmeasured t q.weights x.slot (bound_at xs x.slot) x → Coherent t q.weights q.aggregate x
      coherent x u = record { sound = u.sound; bound = u.bound ∙ bounds x.slot u.sound.slot ∙ ap ((family_of t q).bound x.slot) (sym u.measured) }
