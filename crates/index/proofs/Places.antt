-- The slot that a walk over the store finds is the place among the patches held.
use Rattle.std.proofs.Common.{◌≡◌, ℕ, zero, suc, ◌+◌, ◌/◌, ◌%◌, ◌<◌, Bool, true, false, cond, eqb, List, [], ◌∷◌, length, get_or, drop, is_some, Some, Option, unwrap_or, sym, refl, ap, ◌∙◌, add-zero, arith}
use Rattle.std.proofs.lemmas.List.{get_or-take, get_or-drop}
use Rattle.std.proofs.lemmas.Bool.{both_ways, eq-eqb}
use Rattle.big_endian.specs.Numbers.{be16}
use Rattle.patch.specs.Patches.{Patch}
use Rattle.index.specs.Bytes.{part, get16}
use Rattle.index.specs.History.{no_patch, place_from, place}
use Rattle.index.specs.Layouts.{number_at}
use Rattle.index.specs.Steps.{first_from}

-- a number is read as it was written
pub get16_is : (at n : ℕ) (b : List ℕ) → part at 2 b ≡ be16 n → get16 at b ≡ n
get16_is at n b e =
    let at0 : get_or b at 0 ≡ n / 256 =
    ap (λ (k : ℕ). get_or b k 0) (sym (add-zero at)) ∙ sym (get_or-take 2 (drop at b) 0 0 (omega arith) ∙ get_or-drop at b 0 0) ∙ ap (λ (x : List ℕ). get_or x 0 0) e in
    let at1 : get_or b (at + 1) 0 ≡ n % 256 =
    sym (get_or-take 2 (drop at b) 1 0 (omega arith) ∙ get_or-drop at b 1 0) ∙ ap (λ (x : List ℕ). get_or x 1 0) e in
    omega arith

found : (b : List ℕ) (a : ℕ) (ps : List Patch) (i : ℕ) → ((j : ℕ) → j < length ps → get16 (number_at (i + j)) b ≡ (get_or ps j no_patch).accession)
    → first_from b a (length ps) i ≡ place_from a ps i
found b a [] i h = refl
found b a (p ∷ ps) i h =
    let e : i ≡ i + 0 = omega arith in
    let here : get16 (number_at i) b ≡ p.accession = ap (λ (n : ℕ). get16 (number_at n) b) e ∙ h 0 (omega arith) in
    let rest : (j : ℕ) → j < length ps → get16 (number_at (i + 1 + j)) b ≡ (get_or ps j no_patch).accession =
    λ j l. let q : i + 1 + j ≡ i + suc j = omega arith in ap (λ (n : ℕ). get16 (number_at n) b) q ∙ h (suc j) (omega arith) in
    ap (λ (y : ℕ). cond (eqb y a) (Some i) (first_from b a (length ps) (i + 1))) here
    ∙ ap (λ (r : Option ℕ). cond (eqb p.accession a) (Some i) r) (found b a ps (i + 1) rest)

pub found_place : (b : List ℕ) (a : ℕ) (ps : List Patch) → ((j : ℕ) → j < length ps → get16 (number_at j) b ≡ (get_or ps j no_patch).accession) → first_from b a (length ps) 0 ≡ place a ps
found_place b a ps h = found b a ps 0 (λ j l. let z : 0 + j ≡ j = omega arith in ap (λ (n : ℕ). get16 (number_at n) b) z ∙ h j l)

place_step : (v : Bool) (r : Option ℕ) (i n : ℕ) → (is_some r ≡ true → unwrap_or r 0 < i + 1 + n) → is_some (cond v (Some i) r) ≡ true → unwrap_or (cond v (Some i) r) 0 < i + suc n
place_step true r i n h e = omega arith
place_step false r i n h e = omega (arith, h e)

-- a place is that of a patch
pub place_below : (a : ℕ) (ps : List Patch) (i : ℕ) → is_some (place_from a ps i) ≡ true → unwrap_or (place_from a ps i) 0 < i + length ps
place_below a [] i e = absurd (both_ways false refl e)
place_below a (p ∷ ps) i e = place_step (eqb p.accession a) (place_from a ps (i + 1)) i (length ps) (place_below a ps (i + 1)) e

none_step : (v : Bool) (r : Option ℕ) (i : ℕ) → is_some (cond v (Some i) r) ≡ false → (v ≡ false) × (is_some r ≡ false)
none_step true r i e = absurd (both_ways true e refl)
none_step false r i e = (refl, e)

-- an accession number that has no place is not held
pub place_none : (a : ℕ) (ps : List Patch) (i : ℕ) → is_some (place_from a ps i) ≡ false → (j : ℕ) → j < length ps → (get_or ps j no_patch).accession ≡ a → ⊥
place_none a [] i e j h q = omega arith
place_none a (p ∷ ps) i e zero h q = both_ways (eqb p.accession a) (none_step (eqb p.accession a) (place_from a ps (i + 1)) i e).0 (eq-eqb p.accession a q)
place_none a (p ∷ ps) i e (suc j) h q = place_none a ps (i + 1) (none_step (eqb p.accession a) (place_from a ps (i + 1)) i e).1 j (omega arith) q
