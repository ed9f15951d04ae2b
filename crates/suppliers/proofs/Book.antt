-- What one more entry does to the record.
use Rattle.std.proofs.Common.{◌≡◌, ℕ, zero, suc, ◌<◌, List, [], ◌∷◌, length, get_or, set, replicate, sym, refl, ap, ◌∙◌, inl, inr, ⊎_elim, arith, get_or-set_other, get_or-set_same}
use lib.ListN.{get_or-replicate}
use Rattle.std.proofs.lemmas.List.{ext_get_or}
use Rattle.std.proofs.lemmas.Bool.{cases_eq}
use Rattle.metric.specs.Model.{Row, Adds}
use Rattle.suppliers.specs.Records.{Recorded, entry_of}

same_row : (x y : List ℕ) → length x ≡ 1 → length y ≡ 1 → get_or x 0 0 ≡ get_or y 0 0 → x ≡ y
same_row x y p q e = ext_get_or 0 x y (p ∙ sym q) (λ i h. let z : i ≡ 0 = omega arith in rw z e)

module _ (book a b : List ℕ) (n : ℕ) (r : Row 1 a) (s : Row 1 b) (at : n ≡ entry_of (get_or a 0 0) (get_or b 0 0)) where
  pub book_adds : Adds (Recorded book) (Recorded (set book n 1)) a b
  book_adds x y k = ⊎_elim
      (λ e. inr (
        same_row x a k.left.long r.long (omega (arith, k.left.bytes 0, k.right.bytes 0, r.bytes 0, s.bytes 0)),
        same_row y b k.right.long s.long (omega (arith, k.left.bytes 0, k.right.bytes 0, r.bytes 0, s.bytes 0)),
      ))
      (λ e. inl (record { left = k.left; right = k.right; entry = sym (get_or-set_other book n (entry_of (get_or x 0 0) (get_or y 0 0)) 1 0 e) ∙ k.entry }))
      (cases_eq (entry_of (get_or x 0 0) (get_or y 0 0)) n)

  pub book_has : length book ≡ 65536 → Recorded (set book n 1) a b
  book_has e = record { left = r; right = s; entry = rw (← at) (get_or-set_same book n 1 0 (omega (arith, r.bytes 0, s.bytes 0))) }

pub one_byte : (v : ℕ) → v < 256 → Row 1 (v ∷ [])
one_byte v h = record { long = refl; bytes = at_most }
  where
    at_most : (k : ℕ) → get_or (v ∷ []) k 0 < 256
    at_most zero = h
    at_most (suc k) = omega arith

-- a new record has no entry
pub none_recorded : (book a b : List ℕ) → book ≡ replicate 65536 0 → Recorded book a b → ⊥
none_recorded book a b e k =
    let z = get_or-replicate {A = ℕ} 65536 (entry_of (get_or a 0 0) (get_or b 0 0)) 0 0 (omega (arith, k.left.bytes 0, k.right.bytes 0)) in
    omega (arith, z, ap (λ (l : List ℕ). get_or l (entry_of (get_or a 0 0) (get_or b 0 0)) 0) e, k.entry)
