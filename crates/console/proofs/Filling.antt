-- One read more into a buffer.
use Rattle.std.proofs.Common.{◌≡◌, ℕ, ◌+◌, ◌≤◌, List, ◌++◌, length, take, Option, Some, None, sym, ap, ◌∙◌, append_assoc, arith, rules}
use Rattle.std.proofs.lemmas.List.{places, same_lists}
use Rattle.std.specs.Io.KnownBytes.{Consumes}
use borrow.Rule.Slice.PartMut.{put_mid}

-- what two reads consume, one after the other
pub consumed : (r s t : Option (List ℕ)) (bs cs : List ℕ) → Consumes r s bs → Consumes s t cs → Consumes r t (bs ++ cs)
consumed None s t bs cs h k = tt
consumed (Some xs) None t bs cs h k = elim h [ ]
consumed (Some xs) (Some ys) None bs cs h k = elim k [ ]
consumed (Some xs) (Some ys) (Some zs) bs cs h k = h ∙ ap (λ (l : List ℕ). bs ++ l) k ∙ sym (append_assoc bs cs zs)

-- the bytes read are the first of what lies behind
pub filled : (a k n : ℕ) (xs ys : List ℕ) → a ≤ length xs → n ≤ length ys → take (a + n) (put_mid a k xs ys) ≡ take a xs ++ take n ys
filled a k n xs ys h l = same_lists _ _ (search (rules, places)) (λ j d q. grind (arith, places))
