-- Commands in front of an input.
use Rattle.std.proofs.Common.{◌≡◌, ℕ, ◌+◌, ◌*◌, ◌/◌, ◌%◌, ◌≤◌, cond, eqb, List, [], ◌∷◌, ◌++◌, length, get_or, take, drop, Some, None, Ok, Err, Option, Result, unwrap_or, sym, refl, ap, ◌∙◌, append_assoc, arith, length-append, le-ltb}
use lib.Seq.{take-append_seam, drop-append_seam}
use Rattle.big_endian.specs.Numbers.{be16, be32}
use Rattle.refusal.specs.declared.Refusal.{Refusal}
use Rattle.command.specs.declared.format.Format.{Format}
use Rattle.command.specs.declared.Command.{Command}
use Rattle.command.specs.Commands.{Instruction, insert, remove, add_pivot, remove_pivot, nearest, encode, Fits, meant, cut, read_refusal, Next, Exact}

-- a decoder, to tell that no two commands are written alike
get16 : List ℕ → ℕ
get16 l = get_or l 0 0 * 256 + get_or l 1 0

get32 : List ℕ → ℕ
get32 l = get16 l * 65536 + get16 (drop 2 l)

with_limits : Format → ℕ → (ws l : List ℕ) → Option (Instruction × List ℕ)
with_limits f g ws l = Some (nearest g ws (get16 l) (get32 (drop 2 l)) (get32 (drop 6 l)) (take f.rows (drop 10 l)), drop f.rows (drop 10 l))

decode : Format → List ℕ → Option (Instruction × List ℕ)
decode f [] = None
decode f (byte ∷ l) =
    cond (eqb byte 0x4c) (Some (insert (get16 l) (take f.rows (drop 2 l)), drop f.rows (drop 2 l)))
    (cond (eqb byte 0x55) (Some (remove (get16 l), drop 2 l))
    (cond (eqb byte 0x50) (Some (add_pivot (get_or l 0 0) (get16 (drop 1 l)), drop 3 l))
    (cond (eqb byte 0x52) (Some (remove_pivot (get_or l 0 0) (get_or l 1 0), drop 2 l))
    (with_limits f (get_or l 0 0) (take f.weights (drop 1 l)) (drop f.weights (drop 1 l))))))

front : (n : ℕ) (xs ys : List ℕ) → length xs ≡ n → take n (xs ++ ys) ≡ xs
front n xs ys e = rw (← e) (take-append_seam xs ys)

back : (n : ℕ) (xs ys : List ℕ) → length xs ≡ n → drop n (xs ++ ys) ≡ ys
back n xs ys e = rw (← e) (drop-append_seam xs ys)

number16 : (n : ℕ) → n / 256 * 256 + n % 256 ≡ n
number16 n = omega arith

number32 : (n : ℕ) → (n / 65536 / 256 * 256 + n / 65536 % 256) * 65536 + (n % 65536 / 256 * 256 + n % 65536 % 256) ≡ n
number32 n = omega arith

limits_decoded : (f : Format) (g : ℕ) (ws : List ℕ) (k r b : ℕ) (rows rest : List ℕ) → length rows ≡ f.rows
    → with_limits f g ws ((be16 k ++ (be32 r ++ (be32 b ++ rows))) ++ rest) ≡ Some (nearest g ws k r b rows, rest)
unfolding get16 get32 with_limits
limits_decoded f g ws k r b rows rest e =
    λ j. Some (nearest g ws (number16 k j) (number32 r j) (number32 b j) (front f.rows rows rest e j), back f.rows rows rest e j)

decoded : (f : Format) (i : Instruction) (rest : List ℕ) → Fits f i → decode f (encode i ++ rest) ≡ Some (i, rest)
unfolding decode get16 get32 with_limits
decoded f (insert a rows) rest h = λ j. Some (insert (number16 a j) (front f.rows rows rest h.1 j), back f.rows rows rest h.1 j)
decoded f (remove a) rest h = λ j. Some (remove (number16 a j), rest)
decoded f (add_pivot c a) rest h = λ j. Some (add_pivot c (number16 a j), rest)
decoded f (remove_pivot c p) rest h = refl
decoded f (nearest g ws k r b rows) rest h =
    let x = be16 k ++ (be32 r ++ (be32 b ++ rows)) in
    ap (λ (y : List ℕ). with_limits f g (take f.weights y) (drop f.weights y)) (append_assoc ws x rest)
    ∙ ap (λ (y : List ℕ). with_limits f g y (drop f.weights (ws ++ (x ++ rest)))) (front f.weights ws (x ++ rest) h.1)
    ∙ ap (λ (y : List ℕ). with_limits f g ws y) (back f.weights ws (x ++ rest) h.1)
    ∙ limits_decoded f g ws k r b rows rest h.5

-- a command in front of an input can be read
uncut : (bytes : List ℕ) (n : ℕ) → n ≤ length bytes → cut bytes (Some n) ≡ None
uncut bytes n h = rw (le-ltb (length bytes) n h)

unrefused : (f : Format) (i : Instruction) (rest : List ℕ) → Fits f i → read_refusal f (encode i ++ rest) ≡ None
unrefused f (insert a rows) rest h = uncut (be16 a ++ rows ++ rest) (2 + f.rows) (omega (arith, length-append rows rest, h.1))
unrefused f (remove a) rest h = uncut (be16 a ++ rest) 2 (omega arith)
unrefused f (add_pivot c a) rest h = uncut (c ∷ (be16 a ++ rest)) 3 (omega arith)
unrefused f (remove_pivot c p) rest h = uncut (c ∷ (p ∷ rest)) 2 (omega arith)
unrefused f (nearest g ws k r b rows) rest h =
    let x = be16 k ++ (be32 r ++ (be32 b ++ rows)) in
    uncut (g ∷ (ws ++ x ++ rest)) (11 + f.weights + f.rows) (omega (arith, length-append (ws ++ x) rest, length-append ws x, h.1, h.5))

-- no two commands are written alike
unique : (f : Format) (i j : Instruction) (a b : List ℕ) → Fits f i → Fits f j → encode i ++ a ≡ encode j ++ b → (i ≡ j) × (a ≡ b)
unique f i j a b h k e =
    let d = sym (decoded f i a h) ∙ ap (decode f) e ∙ decoded f j b k in
    (ap (λ (o : Option (Instruction × List ℕ)). (unwrap_or o (i, a)).0) d, ap (λ (o : Option (Instruction × List ℕ)). (unwrap_or o (i, a)).1) d)

-- so a reader that reads what stands in front reads exactly
pub exact : (f : Format) (before after : List ℕ) (r : Result (Option Command) Refusal) → Next f before after r → Exact f before after r
exact f before after (Ok None) n i rest h e = absurd (not_empty i rest (sym e ∙ n.0))
  where
    not_empty : (i : Instruction) (rest : List ℕ) → encode i ++ rest ≡ [] → ⊥
    not_empty (insert a rows) rest e = omega (arith, ap length e)
    not_empty (remove a) rest e = omega (arith, ap length e)
    not_empty (add_pivot c a) rest e = omega (arith, ap length e)
    not_empty (remove_pivot c p) rest e = omega (arith, ap length e)
    not_empty (nearest g ws k r b rows) rest e = omega (arith, ap length e)
exact f before after (Ok (Some c)) n i rest h e = unique f (meant c) i after rest n.1 h (sym n.0 ∙ e)
exact f before after (Err x) n i rest h e =
    let p : Some x ≡ None = sym n.0 ∙ ap (read_refusal f) e ∙ unrefused f i rest h in
    let z : ◌≡◌ {A = ℕ} 0 1 = cc in absurd (omega arith)
