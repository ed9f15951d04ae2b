-- Numbers at the front of bytes.
use Rattle.std.proofs.Common.{◌≡◌, ℕ, ◌+◌, ◌-◌, ◌*◌, ◌/◌, ◌%◌, ◌<◌, ◌≤◌, List, [], ◌∷◌, ◌++◌, length, get_or, take, drop, sym, ap, arith, length-drop, take_all}
use Rattle.big_endian.specs.Numbers.{be16}

-- what code cuts off behind the first n
rest : (n : ℕ) (xs : List ℕ) → take (length xs - n) (drop n xs) ≡ drop n xs
rest n xs = take_all (length xs - n) (drop n xs) (omega (arith, length-drop n xs))

rest_length : (n : ℕ) (xs : List ℕ) → n ≤ length xs → length xs ≡ n + length (take (length xs - n) (drop n xs))
rest_length n xs h = omega (arith, ap length (rest n xs), length-drop n xs)

pub one : (xs : List ℕ) → 1 ≤ length xs → (xs ≡ get_or xs 0 0 ∷ take (length xs - 1) (drop 1 xs)) × (length xs ≡ 1 + length (take (length xs - 1) (drop 1 xs)))
one [] h = absurd (omega arith)
one (x ∷ xs) h = (ap (λ (l : List ℕ). x ∷ l) (sym (rest 1 (x ∷ xs))), rest_length 1 (x ∷ xs) h)

pub two : (xs : List ℕ) (n : ℕ) → 2 ≤ length xs → ((k : ℕ) → get_or xs k 0 < 256) → n ≡ get_or xs 0 0 * 256 + get_or xs 1 0
    → (xs ≡ be16 n ++ take (length xs - 2) (drop 2 xs)) × (length xs ≡ 2 + length (take (length xs - 2) (drop 2 xs)))
two [] n h b e = absurd (omega arith)
two (x ∷ []) n h b e = absurd (omega arith)
two (x ∷ y ∷ xs) n h b e =
    let p : x ≡ n / 256 = omega (arith, b 0, b 1, e) in
    let q : y ≡ n % 256 = omega (arith, b 0, b 1, e) in
    let r = rest 2 (x ∷ y ∷ xs) in
    (cc, rest_length 2 (x ∷ y ∷ xs) h)
