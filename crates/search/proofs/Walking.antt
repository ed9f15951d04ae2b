-- The bounds from one pivot more.
use Rattle.std.proofs.Common.{◌≡◌, ℕ, zero, suc, ◌+◌, ◌≤◌, min, max, map, add-one, arith}
use Rattle.std.specs.List.{range_with_len}
use Rattle.metric.specs.Distances.{difference}
use Rattle.refine.specs.Bounds.{lower_of, upper_of}

module _ (f g : ℕ → ℕ) where
  lower_suc : (a n j : ℕ) → a + n ≡ j
      → lower_of (map f (range_with_len a (suc n))) (map g (range_with_len a (suc n))) ≡ max (lower_of (map f (range_with_len a n)) (map g (range_with_len a n))) (difference (f j) (g j))
  lower_suc a zero j e = let z : a ≡ j = omega arith in rw z (omega arith)
  lower_suc a (suc n) j e = let m = lower_suc (a + 1) n j (omega arith) in omega arith

  upper_suc : (top a n j : ℕ) → a + n ≡ j
      → upper_of top (map f (range_with_len a (suc n))) (map g (range_with_len a (suc n))) ≡ min (f j + g j) (upper_of top (map f (range_with_len a n)) (map g (range_with_len a n)))
  upper_suc top a zero j e = let z : a ≡ j = omega arith in rw z (omega arith)
  upper_suc top a (suc n) j e = let m = upper_suc top (a + 1) n j (omega arith) in omega arith

  upper_top : (top a n : ℕ) → upper_of top (map f (range_with_len a n)) (map g (range_with_len a n)) ≤ top
  upper_top top a zero = omega arith
  upper_top top a (suc n) = let m = upper_top top (a + 1) n in omega arith

  pub lower_more : (n lower least r : ℕ) → lower ≡ lower_of (map f (range_with_len 0 n)) (map g (range_with_len 0 n)) → least ≡ difference (f n) (g n)
      → r ≡ max lower least → r ≡ lower_of (map f (range_with_len 0 (n + 1))) (map g (range_with_len 0 (n + 1)))
  lower_more n lower least r e d m = rw (add-one n) (let s = lower_suc 0 n n (omega arith) in omega arith)

  pub upper_more : (top n upper most r : ℕ) → top ≤ 65535 → upper ≡ upper_of top (map f (range_with_len 0 n)) (map g (range_with_len 0 n)) → most ≡ min (f n + g n) 65535
      → r ≡ min upper most → r ≡ upper_of top (map f (range_with_len 0 (n + 1))) (map g (range_with_len 0 (n + 1)))
  upper_more top n upper most r t e d m = rw (add-one n) (let s = upper_suc top 0 n n (omega arith) in let z = upper_top top 0 n in omega arith)
