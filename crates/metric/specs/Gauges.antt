-- The three distances of bytes, and the laws of the four built metrics.
use Rattle.std.specs.Prelude.{◌≡◌, ℕ, zero, suc, ◌+◌, ◌/◌, ◌%◌, ◌^◌, ◌<◌, ◌≤◌, bit_xor, count_ones}
use Rattle.std.proofs.Common.{sym, ap, ◌∙◌, add-one, arith}
use Rattle.std.proofs.Math.Arith.{lt-one}
use Rattle.std.specs.Int.Bits.{xor_add_and, xor_zero_l, xor_self, xor_assoc}
use Rattle.std.specs.Int.Count.{ones_step, ones-ones}
use Rattle.std.proofs.lemmas.Nat.{shr_below, xor_shr, xor_mod, xor_comm, xor_lt, ones-le}
use Rattle.metric.specs.Model.{Lawful}
use Rattle.metric.specs.Distances.{difference, differing_bits, shorter_way, city_block, hamming, circular, chebyshev}
use Rattle.metric.specs.Gathered.{Gauge, by_sum, by_max, sum_topped, max_topped, gathered_lawful}

pub difference_gauge : Gauge difference 255
difference_gauge = record {
  same = λ x h. omega arith;
  symmetric = λ x y h k. omega arith;
  triangle = λ x y z h k l. omega arith;
  bounded = λ x y h k. omega arith;
}

-- two words together have all the ones of their exclusive or
ones_xor : (k a b : ℕ) → a < 2 ^ k → count_ones (bit_xor a b) ≤ count_ones a + count_ones b
ones_xor zero a b h =
    let e : bit_xor a b ≡ b = ap (λ (n : ℕ). bit_xor n b) (lt-one h) ∙ xor_zero_l b in
    omega (arith, ap count_ones e)
ones_xor (suc k) a b h =
    omega (arith, ones_step (bit_xor a b), ap count_ones (xor_shr a b 1), xor_mod a b 1, xor_add_and (a % 2) (b % 2), ones_step a, ones_step b, ones_xor k (a / 2) (b / 2) (shr_below a k 1 (rw add-one h)))

-- over y and back
xor_over : (x y z : ℕ) → bit_xor (bit_xor x y) (bit_xor y z) ≡ bit_xor x z
xor_over x y z =
    xor_assoc x y (bit_xor y z)
    ∙ ap (bit_xor x) (sym (xor_assoc y y z) ∙ ap (λ (n : ℕ). bit_xor n z) (xor_self y) ∙ xor_zero_l z)

pub differing_bits_gauge : Gauge differing_bits 8
differing_bits_gauge = record {
  same = λ x h. ap count_ones (xor_self x) ∙ ones-ones 0;
  symmetric = λ x y h k. ap count_ones (xor_comm x y);
  triangle = λ x y z h k l.
      omega (arith, ap count_ones (xor_over x y z), ones_xor 8 (bit_xor x y) (bit_xor y z) (xor_lt 8 x y h k));
  bounded = λ x y h k. ones-le 8 (bit_xor x y) (xor_lt 8 x y h k);
}

pub shorter_way_gauge : Gauge shorter_way 128
shorter_way_gauge = record {
  same = λ x h. omega arith;
  symmetric = λ x y h k. omega arith;
  triangle = λ x y z h k l. omega arith;
  bounded = λ x y h k. omega arith;
}

-- the laws, at the width last + 1
pub city_block_lawful : (last : ℕ) → last ≤ 255 → Lawful (city_block (last + 1))
city_block_lawful = gathered_lawful by_sum sum_topped difference_gauge (omega arith)

pub hamming_lawful : (last : ℕ) → last ≤ 255 → Lawful (hamming (last + 1))
hamming_lawful = gathered_lawful by_sum sum_topped differing_bits_gauge (omega arith)

pub circular_lawful : (last : ℕ) → last ≤ 255 → Lawful (circular (last + 1))
circular_lawful = gathered_lawful by_sum sum_topped shorter_way_gauge (omega arith)

pub chebyshev_lawful : (last : ℕ) → last ≤ 255 → Lawful (chebyshev (last + 1))
chebyshev_lawful = gathered_lawful by_max max_topped difference_gauge (omega arith)
