-- The table of weighted distances, filled channel by channel.
use Rattle.std.proofs.Common.{◌≡◌, ℕ, ◌+◌, ◌-◌, ◌<◌, ◌≤◌, ◌≢◌, List, map, length, get_or, take, set, sym, ap, ◌∙◌, inl, inr, ⊎_elim, arith, length-take, get_or-set_other, get_or-take, get_or-set_same, below_more}
use Rattle.std.specs.List.{range_with_len}
use Rattle.std.proofs.lemmas.Bool.{cases_eq, cases_lt}
use Rattle.std.proofs.lemmas.List.{get_or_past}
use Rattle.std.proofs.lemmas.List.FromFn.{fill_by_all}
use Rattle.aggregate.specs.Aggregates.{Entries}
use Rattle.metric.specs.Model.{Model}
use Rattle.metric.specs.Channels.{Asked, AddsAt}
use Rattle.patch.specs.Patches.{row, AddsRows}

pub table_more : (f : ℕ → ℕ) (table : List ℕ) (c v : ℕ) → c < length table → v ≡ f c → ((k : ℕ) → k < c → get_or table k 0 ≡ f k)
    → (k : ℕ) → k < c + 1 → get_or (set table c v) k 0 ≡ f k
table_more f table c v h e t =
    below_more _ _ (λ k l. let ne : k ≢ c = omega arith in get_or-set_other table c k v 0 ne ∙ t k l) (get_or-set_same table c v 0 h ∙ e)

pub table_small : (m : ℕ) (table : List ℕ) (c v : ℕ) → c < length table → v ≤ m → ((k : ℕ) → get_or table k 0 ≤ m) → (k : ℕ) → get_or (set table c v) k 0 ≤ m
table_small m table c v h e t k = ⊎_elim
    (λ z. omega (arith, get_or-set_same table c v 0 h, ap (λ (j : ℕ). get_or (set table c v) j 0) z))
    (λ z. omega (arith, get_or-set_other table c k v 0 z, t k))
    (cases_eq k c)

-- the first n are what an aggregate may be asked about
pub table_entries : (n : ℕ) (table : List ℕ) → 1 ≤ n → n ≤ 8 → length table ≡ 8 → ((k : ℕ) → get_or table k 0 ≤ 16711425) → Entries (take (n - 0) table)
table_entries n table some few long small =
    let e : n - 0 ≡ n = omega arith in
    rw e (record {
      some = omega (arith, length-take n table);
      few = omega (arith, length-take n table);
      small = λ k. ⊎_elim
          (λ h. omega (arith, get_or-take n table k 0 h, small k))
          (λ h. omega (arith, get_or_past (take n table) k 0 (omega (arith, length-take n table))))
          (cases_lt k n);
    })

pub table_all : (f : ℕ → ℕ) (n m : ℕ) (table : List ℕ) → n ≡ m → n ≤ length table → ((k : ℕ) → k < n → get_or table k 0 ≡ f k) → take (n - 0) table ≡ map f (range_with_len 0 m)
table_all f n m table e h t =
    let z : n - 0 ≡ n = omega arith in
    rw (z, ← e) (fill_by_all f (take n table) n 0 (omega (arith, length-take n table)) (λ k l. get_or-take n table k 0 l ∙ t k l))

-- one channel more is asked
pub rows_more : (before mid after : Asked) (ms : List Model) (c : ℕ) (q o : List ℕ) → AddsRows before mid ms c q o → AddsAt mid after c (row ms c q) (row ms c o) → AddsRows before after ms (c + 1) q o
rows_more before mid after ms c q o h e k x y t =
    ⊎_elim
    (λ u. ⊎_elim inl (λ v. inr (omega (arith, v.0), v.1, v.2)) (h k x y u))
    (λ v. inr (omega (arith, v.0), v.1 ∙ ap (λ (j : ℕ). row ms j q) (sym v.0), v.2 ∙ ap (λ (j : ℕ). row ms j o) (sym v.0)))
    (e k x y t)
