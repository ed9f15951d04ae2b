-- Arrays filled channel by channel.
use Rattle.std.proofs.Common.{◌≡◌, ℕ, suc, ◌+◌, ◌-◌, ◌*◌, ◌<◌, ◌≤◌, cond, ◌≢◌, ◌⊎◌, List, map, length, get_or, take, set, sym, ap, ◌∙◌, subst, inl, inr, ⊎_elim, arith, below_more, le-ltb}
use native.Mathlib.Nat.{mul-sub}
use Rattle.std.specs.List.{range_with_len}
use Rattle.std.proofs.lemmas.Bool.{cases_lt, cases_eq}
use Rattle.std.proofs.lemmas.List.{get_or-set_same, get_or-set_other, get_or-take, get_or_past, length-take-le}
use Rattle.std.proofs.lemmas.List.FromFn.{fill_by_all, get_or-map-range_with_len, length-map-range_with_len}
use Rattle.aggregate.specs.Aggregates.{Entries}
use Rattle.refine.specs.Bounds.{Channels, place, entry, entries}
use Rattle.refine.proofs.Places.{one_entry}
use Rattle.engine.specs.Tables.{Tables, channels_of}
use Rattle.engine.specs.Order.{Gaps, InOrder}
use Rattle.engine.specs.Slots.{weighted_lower, weighted_upper, Filled}

pub filled_more : (f : ℕ → ℕ) (c : ℕ) (xs : List ℕ) (v : ℕ) → c < length xs → v ≡ f c → v ≤ 16711425 → Filled f c xs → Filled f (c + 1) (set xs c v)
filled_more f c xs v h e s was =
    below_more (λ k. (get_or (set xs c v) k 0 ≡ f k) × (get_or (set xs c v) k 0 ≤ 16711425)) c
    (λ k l.
    let ne : k ≢ c = omega arith in
    let o = get_or-set_other xs c k v 0 ne in
    (o ∙ (was k l).0, omega (arith, (was k l).1)))
    (let o = get_or-set_same xs c v 0 h in (o ∙ e, omega arith))

-- the first m as a list, and as what an aggregate may be asked about
pub filled_all : (f : ℕ → ℕ) (m : ℕ) (xs : List ℕ) → m ≤ length xs → Filled f m xs → take m xs ≡ map f (range_with_len 0 m)
filled_all f m xs h was = fill_by_all f (take m xs) m 0 (length-take-le m xs h) (λ k l. get_or-take m xs k 0 l ∙ (was k l).0)

pub filled_entries : (f : ℕ → ℕ) (m : ℕ) (xs : List ℕ) → 1 ≤ m → m ≤ 8 → m ≤ length xs → Filled f m xs → Entries (take m xs)
filled_entries f m xs some few h was =
    let n = length-take-le m xs h in
    record {
      some = omega arith;
      few = omega arith;
      small = λ k. ⊎_elim
          (λ l. omega (arith, get_or-take m xs k 0 l, (was k l).1))
          (λ l. omega (arith, get_or_past (take m xs) k 0 (omega arith)))
          (cases_lt k m);
    }

pub filled_same : (f g : ℕ → ℕ) (m : ℕ) (xs : List ℕ) → ((c : ℕ) → f c ≡ g c) → Filled f m xs → Filled g m xs
filled_same f g m xs e was c l = ((was c l).0 ∙ e c, (was c l).1)

-- with nothing measured, the entries are the weighted lower bounds
pub entry_none : (m : ℕ) (cs : Channels) (c : ℕ) → (cs c).weight * (cs c).lower ≡ entry m cs 0 c
entry_none m cs c = ap (λ b. (cs c).weight * cond b (cs c).dist (cs c).lower) (sym (le-ltb (place m cs c) 0 (omega arith)))

-- the first c of vs are us less ls, the others are those of us
abbrev pub Narrowed : (ls us vs : List ℕ) → ℕ → Type 0
Narrowed ls us vs c = ((k : ℕ) → k < c → get_or vs k 0 ≡ get_or us k 0 - get_or ls k 0) × ((k : ℕ) → c ≤ k → get_or vs k 0 ≡ get_or us k 0)

pub narrow_more : (ls us vs : List ℕ) (c v : ℕ) → c < length vs → v ≡ get_or vs c 0 - get_or ls c 0 → Narrowed ls us vs c → Narrowed ls us (set vs c v) (c + 1)
narrow_more ls us vs c v h e was = (
  below_more (λ k. get_or (set vs c v) k 0 ≡ get_or us k 0 - get_or ls k 0) c
      (λ k l. let ne : k ≢ c = omega arith in get_or-set_other vs c k v 0 ne ∙ was.0 k l)
      (get_or-set_same vs c v 0 h ∙ e ∙ ap (λ (x : ℕ). x - get_or ls c 0) (was.1 c (omega arith))),
  (λ k l. let ne : k ≢ c = omega arith in get_or-set_other vs c k v 0 ne ∙ was.1 k (omega arith)),
)

pub gaps_are : (t : Tables) (w : List ℕ) (i n : ℕ) (ls us vs : List ℕ) → Filled (weighted_lower t w i) n ls → Filled (weighted_upper t w i) n us
    → ((c : ℕ) → c < n → get_or vs c 0 ≡ get_or us c 0 - get_or ls c 0) → Gaps n (channels_of t w i) (take n vs)
gaps_are t w i n ls us vs l u v c h =
    let x = get_or w c 0 in
    get_or-take n vs c 0 h ∙ v c h ∙ ap (λ (a : ℕ). a - get_or ls c 0) (u c h).0 ∙ ap (λ (b : ℕ). x * t.upper i c - b) (l c h).0 ∙ sym (mul-sub x (t.upper i c) (t.lower i c))

pub in_order_at : (n m : ℕ) (gs order : List ℕ) → n ≡ m → ((cs : Channels) → Gaps n cs gs → InOrder n cs order) → (cs : Channels) → Gaps m cs gs → InOrder m cs order
in_order_at n m gs order e h = subst (λ (k : ℕ). (cs : Channels) → Gaps k cs gs → InOrder k cs order) e h

-- one channel more is measured, the one of place u
pub filled_next : (m : ℕ) (cs : Channels) (u u' c v : ℕ) (xs : List ℕ) → m ≤ length xs → c < m → place m cs c ≡ u → u' ≡ suc u → v ≡ (cs c).weight * (cs c).dist → v ≤ 16711425
    → Filled (entry m cs u) m xs → Filled (entry m cs u') m (set xs c v)
filled_next m cs u u' c v xs room h p e d s was = subst (λ (k : ℕ). Filled (entry m cs k) m (set xs c v)) (sym e) (λ n l. at n l (cases_eq n c))
  where
    one : (n : ℕ) → n < m → entry m cs (suc u) n ≡ get_or (set (entries m cs u) c ((cs c).weight * (cs c).dist)) n 0
    one n l = sym (get_or-map-range_with_len (entry m cs (suc u)) 0 m n n 0 l (omega arith)) ∙ ap (λ (ys : List ℕ). get_or ys n 0) (one_entry m cs u c h p)

    at : (n : ℕ) → n < m → (n ≡ c) ⊎ (n ≡ c → ⊥) → (get_or (set xs c v) n 0 ≡ entry m cs (suc u) n) × (get_or (set xs c v) n 0 ≤ 16711425)
    at n l (inl z) =
        let k = length-map-range_with_len (entry m cs u) 0 m in
        let a : get_or (set xs c v) n 0 ≡ v = ap (λ (j : ℕ). get_or (set xs c v) j 0) z ∙ get_or-set_same xs c v 0 (omega arith) in
        let b : get_or (set (entries m cs u) c ((cs c).weight * (cs c).dist)) n 0 ≡ (cs c).weight * (cs c).dist =
        ap (λ (j : ℕ). get_or (set (entries m cs u) c ((cs c).weight * (cs c).dist)) j 0) z ∙ get_or-set_same (entries m cs u) c ((cs c).weight * (cs c).dist) 0 (omega arith) in
        (a ∙ d ∙ sym b ∙ sym (one n l), omega arith)
    at n l (inr z) =
        let a = get_or-set_other xs c n v 0 z in
        let b = get_or-set_other (entries m cs u) c n ((cs c).weight * (cs c).dist) 0 z in
        let w = was n l in
        (a ∙ w.0 ∙ sym (get_or-map-range_with_len (entry m cs u) 0 m n n 0 l (omega arith)) ∙ sym b ∙ sym (one n l), omega (arith, w.1))
