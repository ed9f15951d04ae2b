-- A distance lies between its bounds; chains from such channels rise to the aggregated distance.
use Rattle.std.proofs.Common.{◌≡◌, ℕ, zero, suc, ◌+◌, ◌*◌, ◌<◌, ◌≤◌, Bool, true, false, cond, ltb, ◌⊎◌, List, [], ◌∷◌, map, get_or, sym, refl, ap, ◌∙◌, inl, inr, mul-le-mul_left, arith, ltb-true, lt-ltb}
use Rattle.std.specs.List.{range_with_len, AllByRecursion as Every}
use Rattle.std.proofs.lemmas.Nat.{mul-le}
use Rattle.std.proofs.lemmas.List.FromFn.{length-map-range_with_len, get_or-map-range_with_len}
use Rattle.std.proofs.ByRecursion.{All-weaker}
use Rattle.std.proofs.lemmas.List.{get_or_past}
use Rattle.std.proofs.lemmas.Bool.{cases_lt}
use Rattle.aggregate.specs.Aggregates.{Entries, Raised, LawfulAggregate}
use Rattle.refine.specs.Bounds.{Channel, Channels, Bracketed, place, entry, entries, dists, uppers}
use Rattle.refine.specs.Searches.{BetweenBounds, ChannelsToChains}
use Rattle.refine.proofs.Lists.{map_same}
use Rattle.refine.proofs.Places.{place_lt}

-- the one place where the laws of a metric are used
pub between_bounds : BetweenBounds
between_bounds m symmetric triangle bounded q o r s [] a = (omega arith, bounded q o r s)
between_bounds m symmetric triangle bounded q o r s (p ∷ ps) a =
    let ih = between_bounds m symmetric triangle bounded q o r s ps a.1 in
    let t = a.0 in (
      omega (arith, ih.0, triangle q o p r s t, triangle p q o t r s, symmetric p q t r, symmetric o p s t),
      omega (arith, ih.1, triangle q p o r t s),
    )

-- ---- lists by channel

pub all_counting : (P : ℕ → Type 0) (a n : ℕ) → ((c : ℕ) → a ≤ c → c < a + n → P c) → Every P (range_with_len a n)
all_counting P a zero h = tt
all_counting P a (suc n) h = (h a (omega arith) (omega arith), all_counting P (a + 1) n (λ c l g. h c (omega arith) (omega arith)))

-- two functions that agree on the channels give one list
pub same_counting : (f g : ℕ → ℕ) (m : ℕ) → ((c : ℕ) → c < m → f c ≡ g c) → map f (range_with_len 0 m) ≡ map g (range_with_len 0 m)
same_counting f g m h = map_same f g (range_with_len 0 m) (all_counting _ 0 m (λ c l i. h c (omega arith)))

module _ (m : ℕ) where
  here : (f : ℕ → ℕ) (k : ℕ) → k < m → get_or (map f (range_with_len 0 m)) k 0 ≡ f k
  here f k h = get_or-map-range_with_len f 0 m k k 0 h (omega arith)

  beyond : (f : ℕ → ℕ) (k : ℕ) → m ≤ k → get_or (map f (range_with_len 0 m)) k 0 ≡ 0
  beyond f k h = get_or_past (map f (range_with_len 0 m)) k 0 (omega (arith, length-map-range_with_len f 0 m))

  pub asked : 1 ≤ m → m ≤ 8 → (f : ℕ → ℕ) → ((c : ℕ) → c < m → f c ≤ 16711425) → Entries (map f (range_with_len 0 m))
  asked some few f h = record {
    some = omega (arith, length-map-range_with_len f 0 m);
    few = omega (arith, length-map-range_with_len f 0 m);
    small = λ k. at k (cases_lt k m);
  }
    where
      at : (k : ℕ) → (k < m) ⊎ (m ≤ k) → get_or (map f (range_with_len 0 m)) k 0 ≤ 16711425
      at k (inl l) = let g = h k l in omega (arith, here f k l)
      at k (inr l) = omega (arith, beyond f k l)

  pub raised : (f g : ℕ → ℕ) → ((c : ℕ) → c < m → f c ≤ g c) → Raised (map f (range_with_len 0 m)) (map g (range_with_len 0 m))
  raised f g h = record { long = length-map-range_with_len f 0 m ∙ sym (length-map-range_with_len g 0 m); up = λ k. at k (cases_lt k m) }
    where
      at : (k : ℕ) → (k < m) ⊎ (m ≤ k) → get_or (map f (range_with_len 0 m)) k 0 ≤ get_or (map g (range_with_len 0 m)) k 0
      at k (inl l) = let i = h k l in omega (arith, here f k l, here g k l)
      at k (inr l) = omega (arith, beyond f k l, beyond g k l)

-- ---- one channel

module _ (c : Channel) (b : Bracketed c) where
  choice_up : (p t : ℕ) → cond (ltb p t) c.dist c.lower ≤ cond (ltb p (suc t)) c.dist c.lower
  choice_up p t = go (ltb p t) refl
    where
      pick : (v : Bool) → c.lower ≤ cond v c.dist c.lower
      pick true = b.lower
      pick false = omega arith

      go : (v : Bool) → ltb p t ≡ v → cond v c.dist c.lower ≤ cond (ltb p (suc t)) c.dist c.lower
      go true e = rw (lt-ltb p (suc t) (let f = ltb-true p t e in omega arith)) (omega arith)
      go false e = pick (ltb p (suc t))

  choice_under : (v : Bool) → cond v c.dist c.lower ≤ c.upper
  choice_under true = b.upper
  choice_under false = omega (arith, b.lower, b.upper)

  upper_small : c.weight * c.upper ≤ 16711425
  upper_small = mul-le c.weight c.upper 255 65535 b.weight b.small

-- ---- the chain

module _ (aggregate : List ℕ → ℕ) (law : LawfulAggregate aggregate) (m : ℕ) (some : 1 ≤ m) (few : m ≤ 8) (cs : Channels) (all : (c : ℕ) → c < m → Bracketed (cs c)) where
  entry_under : (t c : ℕ) → c < m → entry m cs t c ≤ (cs c).weight * (cs c).upper
  entry_under t c h = mul-le-mul_left (cs c).weight (choice_under (cs c) (all c h) (ltb (place m cs c) t))

  entries_asked : (t : ℕ) → Entries (entries m cs t)
  entries_asked t = asked m some few (entry m cs t) (λ c h. let u = entry_under t c h in let s = upper_small (cs c) (all c h) in omega arith)

  pub dists_asked : Entries (dists m cs)
  dists_asked = asked m some few (λ c. (cs c).weight * (cs c).dist) (λ c h. let u = mul-le-mul_left (cs c).weight (all c h).upper in let s = upper_small (cs c) (all c h) in omega arith)

  uppers_asked : Entries (uppers m cs)
  uppers_asked = asked m some few (λ c. (cs c).weight * (cs c).upper) (λ c h. upper_small (cs c) (all c h))

  chain_rises : (t : ℕ) → aggregate (entries m cs t) ≤ aggregate (entries m cs (suc t))
  chain_rises t = law.monotone (entries m cs t) (entries m cs (suc t)) (entries_asked t) (entries_asked (suc t))
      (raised m (entry m cs t) (entry m cs (suc t)) (λ c h. mul-le-mul_left (cs c).weight (choice_up (cs c) (all c h) (place m cs c) t)))

  chain_ends : entries m cs m ≡ dists m cs
  chain_ends = same_counting (entry m cs m) (λ c. (cs c).weight * (cs c).dist) m
      (λ c h. ap (λ b. (cs c).weight * cond b (cs c).dist (cs c).lower) (lt-ltb (place m cs c) m (place_lt m cs c h)))

  above_end : aggregate (dists m cs) ≤ aggregate (uppers m cs)
  above_end = law.monotone (dists m cs) (uppers m cs) dists_asked uppers_asked
      (raised m (λ c. (cs c).weight * (cs c).dist) (λ c. (cs c).weight * (cs c).upper) (λ c h. mul-le-mul_left (cs c).weight (all c h).upper))

pub channels_to_chains : (A I : Type 0) → ChannelsToChains A I
channels_to_chains A I ids id aggregate m channels l law some few all distinct = (
  record {
    rising = All-weaker _ _ (λ a b t h. chain_rises aggregate law m some few (channels a) b t) l all;
    above = All-weaker _ _ (λ a b. (let e = ap aggregate (chain_ends aggregate law m some few (channels a) b) in let u = above_end aggregate law m some few (channels a) b in omega arith)) l all;
    distinct = distinct;
  },
  All-weaker _ _ (λ a b. ap aggregate (chain_ends aggregate law m some few (channels a) b)) l all,
)
