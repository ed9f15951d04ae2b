-- Chains depend only on the channels there are: where two patches have the same channels, they have the same places and bounds.
use Rattle.std.proofs.Common.{◌≡◌, ℕ, ◌*◌, ◌<◌, Bool, cond, eqb, ltb, sym, ap, ◌∙◌, ap₂, arith}
use Rattle.refine.specs.Bounds.{Channel, Channels, gap, sooner, place, entry, entries, uppers}
use Rattle.refine.proofs.Lists.{passing_is, passing_same}
use Rattle.refine.proofs.Channels.{same_counting}

-- the test by which one channel is measured before another, on the channels themselves
abbrev before : (i j : ℕ) → Channel → Channel → Bool
before i j a b = cond (eqb (gap a) (gap b)) (ltb i j) (ltb (gap b) (gap a))

-- what a channel gives, by whether it is measured
abbrev given : Bool → Channel → ℕ
given v c = c.weight * cond v c.dist c.lower

module _ (m : ℕ) (cs cs' : Channels) (same : (c : ℕ) → c < m → cs c ≡ cs' c) where
  sooner_same : (i j : ℕ) → i < m → j < m → sooner cs i j ≡ sooner cs' i j
  sooner_same i j h g = ap₂ (before i j) (same i h) (same j g)

  pub place_same : (c : ℕ) → c < m → place m cs c ≡ place m cs' c
  place_same c h =
      passing_is (λ i. sooner cs i c) m 0
      ∙ passing_same (λ i. sooner cs i c) (λ i. sooner cs' i c) m 0 (λ i l g. sooner_same i c (omega arith) h)
      ∙ sym (passing_is (λ i. sooner cs' i c) m 0)

  entry_same : (t c : ℕ) → c < m → entry m cs t c ≡ entry m cs' t c
  entry_same t c h = ap₂ (λ (n : ℕ) (x : Channel). given (ltb n t) x) (place_same c h) (same c h)

  pub entries_same : (t : ℕ) → entries m cs t ≡ entries m cs' t
  entries_same t = same_counting (entry m cs t) (entry m cs' t) m (entry_same t)

  pub uppers_same : uppers m cs ≡ uppers m cs'
  uppers_same = same_counting _ _ m (λ c h. ap (λ (x : Channel). x.weight * x.upper) (same c h))
