-- A run over stand-ins (slots, say) is a run over what they stand for.
use Rattle.std.proofs.Common.{◌≡◌, ℕ, Bool, true, false, List, ◌∷◌, map, sym, ap, ◌∙◌, subst, ap₂, arith}
use Rattle.std.specs.List.{AllByRecursion as Every}
use Rattle.std.proofs.lemmas.List.{length-map, map_push}
use Rattle.std.proofs.ByRecursion.{All-map, All-weaker}
use Rattle.refine.specs.Chains.{Table}
use Rattle.refine.specs.Steps.{Candidate, State, on, key_now, Chosen, Move, full, dry, names, halts, measures, Runs, finishes, stops, goes}
use Rattle.refine.specs.Theorems.{image}
use Rattle.refine.proofs.Reorders.{reordered, shuffled, perm_all, perm_map}
use Rattle.refine.proofs.Lists.{all_both}
use Rattle.refine.proofs.Run.{picked}

module _ {A B K : Type 0} (f : A → B) (y : Table B K) (key : A → ℕ → K) where
  -- the stand-ins' table, with keys of its own
  abbrev pub back : Table A K
  back = record { ord = y.ord; key = key; m = y.m; within = y.within }

  abbrev pub image_of : Candidate A → Candidate B
  image_of c = record { patch = f c.patch; t = c.t }

  -- the keys agree
  abbrev pub Agree : Candidate A → Type 0
  Agree c = (t : ℕ) → key c.patch t ≡ y.key (f c.patch) t

  within_same : (c : Candidate A) (b : Bool) → Agree c → y.within (key_now back c) ≡ b → y.within (key_now y (image_of c)) ≡ b
  within_same c b a h = ap y.within (sym (a c.t)) ∙ h

  le_same : (c d : Candidate A) → Agree c → Agree d → y.ord.le (key_now back c) (key_now back d) ≡ true → y.ord.le (key_now y (image_of c)) (key_now y (image_of d)) ≡ true
  le_same c d a e h = ap₂ y.ord.le (sym (a c.t)) (sym (e d.t)) ∙ h

  least_same : (c : Candidate A) (rest : List (Candidate A)) → Every Agree (c ∷ rest) → Every (λ d. y.ord.le (key_now back c) (key_now back d) ≡ true) rest
      → Every (λ d. y.ord.le (key_now y (image_of c)) (key_now y d) ≡ true) (map image_of rest)
  least_same c rest a h = All-map _ image_of rest (All-weaker _ _ (λ d g. le_same c d a.0 g.0 g.1) rest (all_both _ _ rest a.1 h))

  chosen_same : (s : State A) (c : Candidate A) (rest : List (Candidate A)) → Every Agree (c ∷ rest) → Chosen back s c rest → Chosen y (image f s) (image_of c) (map image_of rest)
  chosen_same s c rest a h = record { among = shuffled (perm_map image_of (reordered h.among)); first = least_same c rest a h.first }

  module _ (k N : ℕ) where
    pub runs_image : (s : State A) {b : Bool} {e : State A} → Every Agree s.live → Runs back k N s b e → Runs y k N (image f s) b (image f e)
    runs_image s a (finishes (full h)) = finishes (full (omega (arith, length-map s.named f)))
    runs_image s a (finishes (dry h)) = finishes (dry (All-map _ image_of s.live (All-weaker _ _ (λ c g. within_same c false g.0 g.1) s.live (all_both _ _ s.live a h))))
    runs_image s a (stops (halts c rest z l w t b)) =
        let a' = perm_all Agree (picked back z) a in
        stops (halts (image_of c) (map image_of rest) (chosen_same s c rest a' z) (omega (arith, length-map s.named f)) (within_same c true a'.0 w) t b)
    runs_image s a (goes {s' = s'} (names c rest z l w t) r) =
        let a' = perm_all Agree (picked back z) a in
        goes (subst (λ v. Move y k N (image f s) (on (record { live = map image_of rest; named = v; measured = s.measured }))) (sym (map_push f s.named c.patch))
        (names (image_of c) (map image_of rest) (chosen_same s c rest a' z) (omega (arith, length-map s.named f)) (within_same c true a'.0 w) t))
        (runs_image s' a'.1 r)
    runs_image s a (goes {s' = s'} (measures c rest z l w t b) r) =
        let a' = perm_all Agree (picked back z) a in
        goes (measures (image_of c) (map image_of rest) (chosen_same s c rest a' z) (omega (arith, length-map s.named f)) (within_same c true a'.0 w) t b)
        (runs_image s' (a'.0, a'.1) r)
