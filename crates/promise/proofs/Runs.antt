-- A run over the slots of a store is a search of the index: what is named there, and how many are admitted.
use Rattle.std.proofs.Common.{◌≡◌, ℕ, ◌<◌, Bool, List, map, length, take, filter, sym, ap, ◌∙◌, subst, arith}
use Rattle.std.specs.List.{AllByRecursion as Every}
use Rattle.std.proofs.ByRecursion.{All-weaker, All-map, all_kept_by, All-get_or}
use Rattle.std.proofs.lemmas.List.{length-map, take_at}
use Rattle.metric.specs.Model.{Model}
use Rattle.metric.specs.Channels.{Asked, AllLawful}
use Rattle.patch.specs.Patches.{Patch}
use Rattle.refine.specs.Chains.{Family, distance, table, admitted}
use Rattle.refine.specs.Steps.{Candidate, State, begin, Runs}
use Rattle.refine.specs.Theorems.{image}
use Rattle.refine.specs.Questions.{Question, distance_to, neighbor, family, refined}
use Rattle.refine.specs.Searches.{Search}
use Rattle.refine.proofs.Channels.{all_counting}
use Rattle.refine.proofs.Stands.{stand_ins_run}
use Rattle.refine.proofs.Takes.{named_all}
use Rattle.index.specs.declared.counts.Counts.{Counts}
use Rattle.index.specs.History.{no_patch}
use Rattle.index.proofs.Readings.{Reads}
use Rattle.engine.specs.declared.records.Answer.{Answer}
use Rattle.engine.specs.declared.records.Neighbor.{Neighbor}
use Rattle.engine.specs.Outcomes as engine
use Rattle.engine.specs.Outcomes.{asking, slots_of, family_of, hit, Ran}
use Rattle.promise.specs.Promise.{reply}
use Rattle.promise.proofs.Counted.{all_places, map_twice}
use Rattle.promise.proofs.Slots.{patch_at, found, bound_found, upper_found}

module _ (ms : List Model) (cap : ℕ) (ps : List Patch) (pv : ℕ → List (List ℕ)) (k : Counts) (b : List ℕ) (rd : Reads ms cap ps pv k b) (law : AllLawful ms) (q : Question) (budget : ℕ) where
  abbrev stored : ℕ → Patch
  stored = patch_at ms cap ps pv k b rd

  -- the question as the engine is asked it
  abbrev pub posing : engine.Question
  posing = asking q.weights q.aggregate q.k q.radius budget

  abbrev slots : List ℕ
  slots = slots_of (found ms cap ps pv k b rd law q)

  in_use : (i : ℕ) → i < k.held → i < length ps
  in_use i h = omega (arith, rd.count)

  -- the slots hold the patches, in order
  slots_hold : map stored slots ≡ ps
  slots_hold = all_places ps k.held no_patch rd.count

  slots_used : Every (λ i. i < length ps) slots
  slots_used = all_counting (λ i. i < length ps) 0 k.held (λ i l h. in_use i (omega arith))

  -- the chains of the slots
  abbrev chains : Family ℕ ℕ
  chains = family_of (found ms cap ps pv k b rd law q) posing

  stand : Every (λ i. ((t : ℕ) → chains.bound i t ≡ (family ms q pv).bound (stored i) t) × (chains.upper i ≡ (family ms q pv).upper (stored i)) × (chains.id i ≡ (family ms q pv).id (stored i))) slots
  stand = All-weaker (λ i. i < length ps) _ (λ i h. (bound_found ms cap ps pv k b rd law q i h, upper_found ms cap ps pv k b rd law q i h, rd.number i h)) slots slots_used

  -- a run over the slots is a search
  pub searched : (done : Bool) (e : State ℕ) → Runs (table chains q.radius) q.k budget (begin chains q.k q.radius slots) done e
      → Search ms (record { patches = ps; pivots = pv }) q budget done (image stored e)
  searched done e r =
      subst (λ (l : List Patch). Runs (refined ms q pv) q.k budget (begin (family ms q pv) q.k q.radius l) done (image stored e)) slots_hold
      ((stand_ins_run ℕ Patch ℕ stored (family ms q pv) chains.id chains.bound chains.upper q.k q.radius budget slots stand).0 done e r)

  -- and admits as many
  pub admits : length (filter (admitted chains q.k q.radius slots) slots) ≡ length (filter (admitted (family ms q pv) q.k q.radius ps) ps)
  admits =
      (stand_ins_run ℕ Patch ℕ stored (family ms q pv) chains.id chains.bound chains.upper q.k q.radius budget slots stand).1
      ∙ ap (λ (l : List Patch). length (filter (admitted (family ms q pv) q.k q.radius l) l)) slots_hold

  -- it names slots in use alone
  named_used : (done : Bool) (e : State ℕ) → Runs (table chains q.radius) q.k budget (begin chains q.k q.radius slots) done e → Every (λ i. i < length ps) e.named
  named_used done e r = named_all (table chains q.radius) q.k budget (λ i. i < length ps) (begin chains q.k q.radius slots) r
      (All-map (λ (c : Candidate ℕ). c.patch < length ps) (λ i. record { patch = i; t = 0 }) (filter (admitted chains q.k q.radius slots) slots)
      (all_kept_by (admitted chains q.k q.radius slots) (λ i. i < length ps) slots slots_used))
      tt

  module _ (distances : Every (λ o. distance (family ms q pv) o ≡ distance_to ms q o) ps) where
    -- the hit of a slot is its patch as an answer gives it
    hit_same : (i : ℕ) → i < length ps → ◌≡◌ {A = ℕ × ℕ} (chains.id i, distance chains i) (neighbor ms q (stored i))
    hit_same i h =
        let n = rd.number i h in
        let d = bound_found ms cap ps pv k b rd law q i h (length ms) ∙ All-get_or (λ o. distance (family ms q pv) o ≡ distance_to ms q o) ps i no_patch h distances in
        λ j. (n j, d j)

    -- the hits named are the patches named
    pub listed : (a : Answer) (hits hits' : List Neighbor) (asked asked' : Asked) (ran : Ran (found ms cap ps pv k b rd law q) posing a hits hits' asked asked')
        → (reply a hits').neighbors ≡ map (neighbor ms q) (map stored ran.end.named)
    listed a hits hits' asked asked' ran =
        let e = ran.end.named in
        let h = hit (found ms cap ps pv k b rd law q) posing in
        let pair : Neighbor → ℕ × ℕ = λ n. (n.accession, n.distance) in
        ap (λ (hs : List Neighbor). map pair (take a.named hs)) ran.hits
        ∙ ap (map pair) (take_at (map h e) _ a.named (length-map e h ∙ sym ran.named))
        ∙ map_twice h pair stored (neighbor ms q) e (All-weaker (λ i. i < length ps) _ hit_same e (named_used a.complete ran.end ran.run))
