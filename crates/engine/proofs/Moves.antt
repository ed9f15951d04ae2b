-- What the engine does at the least candidate is a move of the step rule.
use Rattle.std.proofs.Common.{◌≡◌, ℕ, suc, ◌+◌, ◌-◌, ◌<◌, ◌≤◌, true, false, leb, List, [], ◌∷◌, ◌++◌, map, length, get_or, take, drop, set, sum_by, sym, refl, ap, ◌∙◌, subst, inl, inr, ⊎_elim, arith, le-leb}
use borrow.Author.Tests.{lt-leb}
use Rattle.std.specs.List.Sorted.{IsPermutation}
use Rattle.std.specs.List.{AllByRecursion as Every}
use Rattle.std.proofs.lemmas.List.{append_assoc, map_push, length_push, length-map, length-append, length-drop, length-take-le, get_or-take, drop_more, set_at}
use Rattle.std.proofs.ByRecursion.{All-get_or, All-from_get_or, All-map, All-weaker, all_shuffled}
use Rattle.std.proofs.lemmas.List.Sums.{sum_by-cons}
use Rattle.std.proofs.lemmas.List.Sorted.{IsPermutation-refl, IsPermutation-sym, IsPermutation-trans, sum_by-IsPermutation}
use Rattle.metric.specs.Channels.{Asked, AddsAt}
use Rattle.queue.specs.Heaps.{Least, Peeked, Popped, Replaced}
use Rattle.queue.proofs.Shuffles.{shuffled_map}
use Rattle.queue.proofs.Slots.{same_top}
use Rattle.refine.specs.Orders.{number_first}
use Rattle.refine.specs.OrderLaws.{numbers, first_lt, first_eq}
use Rattle.refine.specs.Bounds.{place}
use Rattle.refine.specs.Chains.{Table, table}
use Rattle.refine.specs.Steps as steps
use Rattle.refine.specs.Steps.{State, Next, done, halt, naming, measuring, key_now, Chosen, Move, full, dry, names, halts, measures, Taken}
use Rattle.refine.proofs.Lists.{all_both}
use Rattle.refine.proofs.Takes.{taken_now}
use Rattle.engine.specs.declared.records.Neighbor.{Neighbor}
use Rattle.engine.specs.declared.records.Candidate.{Candidate}
use Rattle.engine.specs.declared.records.Progress.{Progress}
use Rattle.engine.specs.Tables.{Tables, channels_of}
use Rattle.engine.specs.Kinds.{ByBound, no_candidate}
use Rattle.engine.specs.Slots.{Coherent}
use Rattle.engine.specs.Passes.{spot}
use Rattle.engine.specs.Outcomes.{Question, family_of, hit, Measured}
use Rattle.engine.specs.Turns.{Advanced, Stands, Rests, Goes}
use Rattle.engine.proofs.Cancels.{shuffled_cancel, shuffled_two}

module _ (t : Tables) (q : Question) where
  abbrev Fine : Candidate → Type 0
  Fine x = Coherent t q.weights q.aggregate x

  abbrev rule : Table ℕ (ℕ × ℕ)
  rule = table (family_of t q) q.radius

  -- the order of the queue is that of the keys
  key_order : (u v : Candidate) → Fine u → Fine v → ByBound u v → number_first leb (key_now rule (spot u)) (key_now rule (spot v)) ≡ true
  key_order u v a b (inl h) = first_lt numbers (key_now rule (spot u)) (key_now rule (spot v)) (let e = a.bound in let f = b.bound in omega arith)
  key_order u v a b (inr h) =
      first_eq numbers (key_now rule (spot u)) (key_now rule (spot v)) (sym a.bound ∙ h.0 ∙ b.bound)
      (le-leb _ _ (let e = a.sound.number in let f = b.sound.number in let g = h.1 in omega arith))

  after_bound : (u v : Candidate) → ByBound u v → u.bound ≤ v.bound
  after_bound u v (inl h) = omega arith
  after_bound u v (inr h) = omega (arith, h.0)

  module _ (old : List Neighbor) (n : ℕ) (xs : List Candidate) (hs : List Neighbor) (p : Progress) (s : State ℕ) (st : Stands t q old n xs hs p s) where
    abbrev front : List Candidate
    front = take n xs

    -- a step that ends the run changes nothing
    rests : (asked : Asked) {next : Next ℕ} → Move rule q.k q.budget s next → Rests t q s next hs hs p p asked asked
    rests asked m = record { move = m; hits = refl; progress = refl; asks = λ c x y h. h }

    pub is_full : (asked : Asked) → q.k ≤ p.named → Rests t q s done hs hs p p asked asked
    is_full asked h = rests asked (full (let e = st.named in omega arith))

    pub is_empty : (asked : Asked) → n ≡ 0 → Rests t q s done hs hs p p asked asked
    is_empty asked none = rests asked (dry (all_shuffled _ (map spot front) s.live (IsPermutation-sym s.live (map spot front) st.live) (subst (λ (m : ℕ). Every (λ c. rule.within (key_now rule c) ≡ false) (map spot (take m xs))) (sym none) tt)))

    module _ (top : Candidate) (pk : Peeked ByBound n top xs) where
      long : length front ≡ n
      long = length-take-le n xs st.within

      some : 0 < length front
      some = let e = long in let z = pk.some in omega arith

      first : get_or front 0 no_candidate ≡ top
      first = get_or-take n xs 0 no_candidate pk.some ∙ sym (pk.is no_candidate)

      pub fine : Fine top
      fine = subst Fine first (All-get_or Fine front 0 no_candidate some st.coherent)

      rest : List Candidate
      rest = drop 1 front

      front_is : front ≡ top ∷ rest
      unfolding rest
      front_is = drop_more front 0 no_candidate some ∙ ap (λ (y : Candidate). y ∷ drop 1 front) first

      near : Every (ByBound top) front
      unfolding Least
      near = All-from_get_or (ByBound top) front no_candidate (λ i l. pk.least st.heap i no_candidate l)

      module _ (R : List Candidate) (sh : IsPermutation front (top ∷ R)) where
        chosen : Chosen rule s (spot top) (map spot R)
        chosen = record {
          among = IsPermutation-trans s.live (map spot front) (map spot (top ∷ R)) st.live (shuffled_map spot front (top ∷ R) sh);
          first = All-map _ spot R (All-weaker (λ v. Fine v × ByBound top v) _ (λ v h. key_order top v fine h.0 h.1) R
              (all_shuffled (λ v. Fine v × ByBound top v) front (top ∷ R) sh (all_both Fine (ByBound top) front st.coherent near)).1);
        }

        fine_rest : Every Fine R
        fine_rest = (all_shuffled Fine front (top ∷ R) sh st.coherent).1

        less_by : sum_by (λ x. suc (t.channels - x.measured)) front ≡ suc (t.channels - top.measured) + sum_by (λ x. suc (t.channels - x.measured)) R
        less_by = sym (sum_by-IsPermutation (λ x. suc (t.channels - x.measured)) front (top ∷ R) sh) ∙ sum_by-cons (λ x. suc (t.channels - x.measured)) top R

      own : IsPermutation front (top ∷ rest)
      own = subst (λ (l : List Candidate). IsPermutation front l) front_is (IsPermutation-refl front)

      pub is_dry : (asked : Asked) → q.radius < top.bound → Rests t q s done hs hs p p asked asked
      is_dry asked h = rests asked (dry (all_shuffled _ (map spot front) s.live (IsPermutation-sym s.live (map spot front) st.live)
          (All-map _ spot front (All-weaker (λ v. Fine v × ByBound top v) _ (λ v a. lt-leb _ q.radius (let e = a.0.bound in let b = after_bound top v a.1 in omega arith)) front (all_both Fine (ByBound top) front st.coherent near)))))

      module _ (more : p.named < q.k) (within : top.bound ≤ q.radius) where
        inside : rule.within (key_now rule (spot top)) ≡ true
        inside = le-leb _ q.radius (let e = fine.bound in omega arith)

        pub is_halted : (asked : Asked) → (top.measured ≡ t.channels → ⊥) → q.budget ≤ p.measured → Rests t q s halt hs hs p p asked asked
        is_halted asked ne h = rests asked (halts (spot top) (map spot rest) (chosen rest own) (let e = st.named in omega arith) inside ne (let e = st.measured in omega arith))

        pub is_named : (y : Candidate) (m : ℕ) (ys : List Candidate) (hs' : List Neighbor) (p' : Progress) (asked : Asked) → p.named < length hs → m ≤ length ys → m ≡ n - 1
            → top.measured ≡ t.channels → Popped ByBound n y xs ys → hs' ≡ set hs p.named (record { accession = top.accession; distance = top.bound })
            → p' ≡ record { named = p.named + 1; measured = p.measured } → Goes t q s old n m xs ys hs' p p' asked asked
        is_named y m ys hs' p' asked room keeps fewer whole pop eh ep = subst (λ (i : ℕ). Goes t q s old n i xs ys hs' p p' asked asked) (sym fewer) (subst (λ (r : Progress). Goes t q s old n (n - 1) xs ys hs' p r asked asked) (sym ep) (record {
          next = naming s (spot top) (map spot R);
          move = names (spot top) (map spot R) (chosen R sh) (let e = st.named in omega arith) inside whole;
          stands = record {
            within = omega arith;
            heap = pop.heap st.heap;
            coherent = fine_rest R sh;
            live = IsPermutation-refl (map spot R);
            named = let e = st.named in let l = length_push s.named top.slot in omega arith;
            measured = st.measured;
            hits = eh ∙ ap (λ (l : List Neighbor). set l p.named new) st.hits ∙ ap (λ (l : List Neighbor). set (map (hit t q) s.named ++ l) p.named new) (drop_more old p.named new past)
                ∙ set_at (map (hit t q) s.named) (get_or old p.named new) (drop (p.named + 1) old) new p.named count
                ∙ sym (append_assoc (map (hit t q) s.named) (new ∷ []) (drop (p.named + 1) old))
                ∙ ap (λ (h : Neighbor). (map (hit t q) s.named ++ h ∷ []) ++ drop (p.named + 1) old) new_is
                ∙ ap (λ (l : List Neighbor). l ++ drop (p.named + 1) old) (sym (map_push (hit t q) s.named top.slot));
            few = let f = st.few in let z = pk.some in omega arith;
          };
          asks = λ c x z h. inl h;
          less = let e = less_by R sh in omega arith;
        }))
          where
            R : List Candidate
            R = take (n - 1) ys

            sh : IsPermutation front (top ∷ R)
            sh = subst (λ (z : Candidate). IsPermutation front (z ∷ R)) (sym (same_top ByBound n n top y xs pk pop.top)) pop.items

            new : Neighbor
            new = record { accession = top.accession; distance = top.bound }

            new_is : new ≡ hit t q top.slot
            new_is = let a = fine.sound.number in let b = fine.bound ∙ ap ((family_of t q).bound top.slot) whole in λ i. record { accession = a i; distance = b i }

            count : length (map (hit t q) s.named) ≡ p.named
            count = length-map s.named (hit t q) ∙ sym st.named

            past : p.named < length old
            past = let e = ap length st.hits in let l = length-append (map (hit t q) s.named) (drop p.named old) in let d = length-drop p.named old in let c = count in omega arith

        pub is_measured : (x y : Candidate) (m : ℕ) (ys : List Candidate) (p' : Progress) (asked asked' : Asked) → m ≤ length ys → m ≡ n
            → (top.measured ≡ t.channels → ⊥) → p.measured < q.budget → Advanced t q.weights q.aggregate top x → Replaced ByBound n x y xs ys
            → p' ≡ record { named = p.named; measured = p.measured + 1 }
            → AddsAt asked asked' (get_or top.order top.measured 0) (t.left top.slot (get_or top.order top.measured 0)) (t.right top.slot (get_or top.order top.measured 0))
            → Goes t q s old n m xs ys hs p p' asked asked'
        is_measured x y m ys p' asked asked' keeps same ne afford adv rep ep adds = subst (λ (i : ℕ). Goes t q s old n i xs ys hs p p' asked asked') (sym same) (subst (λ (r : Progress). Goes t q s old n n xs ys hs p r asked asked') (sym ep) (record {
          next = measuring s (spot top) (map spot rest);
          move = measures (spot top) (map spot rest) (chosen rest own) (let e = st.named in omega arith) inside ne (let e = st.measured in omega arith);
          stands = record {
            within = omega arith;
            heap = rep.heap st.heap;
            coherent = all_shuffled Fine (x ∷ rest) (take n ys) moved (adv.coherent, fine_rest rest own);
            live = subst (λ (c : steps.Candidate ℕ). IsPermutation (c ∷ map spot rest) (map spot (take n ys))) seen (shuffled_map spot (x ∷ rest) (take n ys) moved);
            named = st.named;
            measured = let e = st.measured in omega arith;
            hits = st.hits;
            few = st.few;
          };
          asks = λ c a b h. ⊎_elim inl (λ e. inr (taken c a b e)) (adds c a b h);
          less =
              let e = less_by rest own in
              let f = sum_by-IsPermutation (λ z. suc (t.channels - z.measured)) (x ∷ rest) (take n ys) moved in
              let g = sum_by-cons (λ z. suc (t.channels - z.measured)) x rest in
              let m = adv.measured in
              let b = below in
              omega arith;
        }))
          where
            below : top.measured < t.channels
            below = let w = fine.sound.within in omega (arith, ne)

            moved : IsPermutation (x ∷ rest) (take n ys)
            moved = shuffled_cancel top (x ∷ rest) (take n ys)
                (IsPermutation-trans (top ∷ x ∷ rest) (x ∷ top ∷ rest) (top ∷ take n ys) (shuffled_two top x rest)
                (subst (λ (l : List Candidate). IsPermutation (x ∷ l) (top ∷ take n ys)) front_is
                (subst (λ (z : Candidate). IsPermutation (x ∷ front) (z ∷ take n ys)) (sym (same_top ByBound n n top y xs pk rep.top)) rep.items)))

            seen : spot x ≡ record { patch = top.slot; t = suc top.measured }
            seen = let a = adv.slot in let b = adv.measured in λ i. record { patch = a i; t = b i }

            taken : (c : ℕ) (a b : List ℕ) → (c ≡ get_or top.order top.measured 0) × (a ≡ t.left top.slot (get_or top.order top.measured 0)) × (b ≡ t.right top.slot (get_or top.order top.measured 0))
                → Measured t q (measuring s (spot top) (map spot rest)) c a b
            taken c a b e =
                let o = fine.sound.order top.measured below in (
                  top.slot,
                  fine.sound.slot,
                  omega (arith, e.0, o.0),
                  subst (λ (u : ℕ). Taken (measuring s (spot top) (map spot rest)) top.slot u) (sym (ap (place t.channels (channels_of t q.weights top.slot)) e.0 ∙ o.1)) (taken_now s (spot top) (map spot rest)),
                  e.1 ∙ ap (t.left top.slot) (sym e.0),
                  e.2 ∙ ap (t.right top.slot) (sym e.0),
                )
