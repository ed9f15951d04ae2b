-- What each field shows where patches and pivots are held, and which fields a change of either leaves.
use Rattle.std.proofs.Common.{◌≡◌, ℕ, ◌-◌, ◌<◌, ◌≤◌, cond, ◌&&◌, ltb, List, [], ◌∷◌, ◌++◌, length, get_or, set, sym, ap, ◌∙◌, inl, inr, arith}
use Rattle.std.proofs.lemmas.List.{length_push, get_or_past, get_or_append_left, get_or-take, get_or-set_same, get_or-set_other, length-take-le, length-set}
use Rattle.std.proofs.lemmas.Bool.{lt-ltb, le-ltb, cond-true, cond-false, and_from, and_left, and_right}
use Rattle.big_endian.specs.Numbers.{be16}
use Rattle.metric.specs.Model.{Model}
use Rattle.metric.specs.Channels.{at}
use Rattle.patch.specs.Patches.{Patch, patch_width, row}
use Rattle.index.specs.History.{no_patch, closed_up}
use Rattle.index.specs.Image.{number_bytes, row_bytes, pivot_bytes, distance_bytes}
use Rattle.index.proofs.Puts.{zeros}
use Rattle.index.proofs.Fields.{Field, number, rows, pivot, distance, Ne}

-- entry i of xs is entry j of ys, or neither is there
abbrev pub SameEntry : {X : Type 0} → X → List X → ℕ → List X → ℕ → Type 0
SameEntry d xs i ys j = (ltb i (length xs) ≡ ltb j (length ys)) × (get_or xs i d ≡ get_or ys j d)

pub same_list : {X : Type 0} (d : X) (xs ys : List X) (i : ℕ) → xs ≡ ys → SameEntry d xs i ys i
same_list {X} d xs ys i e = (ap (λ (l : List X). ltb i (length l)) e, ap (λ (l : List X). get_or l i d) e)

module _ {X : Type 0} (d : X) (xs : List X) where
  both_in : (ys : List X) (i j : ℕ) → i < length xs → j < length ys → get_or xs i d ≡ get_or ys j d → SameEntry d xs i ys j
  both_in ys i j h k e = (lt-ltb i (length xs) h ∙ sym (lt-ltb j (length ys) k), e)

  both_past : (ys : List X) (i j : ℕ) → length xs ≤ i → length ys ≤ j → SameEntry d xs i ys j
  both_past ys i j h k = (le-ltb i (length xs) h ∙ sym (le-ltb j (length ys) k), get_or_past xs i d h ∙ sym (get_or_past ys j d k))

  pub push_other : (x : X) (i : ℕ) → Ne i (length xs) → SameEntry d xs i (xs ++ x ∷ []) i
  push_other x i (inl h) = let n = length_push xs x in both_in (xs ++ x ∷ []) i i h (omega arith) (sym (get_or_append_left xs (x ∷ []) d i h))
  push_other x i (inr h) = let n = length_push xs x in both_past (xs ++ x ∷ []) i i (omega arith) (omega arith)

  module _ (slot : ℕ) (below : slot < length xs) where
    pub closed_length : length (closed_up d xs slot) ≡ length xs - 1
    closed_length =
        length-take-le (length xs - 1) (set xs slot (get_or xs (length xs - 1) d)) (omega (arith, length-set xs slot (get_or xs (length xs - 1) d)))

    pub closed_entry : (i : ℕ) → i < length xs - 1 → Ne i slot → get_or (closed_up d xs slot) i d ≡ get_or xs i d
    closed_entry i h n =
        get_or-take (length xs - 1) (set xs slot (get_or xs (length xs - 1) d)) i d h
        ∙ get_or-set_other xs slot i (get_or xs (length xs - 1) d) d (λ e. omega arith)

    pub closed_gap : slot < length xs - 1 → get_or (closed_up d xs slot) slot d ≡ get_or xs (length xs - 1) d
    closed_gap h =
        get_or-take (length xs - 1) (set xs slot (get_or xs (length xs - 1) d)) slot d h
        ∙ get_or-set_same xs slot (get_or xs (length xs - 1) d) d below

    pub closed_other : (i : ℕ) → Ne i slot → Ne i (length xs - 1) → SameEntry d xs i (closed_up d xs slot) i
    closed_other i n (inl h) = let l = closed_length in both_in (closed_up d xs slot) i i (omega arith) (omega arith) (sym (closed_entry i h n))
    closed_other i n (inr h) = let l = closed_length in both_past (closed_up d xs slot) i i (omega arith) (omega arith)

    pub closed_moved : slot < length xs - 1 → SameEntry d xs (length xs - 1) (closed_up d xs slot) slot
    closed_moved h = let l = closed_length in both_in (closed_up d xs slot) (length xs - 1) slot (omega arith) (omega arith) (sym (closed_gap h))

module _ (ms : List Model) where
  abbrev pub shown : List Patch → (ℕ → List (List ℕ)) → Field → List ℕ
  shown ps pv (number i) = number_bytes ms ps pv i
  shown ps pv (rows i) = row_bytes ms ps pv i
  shown ps pv (pivot c p) = pivot_bytes ms ps pv c p
  shown ps pv (distance i c p) = distance_bytes ms ps pv i c p

  -- what is held
  module _ (ps : List Patch) (pv : ℕ → List (List ℕ)) where
    pub number_held : (i : ℕ) → i < length ps → number_bytes ms ps pv i ≡ be16 (get_or ps i no_patch).accession
    number_held i h = cond-true (ltb i (length ps)) (be16 (get_or ps i no_patch).accession) (zeros 2) (lt-ltb i (length ps) h)

    pub number_free : (i : ℕ) → length ps ≤ i → number_bytes ms ps pv i ≡ zeros 2
    number_free i h = cond-false (ltb i (length ps)) (be16 (get_or ps i no_patch).accession) (zeros 2) (le-ltb i (length ps) h)

    pub rows_held : (i : ℕ) → i < length ps → row_bytes ms ps pv i ≡ (get_or ps i no_patch).rows
    rows_held i h = cond-true (ltb i (length ps)) (get_or ps i no_patch).rows (zeros (patch_width ms)) (lt-ltb i (length ps) h)

    pub rows_free : (i : ℕ) → length ps ≤ i → row_bytes ms ps pv i ≡ zeros (patch_width ms)
    rows_free i h = cond-false (ltb i (length ps)) (get_or ps i no_patch).rows (zeros (patch_width ms)) (le-ltb i (length ps) h)

    pub pivot_held : (c p : ℕ) → p < length (pv c) → pivot_bytes ms ps pv c p ≡ get_or (pv c) p []
    pivot_held c p h = cond-true (ltb p (length (pv c))) (get_or (pv c) p []) (zeros (at ms c).width) (lt-ltb p (length (pv c)) h)

    pub pivot_free : (c p : ℕ) → length (pv c) ≤ p → pivot_bytes ms ps pv c p ≡ zeros (at ms c).width
    pivot_free c p h = cond-false (ltb p (length (pv c))) (get_or (pv c) p []) (zeros (at ms c).width) (le-ltb p (length (pv c)) h)

    abbrev stored : (i c p : ℕ) → List ℕ
    stored i c p = be16 ((at ms c).dist (row ms c (get_or ps i no_patch).rows) (get_or (pv c) p []))

    pub distance_held : (i c p : ℕ) → i < length ps → p < length (pv c) → distance_bytes ms ps pv i c p ≡ be16 ((at ms c).dist (row ms c (get_or ps i no_patch).rows) (get_or (pv c) p []))
    distance_held i c p h k =
        cond-true (ltb i (length ps) && ltb p (length (pv c))) (stored i c p) (zeros 2) (and_from (ltb i (length ps)) (ltb p (length (pv c))) (lt-ltb i (length ps) h) (lt-ltb p (length (pv c)) k))

    pub distance_unheld : (i c p : ℕ) → length ps ≤ i → distance_bytes ms ps pv i c p ≡ zeros 2
    distance_unheld i c p h =
        cond-false (ltb i (length ps) && ltb p (length (pv c))) (stored i c p) (zeros 2) (and_left (ltb i (length ps)) (ltb p (length (pv c))) (le-ltb i (length ps) h))

    pub distance_unset : (i c p : ℕ) → length (pv c) ≤ p → distance_bytes ms ps pv i c p ≡ zeros 2
    distance_unset i c p h =
        cond-false (ltb i (length ps) && ltb p (length (pv c))) (stored i c p) (zeros 2) (and_right (ltb i (length ps)) (ltb p (length (pv c))) (le-ltb p (length (pv c)) h))

  -- equal entries show the same
  module _ (ps qs : List Patch) (pv qv : ℕ → List (List ℕ)) where
    pub number_same : (i j : ℕ) → SameEntry no_patch ps i qs j → number_bytes ms ps pv i ≡ number_bytes ms qs qv j
    number_same i j (t, e) = λ k. cond (t k) (be16 (e k).accession) (zeros 2)

    pub rows_same : (i j : ℕ) → SameEntry no_patch ps i qs j → row_bytes ms ps pv i ≡ row_bytes ms qs qv j
    rows_same i j (t, e) = λ k. cond (t k) (e k).rows (zeros (patch_width ms))

    pub pivot_same : (c p q : ℕ) → SameEntry [] (pv c) p (qv c) q → pivot_bytes ms ps pv c p ≡ pivot_bytes ms qs qv c q
    pivot_same c p q (t, e) = λ k. cond (t k) (e k) (zeros (at ms c).width)

    pub distance_same : (i j c p q : ℕ) → SameEntry no_patch ps i qs j → SameEntry [] (pv c) p (qv c) q → distance_bytes ms ps pv i c p ≡ distance_bytes ms qs qv j c q
    distance_same i j c p q (t, e) (u, f) = λ k. cond (t k && u k) (be16 ((at ms c).dist (row ms c (e k).rows) (f k))) (zeros 2)
