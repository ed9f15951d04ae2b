-- What an index counts, where pivots come and go.
use Rattle.std.proofs.Common.{◌≡◌, ℕ, ◌<◌, ◌⊎◌, List, [], map, length, get_or, set, sym, refl, ap, ◌∙◌, inl, inr, arith}
use Rattle.std.proofs.lemmas.List.FromFn.{get_or-map-range_with_len, length-map-range_with_len, fill_by_all}
use Rattle.std.proofs.lemmas.List.{get_or-set_same, get_or-set_other, length-set}
use Rattle.std.proofs.lemmas.Bool.{cases_eq}
use Rattle.std.specs.List.{range_with_len}
use Rattle.metric.specs.Model.{Model}
use Rattle.patch.specs.Patches.{Patch}
use Rattle.index.specs.declared.counts.ChannelRecord.{ChannelRecord}
use Rattle.index.specs.Image.{counted}
use Rattle.index.specs.Limits.{no_record, no_counts, pivots_in, with_pivots}

abbrev of_pivots : (ℕ → List (List ℕ)) → ℕ → ChannelRecord
of_pivots pv c = record { pivots = length (pv c) }

pub pivots_counted : (ms : List Model) (ps : List Patch) (pv : ℕ → List (List ℕ)) (cap c : ℕ) → c < 8 → pivots_in (counted ms ps pv cap) c ≡ length (pv c)
pivots_counted ms ps pv cap c h = ap (λ (r : ChannelRecord). r.pivots) (get_or-map-range_with_len (of_pivots pv) 0 8 c c no_record h (omega arith))

pub counted_none : (ms : List Model) (cap : ℕ) → no_counts cap ≡ counted ms [] (λ _. []) cap
counted_none ms cap = refl

module _ (ms : List Model) (ps : List Patch) (pv qv : ℕ → List (List ℕ)) (cap c n : ℕ) (small : c < 8) (here : length (qv c) ≡ n) (others : (d : ℕ) → (d ≡ c → ⊥) → qv d ≡ pv d) where
  abbrev updated : List ChannelRecord
  updated = set (map (of_pivots pv) (range_with_len 0 8)) c (record { pivots = n })

  entry : (d : ℕ) → d < 8 → (d ≡ c) ⊎ (d ≡ c → ⊥) → get_or updated d no_record ≡ of_pivots qv d
  entry d h (inl e) =
      let l = length-map-range_with_len (of_pivots pv) 0 8 in
      let r : ChannelRecord = record { pivots = n } in
      ap (λ (x : ℕ). get_or updated x no_record) e
      ∙ get_or-set_same (map (of_pivots pv) (range_with_len 0 8)) c r no_record (omega arith)
      ∙ ap (λ (x : ℕ). record { pivots = x }) (sym here)
      ∙ ap (of_pivots qv) (sym e)
  entry d h (inr ne) =
      let r : ChannelRecord = record { pivots = n } in
      get_or-set_other (map (of_pivots pv) (range_with_len 0 8)) c d r no_record ne
      ∙ get_or-map-range_with_len (of_pivots pv) 0 8 d d no_record h (omega arith)
      ∙ ap (λ (x : List (List ℕ)). record { pivots = length x }) (sym (others d ne))

  pub counted_pivots : with_pivots (counted ms ps pv cap) c n ≡ counted ms ps qv cap
  counted_pivots =
      let r : ChannelRecord = record { pivots = n } in
      ap (λ (xs : List ChannelRecord). record { capacity = cap; held = length ps; channels = xs })
      (fill_by_all (of_pivots qv) updated 8 no_record (length-set (map (of_pivots pv) (range_with_len 0 8)) c r ∙ length-map-range_with_len (of_pivots pv) 0 8) (λ d h. entry d h (cases_eq d c)))
