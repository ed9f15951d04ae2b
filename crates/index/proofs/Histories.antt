-- After any history the counts and the store show what the history holds.
use Rattle.std.proofs.Common.{◌≡◌, ℕ, ◌+◌, ◌≤◌, Bool, true, false, cond, ltb, List, [], ◌∷◌, length, is_some, Some, None, Option, sym, refl, ap, ◌∙◌, subst, arith}
use Rattle.std.proofs.lemmas.List.{length-replicate}
use Rattle.std.proofs.lemmas.Bool.{ltb-false, both_ways}
use Rattle.metric.specs.Model.{Model}
use Rattle.patch.specs.Patches.{few}
use Rattle.patch.proofs.Widths.{few_all}
use Rattle.refusal.specs.declared.Refusal.{Refusal}
use Rattle.refusal.specs.declared.Refusal.TheVariants.{BadStore, TooManyChannels}
use Rattle.index.specs.declared.counts.Counts.{Counts}
use Rattle.index.specs.Bytes.{put, part}
use Rattle.index.specs.Calls.{new_refusal, new_bytes}
use Rattle.index.specs.History.{Call, Written, call, worked, held, pivots, AllFit, Holds}
use Rattle.index.specs.Image.{Shows, Kept}
use Rattle.index.specs.Layouts.{layout_of}
use Rattle.index.specs.Limits.{no_counts}
use Rattle.index.proofs.Puts.{zeros, length_put, drop_put, part_put_in, part_zeros}
use Rattle.index.proofs.Fields.{Field, number, rows, pivot, distance, start, long, Valid, view, field_ends}
use Rattle.index.proofs.Shown.{shown, number_free, rows_free, pivot_free, distance_unheld}
use Rattle.index.proofs.Counting.{counted_none}
use Rattle.index.proofs.Standing.{Stands, call_stands}
use Rattle.index.proofs.Tiling.{fields_join}

-- what a granted new has checked
pub record Granted (ms : List Model) (cap : ℕ) (b : List ℕ) : Type 0 where
  pub channels : length ms ≤ 8
  pub slots : cap ≤ 4096
  pub room : (layout_of ms cap).size ≤ length b

not_refused : {r : Refusal} → ◌≡◌ {A = Option Refusal} (Some r) None → ⊥
not_refused e = both_ways true (ap is_some e) refl

all_passed : (x y z : Bool) (p q r : Refusal) → cond x (Some p) (cond y (Some q) (cond z (Some r) None)) ≡ None → (x ≡ false) × (y ≡ false) × (z ≡ false)
all_passed true y z p q r e = absurd (not_refused e)
all_passed false true z p q r e = absurd (not_refused e)
all_passed false false true p q r e = absurd (not_refused e)
all_passed false false false p q r e = (refl, refl, refl)

pub granted_new : (ms : List Model) (cap : ℕ) (b : List ℕ) → new_refusal ms cap b ≡ None → Granted ms cap b
granted_new ms cap b e =
    let z = (layout_of (few ms) cap).size in
    let t = all_passed (ltb 8 (length ms)) (ltb 4096 cap) (ltb (length b) z) TooManyChannels BadStore BadStore e in
    let c : length ms ≤ 8 = ltb-false 8 (length ms) t.0 in
    record {
      channels = c;
      slots = ltb-false 4096 cap t.1;
      room = subst (λ (l : List Model). (layout_of l cap).size ≤ length b) (few_all ms c) (ltb-false (length b) z t.2);
    }

module _ (ms : List Model) (cap : ℕ) (b : List ℕ) where
  abbrev cleared : List ℕ
  cleared = put 0 (zeros (layout_of ms cap).size) b

  nothing_shown : (F : Field) → shown ms [] (λ _. []) F ≡ zeros (long ms cap F)
  nothing_shown (number i) = number_free ms [] (λ _. []) i (omega arith)
  nothing_shown (rows i) = rows_free ms [] (λ _. []) i (omega arith)
  nothing_shown (pivot c p) = pivot_free ms [] (λ _. []) c p (omega arith)
  nothing_shown (distance i c p) = distance_unheld ms [] (λ _. []) i c p (omega arith)

  module _ (g : Granted ms cap b) where
    zeros_fit : 0 + length (zeros (layout_of ms cap).size) ≤ length b
    zeros_fit = omega (arith, g.room, length-replicate {A = ℕ} (layout_of ms cap).size 0)

    cleared_shows : (F : Field) → Valid ms cap F → view ms cap cleared F ≡ shown ms [] (λ _. []) F
    cleared_shows F v =
        let z : start ms cap F ≡ 0 + start ms cap F = omega arith in
        let size = (layout_of ms cap).size in
        ap (λ (x : ℕ). part x (long ms cap F) cleared) z
        ∙ part_put_in 0 (zeros size) b zeros_fit (start ms cap F) (long ms cap F) (omega (arith, field_ends ms cap F v, length-replicate {A = ℕ} size 0))
        ∙ part_zeros (start ms cap F) (long ms cap F) size (field_ends ms cap F v)
        ∙ sym (nothing_shown F)

    new_stands : Stands ms cap b [] (λ _. []) (record { counts = no_counts cap; bytes = cleared })
    new_stands = record {
      counts = counted_none ms cap;
      same_length = length_put 0 (zeros (layout_of ms cap).size) b zeros_fit;
      beyond = drop_put 0 (zeros (layout_of ms cap).size) b zeros_fit (layout_of ms cap).size (omega (arith, length-replicate {A = ℕ} (layout_of ms cap).size 0));
      shows = cleared_shows;
      kept = record {
        few = omega arith;
        once = λ i j h l e. absurd (omega arith);
        numbers = λ i h. absurd (omega arith);
        rows = λ i h. absurd (omega arith);
        eight = λ c. omega arith;
        pivots = λ c p h l. absurd (omega arith);
        none = λ c h. refl;
      };
    }

    module _ (no-refusal : new_refusal ms cap b ≡ None) where
      new_is : new_bytes ms cap b ≡ cleared
      new_is =
          ap (λ (r : Option Refusal). cond (is_some r) b (put 0 (zeros (layout_of (few ms) cap).size) b)) no-refusal
          ∙ ap (λ (l : List Model). put 0 (zeros (layout_of l cap).size) b) (few_all ms g.channels)

      history_stands : (h : List Call) → AllFit h → Stands ms cap b (held ms cap h) (pivots ms cap h) (worked ms cap b h)
      history_stands [] fit = subst (λ (x : List ℕ). Stands ms cap b [] (λ _. []) (record { counts = no_counts cap; bytes = x })) (sym new_is) new_stands
      history_stands (c ∷ h) fit =
          subst (λ (l : List Model). Stands ms cap b (held ms cap (c ∷ h)) (pivots ms cap (c ∷ h)) (call l c (worked ms cap b h))) (sym (few_all ms g.channels))
          (call_stands ms cap b g.channels g.room (held ms cap h) (pivots ms cap h) (worked ms cap b h) c fit.0 (history_stands h fit.1))

module _ (ms : List Model) (cap : ℕ) (k : Counts) (b b₀ : List ℕ) (h : List Call) (hold : Holds ms k b cap b₀ h) where
  pub holds_granted : Granted ms cap b₀
  holds_granted = granted_new ms cap b₀ hold.granted

  pub holds_stands : Stands ms cap b₀ (held ms cap h) (pivots ms cap h) (record { counts = k; bytes = b })
  holds_stands = subst (λ (w : Written). Stands ms cap b₀ (held ms cap h) (pivots ms cap h) w) hold.left (history_stands ms cap b₀ holds_granted hold.granted h hold.fit)

  pub holds_shows : Shows ms cap (held ms cap h) (pivots ms cap h) k b b₀ × Kept ms cap (held ms cap h) (pivots ms cap h)
  holds_shows =
      let st = holds_stands in
      (record { counts = st.counts; stated = fields_join ms cap (shown ms (held ms cap h) (pivots ms cap h)) b st.shows; beyond = st.beyond }, st.kept)
