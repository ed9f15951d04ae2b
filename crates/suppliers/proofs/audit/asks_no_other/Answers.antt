use Rattle.std.proofs.Common.{ℕ, List, [], ◌∷◌, get_or, sym, refl, ap, ◌∙◌, ⊎_elim, arith, eqb-true}
use Rattle.std.proofs.lemmas.Bool.{cases_Bool}
use Rattle.suppliers.proofs.Book.{one_byte, none_recorded}
use Rattle.suppliers.proofs.audit.asks_no_other.Goals as goal

pub returns : goal.returns
returns c = ⊎_elim
    (λ e. absurd (⊎_elim
    (λ b. none_recorded _ _ _ c.new.ensures b.1)
    (λ w. omega (arith, ap (λ (l : List ℕ). get_or l 0 0) w.2))
    (c.channel_distance.ensures.adds 0 (1 ∷ []) (3 ∷ []) (refl, record { left = one_byte 1 (omega arith); right = one_byte 3 (omega arith); entry = eqb-true _ 1 (sym c.was_asked.ensures ∙ e) }))))
    (λ e. e)
    (cases_Bool c.was_asked.result)
