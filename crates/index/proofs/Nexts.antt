-- A call by its rule makes the history one call longer.
use Rattle.std.proofs.Common.{◌≡◌, ℕ, List, ◌∷◌, sym, ap, ◌∙◌, subst}
use Rattle.metric.specs.Model.{Model}
use Rattle.patch.specs.Patches.{few}
use Rattle.index.specs.declared.counts.Counts.{Counts}
use Rattle.index.specs.History.{Call, Written, call, Fits, Holds}

pub holds_next : (ms ms₁ : List Model) (k k₁ : Counts) (b b₁ : List ℕ) (c : Call) → Fits c → ms₁ ≡ ms
    → k₁ ≡ (call (few ms) c (record { counts = k; bytes = b })).counts → b₁ ≡ (call (few ms) c (record { counts = k; bytes = b })).bytes
    → (cap : ℕ) (b₀ : List ℕ) (h : List Call) → Holds ms k b cap b₀ h → Holds ms₁ k₁ b₁ cap b₀ (c ∷ h)
holds_next ms ms₁ k k₁ b b₁ c fit same ek eb cap b₀ h hold =
    let w : Written = call (few ms) c (record { counts = k; bytes = b }) in
    let next : Holds ms k₁ b₁ cap b₀ (c ∷ h) = record {
      granted = hold.granted;
      fit = (fit, hold.fit);
      left = ap (call (few ms) c) hold.left ∙ λ i. record { counts = sym ek i; bytes = sym eb i };
    } in
    subst (λ (ls : List Model). Holds ls k₁ b₁ cap b₀ (c ∷ h)) (sym same) next
