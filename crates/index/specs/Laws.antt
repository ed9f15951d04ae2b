-- The laws of whole histories.
use Rattle.std.specs.Prelude.{◌≡◌, ℕ, List, ◌∷◌, take}
use Rattle.metric.specs.Model.{Model}
use Rattle.index.specs.declared.counts.Counts.{Counts}
use Rattle.index.specs.History.{Call, nearest, Holds, held, pivots, worked}
use Rattle.index.specs.Image.{Shows, Kept}
use Rattle.index.specs.Layouts.{layout_of}

-- whatever history led to the counts k and the store b: they show exactly what it holds, and that is in order
abbrev pub ShowsHistory : List Model → Counts → List ℕ → Type 0
ShowsHistory ms k b =
    (cap : ℕ) (b₀ : List ℕ) (h : List Call) → Holds ms k b cap b₀ h
    → Shows ms cap (held ms cap h) (pivots ms cap h) k b b₀ × Kept ms cap (held ms cap h) (pivots ms cap h)

-- after any history the counts and the store show exactly what it holds
abbrev pub HistoryShows : Type 0
HistoryShows = (ms : List Model) (k : Counts) (b : List ℕ) → ShowsHistory ms k b

-- two histories over as many slots that hold the same patches and pivots leave the same counts and the same stated bytes
abbrev pub HeldAlike : Type 0
HeldAlike =
    (ms : List Model) (cap : ℕ) (k l : Counts) (b c b₀ c₀ : List ℕ) (g h : List Call) → Holds ms k b cap b₀ g → Holds ms l c cap c₀ h
    → held ms cap g ≡ held ms cap h → ((j : ℕ) → pivots ms cap g j ≡ pivots ms cap h j)
    → (k ≡ l) × (take (layout_of ms cap).size b ≡ take (layout_of ms cap).size c)

-- a search changes nothing: neither counts nor store, neither patches nor pivots
abbrev pub SearchKeeps : Type 0
SearchKeeps =
    (ms : List Model) (cap : ℕ) (b : List ℕ) (h : List Call)
    → (worked ms cap b (nearest ∷ h) ≡ worked ms cap b h) × (held ms cap (nearest ∷ h) ≡ held ms cap h) × ((j : ℕ) → pivots ms cap (nearest ∷ h) j ≡ pivots ms cap h j)
