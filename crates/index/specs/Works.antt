-- What a call that has passed its checks works on.
use Rattle.std.specs.Prelude.{◌≡◌, ℕ, ◌+◌, ◌<◌, ◌≤◌, true, false, List, length, Ok, Err, Result, nat_lt}
use Rattle.metric.specs.Model.{Model}
use Rattle.metric.specs.Channels.{Asked, at, count}
use Rattle.patch.specs.Patches.{few, offset, patch_width}
use Rattle.refusal.specs.declared.Refusal.{Refusal}
use Rattle.refusal.specs.declared.Refusal.TheVariants.{BadStore}
use Rattle.index.specs.declared.counts.Counts.{Counts}
use Rattle.index.specs.declared.layout.Layout.{Layout}
use Rattle.index.specs.Calls.{stated}
use Rattle.index.specs.Layouts.{layout_of, Sound}
use Rattle.index.specs.Limits.{pivots_in}
use Rattle.index.specs.Steps.{slot_row, pivot_row}

-- a store that is long enough for its layout, and counts within their limits
pub record Ready (ms : List Model) (k : Counts) (l : Layout) (b : List ℕ) : Type 0 where
  pub sound : Sound l
  pub layout : l ≡ layout_of ms k.capacity
  pub slots : l.capacity ≡ k.capacity
  pub row : l.row ≡ patch_width ms
  pub channels : l.channels ≡ length ms
  pub long : l.size ≤ length b
  pub held : k.held ≤ k.capacity
  pub eight : (c : ℕ) → pivots_in k c ≤ 8

-- the layout of a store that is long enough for it
abbrev pub Opened : List Model → Counts → List ℕ → Result Layout Refusal → Type 0
Opened ms k b (Ok l) = (nat_lt (length b) (stated ms k) ≡ false) × Ready ms k l b
Opened ms k b (Err e) = (nat_lt (length b) (stated ms k) ≡ true) × (e ≡ BadStore)

-- a channel in use, where its row begins in a patch, and its width
pub record InUse (ms : List Model) (l : Layout) (c start width : ℕ) : Type 0 where
  pub known : c < count ms
  pub channel : c < l.channels
  pub begins : start ≡ offset (few ms) c
  pub wide : width ≡ (at (few ms) c).width
  pub same : width ≡ (at ms c).width
  pub inside : start + width ≤ l.row

-- the distances of the rows held in a channel to its pivot p are asked for
abbrev pub OwnAsks : List Model → Layout → (held : ℕ) (b : List ℕ) (channel p : ℕ) → Asked
OwnAsks ms l held b channel p c x y =
    (c ≡ channel) × (y ≡ pivot_row ms l channel p b) × ((i : ℕ) × (i < held) × (x ≡ slot_row ms l channel i b))
