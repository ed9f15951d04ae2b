-- Why two patches are not compared.
use Rattle.std.specs.Prelude.{◌≡◌, ℕ, ◌<◌, ◌≤◌, Bool, cond, ◌&&◌, List, length, Some, None, Option, ◌==◌, nat_lt}
use Rattle.metric.specs.Model.{Model}
use Rattle.refusal.specs.declared.Refusal.{Refusal}
use Rattle.refusal.specs.declared.Refusal.TheVariants.{WrongRowsLength, NoSuchChannel, WrongWeightsLength, TooManyChannels}
use Rattle.patch.specs.Patches.{patch_width}

-- x has the length of a patch
abbrev pub whole : List Model → List ℕ → Bool
whole ms x = length x == patch_width ms

-- two patches that can be compared in channel c
pub record Comparable (ms : List Model) (c : ℕ) (q o : List ℕ) : Type 0 where
  pub few : length ms ≤ 8
  pub channel : c < length ms
  pub query : length q ≡ patch_width ms
  pub patch : length o ≡ patch_width ms

-- in every channel
pub record AllComparable (ms : List Model) (weights q o : List ℕ) : Type 0 where
  pub few : length ms ≤ 8
  pub query : length q ≡ patch_width ms
  pub patch : length o ≡ patch_width ms
  pub weighed : length weights ≡ length ms

-- why not in one channel
abbrev pub channel_refusal : List Model → (c : ℕ) (q o : List ℕ) → Option Refusal
channel_refusal ms c q o =
    cond (nat_lt 8 (length ms)) (Some TooManyChannels)
    (cond (nat_lt c (length ms))
    (cond (whole ms q && whole ms o) None (Some WrongRowsLength))
    (Some NoSuchChannel))

-- why not in every channel
abbrev pub aggregate_refusal : List Model → (weights q o : List ℕ) → Option Refusal
aggregate_refusal ms weights q o =
    cond (nat_lt 8 (length ms)) (Some TooManyChannels)
    (cond (whole ms q && whole ms o)
    (cond (length weights == length ms) None (Some WrongWeightsLength))
    (Some WrongRowsLength))
