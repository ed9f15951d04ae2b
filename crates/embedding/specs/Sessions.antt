-- Commands served.
use Rattle.std.specs.Prelude.{ℕ}
use Rattle.std.specs.declared.ops.ControlFlow.{ControlFlow}
use Rattle.std.specs.declared.ops.ControlFlow.TheVariants.{Continue, Break}

-- how far the answers go, whether there may be more or not
abbrev pub reached : ControlFlow ℕ ℕ → ℕ
reached (Continue n) = n
reached (Break n) = n
