-- What a list says of the variables that were met.
use Rattle.std.specs.Prelude.{◌≡◌, ◌<◌, ℕ, List, length, get_or, Bool, false}
use Rattle.iso_code.specs.declared.operands.Operand.{Operand}
use Rattle.iso_code.specs.Loaded.{met_behind}

-- The list says of each variable that it has whether it was met.
pub record Says (met : ℕ → Bool) (list : List Bool) : Type 0 where
  pub each : (x : ℕ) → x < length list → get_or list x false ≡ met x

-- The new variables of these operands are noted: where the old list says what was met before the operands, the new one
-- says what is met behind them.
pub record Notes (operands : List Operand) (old new : List Bool) : Type 0 where
  pub met : (before : ℕ → Bool) → Says before old → Says (met_behind before operands) new
  pub many : length new ≡ length old
