-- What a goal writes.
use Rattle.std.specs.Prelude.{◌≡◌, ℕ, List, Result, Ok, Err, Vec}
use Rattle.std.specs.Global.{Global}
use Rattle.iso_ops.specs.Operators.{Operator}
use Rattle.iso_model.specs.Search.Replies.{Reply, Raises, Writes}
use Rattle.iso_lib_core.specs.declared.outcomes.Fault.{Fault}
use Rattle.iso_lib_core.specs.declared.outcomes.Fault.TheVariants as fault
use Rattle.iso_lib_core.specs.Replies.{IsError}

-- These are the bytes that the goal writes by these operators, or its error is raised.
abbrev pub IsWritten : Reply → List Operator → Result (Vec ℕ Global) Fault → Type 0
IsWritten (Writes bytes) table (Ok written) = written.items ≡ bytes table
IsWritten (Raises error) table (Err (fault.Raise ball)) = IsError error ball
IsWritten reply table (Err fault.NoMemory) = Unit {0}
IsWritten reply table result = ⊥
