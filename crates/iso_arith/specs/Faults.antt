-- What a fault says of the value of an expression.
use Rattle.std.specs.Prelude.{◌≡◌, ◌<◌, ℕ, ℤ, List, length, Result, Ok, Err}
use Rattle.iso_atoms.specs.Texts.{text_at}
use Rattle.iso_model.specs.Terms.Trees.{Tree}
use Rattle.iso_model.specs.Search.Keys.{key}
use Rattle.iso_model.specs.Search.Arithmetic.{Value, unbound, not_evaluable, not_float, overflow, zero_divisor, undefined}
use Rattle.iso_arith.specs.declared.faults.Refusal.{Refusal}
use Rattle.iso_arith.specs.declared.faults.Refusal.TheVariants.{Overflow, ZeroDivisor, Undefined, NotFloat}
use Rattle.iso_arith.specs.declared.faults.EvalFault.{EvalFault}
use Rattle.iso_arith.specs.declared.faults.EvalFault.TheVariants.{Unbound, NotEvaluable, Refused, NoMemory}

-- the error of an operation
abbrev pub error_of : Refusal → Tree
error_of Overflow = overflow
error_of ZeroDivisor = zero_divisor
error_of Undefined = undefined
error_of (NotFloat z) = not_float z

-- the value that an operation answers
abbrev pub value_of : Result ℤ Refusal → Value
value_of (Ok z) = Ok z
value_of (Err r) = Err (error_of r)

-- The fault is why an expression of this value has none, where these are the names of the atoms.
abbrev pub IsFault : List (List ℕ) → EvalFault → Value → Type 0
IsFault names Unbound v = v ≡ Err unbound
IsFault names (NotEvaluable a n) v = (a < length names) × (n < 256) × (v ≡ Err (not_evaluable (key (text_at names a) n)))
IsFault names (Refused r) v = v ≡ Err (error_of r)
IsFault names NoMemory v = Unit {0}

-- The answer is the value, or the fault is why there is none.
abbrev pub IsAnswer : List (List ℕ) → Result ℤ EvalFault → Value → Type 0
IsAnswer names (Ok z) v = v ≡ Ok z
IsAnswer names (Err e) v = IsFault names e v
