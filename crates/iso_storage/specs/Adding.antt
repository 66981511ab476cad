-- Clauses that goals add.
use Rattle.std.specs.Prelude.{Result, Ok, Err}
use Rattle.iso_model.specs.Terms.Trees.{Tree}
use Rattle.iso_model.specs.Search.Keys.{Key}
use Rattle.iso_model.specs.Search.Additions.{Check, Fits, Faulty, checked, fault_error}
use Rattle.iso_model.specs.declared.pauses.Ball.{Ball}
use Rattle.iso_lib_core.specs.declared.outcomes.Fault.{Fault}
use Rattle.iso_lib_core.specs.declared.outcomes.Fault.TheVariants as fault
use Rattle.iso_lib_core.specs.Replies.{IsError}
use Rattle.iso_program.specs.Kept.{IsAddition}
use Rattle.iso_program.specs.declared.checked.Checked.{Checked}

-- the checks found a fault, for which this procedure throws this ball
abbrev pub IsFaulty : Key → Check → Ball → Type 0
IsFaulty by (Fits k b) ball = ⊥
IsFaulty by (Faulty fault) ball = IsError (fault_error by fault) ball

-- The clause is to be added, or this procedure throws the error for it.
abbrev pub IsPrepared : Key → Tree → Result Checked Fault → Type 0
IsPrepared by t (Ok kept) = IsAddition t kept
IsPrepared by t (Err (fault.Raise ball)) = IsFaulty by (checked t) ball
IsPrepared by t (Err fault.Full) = ⊥
IsPrepared by t (Err fault.NoMemory) = Unit {0}
