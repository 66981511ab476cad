-- What a step of the reader gives.
use Rattle.std.specs.Prelude.{◌≡◌, Some, None, Result, Ok, Err}
use Rattle.iso_model.specs.Syntax.Grammar.{Left}
use Rattle.iso_model.specs.Syntax.Reading.{Outcome}
use Rattle.iso_read.specs.declared.clause.ReadFault.{ReadFault}
use Rattle.iso_read.specs.declared.clause.ReadFault.TheVariants as fault

-- The step reads what the grammar's step reads and leaves what that leaves, and is a syntax error where that gives
-- nothing. Where memory is refused, what is left is not used any more.
abbrev pub Gives : {A B : Type 0} → (A → B) → Outcome B → Result A ReadFault → Left → Type 0
Gives view outcome (Ok x) left = outcome ≡ Some (view x, left)
Gives view outcome (Err fault.Syntax) left = outcome ≡ None
Gives view outcome (Err fault.NoMemory) left = Unit {0}
