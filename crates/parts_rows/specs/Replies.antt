-- What is kept of a store where a built-in says that it is done, or raises an error.
use Rattle.std.specs.Prelude.{Result, Ok, Err}
use Rattle.iso_store_core.specs.Presents.{Present, KeepsWords}
use Rattle.iso_lib_core.specs.declared.outcomes.Reply.{Reply}
use Rattle.iso_lib_core.specs.declared.outcomes.Reply.TheVariants as reply
use Rattle.iso_lib_core.specs.declared.outcomes.Fault.{Fault}
use Rattle.iso_lib_core.specs.declared.outcomes.Fault.TheVariants as fault

-- words stand on
abbrev pub Stays : {W : Type 0} → Present W → Present W → Result Reply Fault → Type 0
Stays p q (Ok reply.Done) = KeepsWords p q
Stays p q (Ok reply.Fail) = Unit {0}
Stays p q (Err (fault.Raise ball)) = KeepsWords p q
Stays p q (Err fault.Full) = Unit {0}
Stays p q (Err fault.NoMemory) = Unit {0}
