-- The program's status for what a session came to.
use Rattle.std.specs.Prelude.{ℕ, Result, Ok, Err}
use Rattle.iso_session_core.specs.declared.statuses.Ended.{Ended}
use Rattle.iso_session_core.specs.declared.statuses.Ended.TheVariants as ended
use Rattle.iso_session_core.specs.declared.statuses.Fault.{Fault}
use Rattle.iso_session_core.specs.declared.statuses.Fault.TheVariants as fault

abbrev pub status : Result Ended Fault → ℕ
status (Ok ended.Done) = 0
status (Ok (ended.Halt n)) = n
status (Ok ended.HeapFull) = 3
status (Ok ended.FramesFull) = 3
status (Ok ended.NoMemory) = 3
status (Err fault.Output) = 4
