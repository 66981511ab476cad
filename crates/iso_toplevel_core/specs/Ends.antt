-- How queries end.
use Rattle.std.specs.Prelude.{◌≡◌, Bool, List, ◌++◌, codes, Result, Ok}
use Rattle.std.specs.Fmt.{decimal}
use Rattle.iso_ops.specs.Operators.{Operator}
use Rattle.iso_model.specs.Terms.TermOf.{term_of}
use Rattle.iso_model.specs.Session.Lines.{text_of}
use Rattle.iso_model.specs.declared.pauses.Pause.{Pause}
use Rattle.iso_model.specs.declared.pauses.Pause.TheVariants as pause
use Rattle.iso_model.specs.declared.limit.Limit.TheVariants as limit
use Rattle.iso_session_core.specs.Progress.{Place}
use Rattle.iso_session_core.specs.declared.flows.Flow.{Flow}
use Rattle.iso_session_core.specs.declared.flows.Flow.TheVariants as flow
use Rattle.iso_toplevel_core.specs.declared.faults.Fault.{Fault}
use Rattle.iso_toplevel_core.specs.Dialogues.{end_shown, no_more}
use Rattle.iso_toplevel_core.specs.Screens.{PutsPiece}

-- What a pause that ends its query, where these are the operators then, comes to: a text, or a limit. Answers and
-- outputs end no query, and a query that runs is not spent.
abbrev pub EndsShown : Bool → Bool → Bool → List Operator → Pause → Place → Place → Result Flow Fault → Type 0
EndsShown waits within answered table pause.NoMore old new r = PutsPiece (end_shown waits within (no_more answered)) flow.On old new r
EndsShown waits within answered table pause.Budget old new r = PutsPiece (end_shown waits within (codes "budget")) flow.On old new r
EndsShown waits within answered table (pause.Uncaught ball) old new r = PutsPiece (end_shown waits within (codes "error " ++ text_of table (term_of ball.term.value))) flow.On old new r
EndsShown waits within answered table (pause.Halt status) old new r = PutsPiece (end_shown waits within (codes "halt " ++ decimal status)) (flow.Halts status) old new r
EndsShown waits within answered table pause.HeapFull old new r = (r ≡ Ok (flow.Stops limit.Heap)) × (new ≡ old)
EndsShown waits within answered table pause.FramesFull old new r = (r ≡ Ok (flow.Stops limit.Frames)) × (new ≡ old)
EndsShown waits within answered table pause.NoMemory old new r = (r ≡ Ok (flow.Stops limit.Memory)) × (new ≡ old)
EndsShown waits within answered table other old new r = Unit {0}
