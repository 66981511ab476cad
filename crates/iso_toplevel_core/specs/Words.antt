-- What the toplevel's words ask for: as the program's, but the file may be left out.
use Rattle.std.specs.Prelude.{◌≡◌, ◌≢◌, false, List, [], Some, None, Result, Ok, Err, option_map, codes}
use Rattle.std.specs.String.{string_bytes}
use Rattle.clap.specs.Words.{App, Rule, Text, IsAmong, fault_of, first_of, matches_of, new_app, with_rule}
use Rattle.clap.specs.declared.error.kind.ErrorKind.{ErrorKind}
use Rattle.clap.specs.declared.error.kind.ErrorKind.TheVariants.{DisplayHelp}
use Rattle.iso_session_core.specs.Words.{Values, option_rule, file_rule, no_name, budget_of, cells_of, frames_of, engine_of}
use Rattle.iso_session_core.specs.declared.words.WordsFault.{WordsFault}
use Rattle.iso_session_core.specs.declared.words.WordsFault.TheVariants as fault
use Rattle.iso_toplevel_core.specs.declared.words.Words.{Words}

-- the one word that may be there
abbrev pub file_allowed : Rule
file_allowed = record file_rule { required = false }

-- the program's options and its word
abbrev pub program : App
program = with_rule (with_rule (with_rule (with_rule (with_rule (no_name (new_app (codes "toplevel")))
    (option_rule (codes "budget"))) (option_rule (codes "cells"))) (option_rule (codes "frames"))) (option_rule (codes "engine"))) file_allowed

-- what the words give for an option, by its name
abbrev pub given : List Text → Values
given words name = first_of name (matches_of program words)

-- each field is what the options give, or the default; a file may be left out
pub record AreAsked (values : Values) (w : Words) : Type 0 where
  pub budget : budget_of values ≡ Some w.limits.budget
  pub cells : cells_of values ≡ Some w.limits.cells
  pub frames : frames_of values ≡ Some w.limits.frames
  pub engine : engine_of values ≡ Some w.engine
  pub file : values (codes "FILE") ≡ option_map string_bytes w.file

-- some field can't be had
pub data AreMisused (values : Values) : Type 0 where
  no_budget : budget_of values ≡ None → AreMisused values
  no_cells : cells_of values ≡ None → AreMisused values
  no_frames : frames_of values ≡ None → AreMisused values
  no_engine : engine_of values ≡ None → AreMisused values

-- what the fields of the options' values come to
abbrev pub FieldsSay : Values → Result Words WordsFault → Type 0
FieldsSay values (Ok w) = AreAsked values w
FieldsSay values (Err fault.Help) = ⊥
FieldsSay values (Err (fault.Usage line)) = AreMisused values
FieldsSay values (Err fault.NoMemory) = Unit {0}

-- the words are no use of the program: `clap` takes them not, for another reason than a wish for help, or some field
-- can't be had
pub data IsMisuse (words : List Text) : Type 0 where
  refused : {kind : ErrorKind} → kind ≢ DisplayHelp → IsAmong kind (fault_of program words) → IsMisuse words
  misused : fault_of program words ≡ [] → AreMisused (given words) → IsMisuse words

-- what reading the words comes to
abbrev pub WordsSay : List Text → Result Words WordsFault → Type 0
WordsSay words (Ok w) = (fault_of program words ≡ []) × AreAsked (given words) w
WordsSay words (Err fault.Help) = IsAmong DisplayHelp (fault_of program words)
WordsSay words (Err (fault.Usage line)) = IsMisuse words
WordsSay words (Err fault.NoMemory) = Unit {0}
