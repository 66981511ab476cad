-- What the words of the program `lint` ask for, read as `clap` reads those of a command.
use Rattle.std.specs.Prelude.{◌≡◌, ◌≢◌, ℕ, List, [], Option, Some, None, Result, Ok, Err, codes}
use Rattle.std.specs.Borrow.{Bor}
use Rattle.clap.specs.Words.{App, Text, IsAmong, fault_of, first_of, matches_of, new_app, with_rule}
use Rattle.clap.specs.declared.error.kind.ErrorKind.{ErrorKind}
use Rattle.clap.specs.declared.error.kind.ErrorKind.TheVariants.{DisplayHelp}
use Rattle.iso_session_core.specs.Words.{file_rule, no_name}
use Rattle.iso_session_core.specs.declared.words.WordsFault.{WordsFault}
use Rattle.iso_session_core.specs.declared.words.WordsFault.TheVariants as fault

-- the program's one word
abbrev pub program : App
program = with_rule (no_name (new_app (codes "lint"))) file_rule

abbrev pub FILE : Text
FILE = codes "FILE"

-- the words are no use of the program: `clap` takes them not, for another reason than a wish for help, or there is
-- no file
pub data IsMisuse (words : List Text) : Type 0 where
  refused : {kind : ErrorKind} → kind ≢ DisplayHelp → IsAmong kind (fault_of program words) → IsMisuse words
  no_file : fault_of program words ≡ [] → first_of FILE (matches_of program words) ≡ None → IsMisuse words

-- what the file's value comes to
abbrev pub FileSays : Option Text → Result (Bor (List ℕ)) WordsFault → Type 0
FileSays value (Ok file) = value ≡ Some file.now
FileSays value (Err fault.Help) = ⊥
FileSays value (Err (fault.Usage line)) = value ≡ None
FileSays value (Err fault.NoMemory) = Unit {0}

-- what reading the words comes to: the file, or a fault
abbrev pub WordsSay : List Text → Result (Bor (List ℕ)) WordsFault → Type 0
WordsSay words (Ok file) = (fault_of program words ≡ []) × (first_of FILE (matches_of program words) ≡ Some file.now)
WordsSay words (Err fault.Help) = IsAmong DisplayHelp (fault_of program words)
WordsSay words (Err (fault.Usage line)) = IsMisuse words
WordsSay words (Err fault.NoMemory) = Unit {0}
