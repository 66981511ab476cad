-- What the program's words ask for, read as `clap` reads those of a command.
use Rattle.std.specs.Prelude.{◌≡◌, ◌≢◌, ℕ, Bool, true, false, ◌&&◌, nat_le, List, [], ◌∷◌, Option, Some, None, Result, Ok, Err, ◌⊎◌, codes, if◌then◌else◌}
use Rattle.std.specs.Str.{bytes_eq}
use Rattle.std.specs.List.{list_all}
use Rattle.std.specs.String.{string_bytes}
use Rattle.clap.specs.Words.{App, Rule, Text, IsAmong, fault_of, first_of, matches_of, new_app, new_rule, with_rule}
use Rattle.clap.specs.declared.builder.action.ArgAction.TheVariants.{Set}
use Rattle.clap.specs.declared.error.kind.ErrorKind.{ErrorKind}
use Rattle.clap.specs.declared.error.kind.ErrorKind.TheVariants.{DisplayHelp, OutOfMemory}
use Rattle.iso_model.specs.Syntax.Characters.{is_digit}
use Rattle.iso_model.specs.Syntax.Token.{digits_value}
use Rattle.iso_model.specs.declared.limit.Limits.{Limits}
use Rattle.iso_session_core.specs.declared.statuses.EngineName.{EngineName}
use Rattle.iso_session_core.specs.declared.statuses.EngineName.TheVariants.{Plain, Wam}
use Rattle.iso_session_core.specs.declared.words.Words.{Words}
use Rattle.iso_session_core.specs.declared.words.WordsFault.{WordsFault}
use Rattle.iso_session_core.specs.declared.words.WordsFault.TheVariants as fault

-- an option with one value
abbrev pub option_rule : Text → Rule
option_rule name = record (new_rule name) { long = Some name; action = Some Set }

-- the one word that must be there
abbrev pub file_rule : Rule
file_rule = record (new_rule (codes "FILE")) { required = true; action = Some Set }

-- the words behind the program's name
abbrev pub no_name : App → App
no_name a = record a { top = record a.top { no_binary_name = true } }

-- the program's options and its word
abbrev pub program : App
program = with_rule (with_rule (with_rule (with_rule (with_rule (no_name (new_app (codes "prolog")))
    (option_rule (codes "budget"))) (option_rule (codes "cells"))) (option_rule (codes "frames"))) (option_rule (codes "engine"))) file_rule

-- what the words give for an option, by its name
abbrev pub Values : Type 0
Values = Text → Option Text

abbrev pub given : List Text → Values
given words name = first_of name (matches_of program words)

-- decimal digits alone, and some
abbrev pub is_number : Text → Bool
is_number [] = false
is_number (b ∷ z) = list_all is_digit (b ∷ z)

abbrev pub within : ℕ → ℕ → ℕ → Option ℕ
within least most n = if nat_le least n && nat_le n most then Some n else None

-- the number that an option gives, which is in this range, or the default; nothing where it gives no such number
abbrev pub number_in : ℕ → ℕ → ℕ → Option Text → Option ℕ
number_in default least most None = Some default
number_in default least most (Some text) = if is_number text then within least most (digits_value text) else None

abbrev pub budget_of : Values → Option ℕ
budget_of values = number_in 1000000 0 4294967295 (values (codes "budget"))

abbrev pub cells_of : Values → Option ℕ
cells_of values = number_in 16777216 1 268435456 (values (codes "cells"))

abbrev pub frames_of : Values → Option ℕ
frames_of values = number_in 1000000 1 16777216 (values (codes "frames"))

abbrev pub engine_named : Option Text → Option EngineName
engine_named None = Some Wam
engine_named (Some name) =
    if bytes_eq name (codes "plain") then Some Plain else (if bytes_eq name (codes "wam") then Some Wam else None)

abbrev pub engine_of : Values → Option EngineName
engine_of values = engine_named (values (codes "engine"))

-- what the limits of the options' values come to
abbrev pub LimitsSay : Values → Result Limits WordsFault → Type 0
LimitsSay values (Ok limits) = (budget_of values ≡ Some limits.budget) × (cells_of values ≡ Some limits.cells) × (frames_of values ≡ Some limits.frames)
LimitsSay values (Err fault.Help) = ⊥
LimitsSay values (Err (fault.Usage line)) = (budget_of values ≡ None) ⊎ ((cells_of values ≡ None) ⊎ (frames_of values ≡ None))
LimitsSay values (Err fault.NoMemory) = Unit {0}

-- each field is what the options give, or the default
pub record AreAsked (values : Values) (w : Words) : Type 0 where
  pub budget : budget_of values ≡ Some w.limits.budget
  pub cells : cells_of values ≡ Some w.limits.cells
  pub frames : frames_of values ≡ Some w.limits.frames
  pub engine : engine_of values ≡ Some w.engine
  pub file : values (codes "FILE") ≡ Some (string_bytes w.file)

-- some field can't be had
pub data AreMisused (values : Values) : Type 0 where
  no_budget : budget_of values ≡ None → AreMisused values
  no_cells : cells_of values ≡ None → AreMisused values
  no_frames : frames_of values ≡ None → AreMisused values
  no_engine : engine_of values ≡ None → AreMisused values
  no_file : values (codes "FILE") ≡ None → AreMisused values

-- what the fields of the options' values come to
abbrev pub FieldsSay : Values → Result Words WordsFault → Type 0
FieldsSay values (Ok w) = AreAsked values w
FieldsSay values (Err fault.Help) = ⊥
FieldsSay values (Err (fault.Usage line)) = AreMisused values
FieldsSay values (Err fault.NoMemory) = Unit {0}

-- the words are no use of the program: `clap` takes them not, for another reason than a wish for help, or some field
-- can't be had
pub data IsMisuse (words : List Text) : Type 0 where
  refused : {kind : ErrorKind} → kind ≢ DisplayHelp → IsAmong kind (fault_of program words) → IsMisuse words
  misused : fault_of program words ≡ [] → AreMisused (given words) → IsMisuse words

-- what reading the words comes to
abbrev pub WordsSay : List Text → Result Words WordsFault → Type 0
WordsSay words (Ok w) = (fault_of program words ≡ []) × AreAsked (given words) w
WordsSay words (Err fault.Help) = IsAmong DisplayHelp (fault_of program words)
WordsSay words (Err (fault.Usage line)) = IsMisuse words
WordsSay words (Err fault.NoMemory) = Unit {0}

-- a fault that stands for one of `clap`'s: help for help alone, and no misuse where memory was refused; memory for
-- the line may be refused too
abbrev pub Stands : ErrorKind → WordsFault → Type 0
Stands kind fault.Help = kind ≡ DisplayHelp
Stands kind (fault.Usage line) = (kind ≢ DisplayHelp) × (kind ≢ OutOfMemory)
Stands kind fault.NoMemory = kind ≢ DisplayHelp

-- a fault of a value: it is a misuse only where this holds
abbrev pub Refuses : Type 0 → WordsFault → Type 0
Refuses P fault.Help = ⊥
Refuses P (fault.Usage line) = P
Refuses P fault.NoMemory = Unit {0}
