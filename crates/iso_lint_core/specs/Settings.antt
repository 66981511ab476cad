-- The operators and the flags by which the terms of a text are read, as directives of the text set them.
use Rattle.std.specs.Prelude.{List, codes, if◌then◌else◌}
use Rattle.std.specs.Str.{bytes_eq}
use Rattle.iso_ops.specs.Operators.{Operator}
use Rattle.iso_ops.specs.InitialOperators.{initial_entries}
use Rattle.iso_ops.specs.Settings.{initial_flags}
use Rattle.iso_ops.specs.declared.settings.Flags.{Flags}
use Rattle.iso_model.specs.Terms.Trees.{Tree, Apply, End, More}
use Rattle.iso_model.specs.Search.Worlds.{World, first_world}
use Rattle.iso_model.specs.Search.Settlements.{Settled, Refuses, Changes, Offers}
use Rattle.iso_model.specs.Search.Settings.{op_settled, set_flag_settled}
use Rattle.iso_model.specs.Session.Directives.{TextTerm, AClause, Directive, Initialization, PassedOver, text_term}
use Rattle.iso_lint_core.specs.declared.settings.Settings.{Settings}

-- those before any is set
abbrev pub initial_settings : Settings
initial_settings = record { ops = initial_entries; flags = initial_flags }

-- the world of these operators, and that of these flags; neither has clauses
abbrev pub world_of_operators : List Operator → World
world_of_operators ops = record first_world { operators = ops }

abbrev pub world_of_flags : Flags → World
world_of_flags flags = record first_world { flags = flags }

-- the world behind a goal that changes it or raises an error
abbrev pub world_behind : World → Settled → World
world_behind w (Refuses error) = w
world_behind w (Changes made after) = after
world_behind w (Offers left rights) = w

-- the operators behind a goal `op(P, T, Names)`, as it sets them (8.14.3)
abbrev pub operators_behind : Tree → Tree → Tree → List Operator → List Operator
operators_behind p t names ops = (world_behind (world_of_operators ops) (op_settled p t names (world_of_operators ops))).operators

-- the flags behind a goal `set_prolog_flag(F, V)` (8.17.1)
abbrev pub flags_behind : Tree → Tree → Flags → Flags
flags_behind f v flags = (world_behind (world_of_flags flags) (set_flag_settled f v (world_of_flags flags))).flags

-- the settings behind this goal: goals that set operators or flags are honoured, and no other is run
abbrev pub behind_goal : Tree → Settings → Settings
behind_goal (Apply g (More f (More v End))) s = if bytes_eq g (codes "set_prolog_flag") then record s { flags = flags_behind f v s.flags } else s
behind_goal (Apply g (More p (More t (More names End)))) s = if bytes_eq g (codes "op") then record s { ops = operators_behind p t names s.ops } else s
behind_goal t s = s

abbrev pub behind_text_term : TextTerm → Settings → Settings
behind_text_term AClause s = s
behind_text_term (Directive goal) s = behind_goal goal s
behind_text_term (Initialization goal) s = s
behind_text_term PassedOver s = s

-- the settings behind this term of the text (7.4.2)
abbrev pub behind_term : Tree → Settings → Settings
behind_term t s = behind_text_term (text_term t) s
