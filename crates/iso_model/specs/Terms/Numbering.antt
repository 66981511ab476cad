-- Terms whose variables are numbered in the order of their first occurrence.
use Rattle.std.specs.Prelude.{ℕ, ◌+◌, Bool, Option, Some, None, option_and_then, is_some, ◌==◌, nat_lt, if◌then◌else◌}
use Rattle.iso_model.specs.Terms.Trees.{Tree, Variable, Integer, Name, Apply, End, More}

-- The number of the next new variable behind a term, where this is the next one before it; nothing where a variable
-- occurs for the first time under another number.
abbrev pub next_number : Tree → ℕ → Option ℕ
next_number (Variable v) next = if nat_lt v next then Some next else (if v == next then Some (next + 1) else None)
next_number (Integer z) next = Some next
next_number (Name a) next = Some next
next_number (Apply f ts) next = next_number ts next
next_number End next = Some next
next_number (More t ts) next = option_and_then (next_number ts) (next_number t next)

-- whether a term's variables have the numbers 0, 1, .. in the order of their first occurrence
abbrev pub is_numbered : Tree → Bool
is_numbered t = is_some (next_number t 0)
