-- What is to be done at most before a goal takes a step, and in all: a number that falls at each move of an engine; and
-- how many cells goals are still to take.
use Rattle.std.specs.Prelude.{ℕ, suc, ◌+◌, List, [], ◌∷◌, length}
use Rattle.iso_db.specs.Keyed.{remaining_keyed}
use Rattle.iso_search_core.specs.Offers.{rows_in}
use Rattle.iso_search_core.specs.Bodies.{left_cost, most}
use Rattle.iso_search_core.specs.declared.choices.Left.{Left}
use Rattle.iso_search_core.specs.declared.choices.Left.TheVariants as left
use Rattle.iso_search_core.specs.declared.choices.Choice as kept
use Rattle.iso_search_core.specs.declared.nows.Now.{Now}
use Rattle.iso_search_core.specs.declared.nows.Now.TheVariants as now

-- what is left to be tried, where so much is to be done behind it
abbrev pub tried_cost : {W C : Type 0} → Left W C → ℕ → ℕ
tried_cost left.AsIs rest = suc rest
tried_cost left.Again rest = suc rest
tried_cost (left.Catching goal) rest = left_cost 1 rest
tried_cost (left.Gathering result gathered) rest = suc rest
tried_cost (left.Grouping by pairs) rest = left_cost most rest
tried_cost (left.Groups by groups) rest = left_cost (length groups.items) rest
tried_cost (left.Offered goal offers) rest = left_cost (length (rows_in offers)) rest
tried_cost (left.Shown shown) rest = left_cost (suc (remaining_keyed shown.later)) rest
tried_cost (left.Clauses attempt) rest = left_cost (suc (remaining_keyed attempt.later)) rest

-- at the choices, where this is to be done from a place on
abbrev pub choices_cost : {W M K P C : Type 0} → (P → ℕ) → List (kept.Choice W M K P C) → ℕ
choices_cost cost [] = 0
choices_cost cost (c ∷ cs) = tried_cost c.left (cost c.rest) + choices_cost cost cs

-- at what comes next
abbrev pub now_cost : {N P : Type 0} → (N → ℕ) → Now N P → ℕ
now_cost cost now.Idle = 0
now_cost cost now.Failing = 0
now_cost cost now.Answering = 1
now_cost cost (now.Running n) = cost n
now_cost cost (now.Raising place) = 1
now_cost cost (now.Spent limit) = 0

-- how many cells goals are still to take where this comes next
abbrev pub now_pending : {N P : Type 0} → (N → ℕ) → Now N P → ℕ
now_pending pending now.Idle = 0
now_pending pending now.Failing = 0
now_pending pending now.Answering = 0
now_pending pending (now.Running n) = pending n
now_pending pending (now.Raising place) = 0
now_pending pending (now.Spent limit) = 0
