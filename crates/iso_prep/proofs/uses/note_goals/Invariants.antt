-- The goals that are left make the uses that all of them make.
use Rattle.std.proofs.Common.{◌≡◌, ◌+◌, drop}
use Rattle.iso_prep.specs.Uses.{with_goals, goal_terms}
use Rattle.iso_prep.proofs.uses.note_goals.Given as goal

abbrev pub invariant-loop-index : goal.invariant-loop-index
invariant-loop-index l = with_goals (l.index + 1) (goal_terms (drop l.index l.goals)) l.uses.items ≡ with_goals 1 (goal_terms l.goals) l.fn.uses.items
