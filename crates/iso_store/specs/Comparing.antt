-- What is left to do of comparing two terms in the standard order.
use Rattle.std.specs.Prelude.{◌≡◌, List}
use Rattle.std.specs.declared.cmp.Ordering.{Ordering}
use Rattle.iso_model.specs.Terms.Trees.{Tree, row}
use Rattle.iso_model.specs.Terms.Order.{term_cmp}
use Rattle.iso_store.specs.declared.meetings.Meeting.TheVariants.{Arguments as Opened}
use Rattle.iso_store.specs.declared.order.Comparison.{Comparison}
use Rattle.iso_store.specs.declared.order.Comparison.TheVariants.{Decided, Arguments}
use Rattle.iso_store.specs.declared.unify.Task.{Task}
use Rattle.iso_store_core.specs.Presents.{Present}
use Rattle.iso_store.specs.Meetings.{IsMeeting}
use Rattle.iso_store.specs.Unifying.{ones, others}

-- what the comparison says of the two terms
abbrev pub IsComparison : Comparison → Tree → Tree → Type 0
IsComparison (Decided o) a b = o ≡ term_cmp a b
IsComparison (Arguments n) a b = IsMeeting (Opened n) a b

-- the order of us and then the terms of the tasks, on the one side, and of vs and those on the other
abbrev pub order_left : {W : Type 0} → Present W → List Tree → List Tree → List (Task W) → Ordering
order_left p us vs tasks = term_cmp (row (ones p us tasks)) (row (others p vs tasks))
