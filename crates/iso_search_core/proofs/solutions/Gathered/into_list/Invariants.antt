-- The copies that are left, before the list, are the list of all.
use Rattle.std.proofs.Common.{◌≡◌, length}
use Rattle.std.specs.Prelude.{map}
use Rattle.iso_model.specs.Terms.TermOf.{term_of}
use Rattle.iso_model.specs.Terms.Lists.{list_before, list_of}
use Rattle.iso_search_core.specs.Solutions.{copies_of}
use Rattle.iso_search_core.proofs.solutions.Gathered.into_list.Given as goal

abbrev pub invariant-loop-copy : goal.invariant-loop-copy
invariant-loop-copy l = list_before (map term_of l.copies.items) (term_of l.list) ≡ list_of (copies_of l.fn.self)

abbrev pub decreases-loop-copy : goal.decreases-loop-copy
decreases-loop-copy l = length l.copies.items
