-- The solutions that are left, and then those of the list, are the group's.
use Rattle.std.proofs.Common.{◌≡◌, length}
use Rattle.iso_model.specs.Terms.TermOf.{term_of}
use Rattle.iso_model.specs.Terms.Lists.{list_before}
use Rattle.iso_model.specs.Terms.Lists.{list_of}
use Rattle.iso_lib_core.specs.Groupings.{paired, solutions_of}
use Rattle.iso_lib_core.proofs.groups.Group.into_list.Given as goal

abbrev pub invariant-loop-witness : goal.invariant-loop-witness
invariant-loop-witness l = record {
  whole : length l.witnesses.items ≡ length l.items.items;
  list : list_before (paired l.witnesses.items l.items.items) (term_of l.list) ≡ list_of (solutions_of l.fn.self);
}

abbrev pub decreases-loop-witness : goal.decreases-loop-witness
decreases-loop-witness l = length l.witnesses.items
