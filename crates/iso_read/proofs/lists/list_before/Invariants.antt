-- The list so far stands behind the elements that are left.
use Rattle.std.proofs.Common.{◌≡◌, map}
use Rattle.iso_model.specs.Syntax.Lists as model
use Rattle.iso_model.specs.Terms.TermOf.{term_of}
use Rattle.iso_read.proofs.lists.list_before.Given as goal

abbrev pub invariant-loop-term : goal.invariant-loop-term
invariant-loop-term l = model.list_before (map term_of l.term-iterator.iter.rest.items) (term_of l.list) ≡ model.list_before (map term_of l.fn.terms.items) (term_of l.fn.tail)
