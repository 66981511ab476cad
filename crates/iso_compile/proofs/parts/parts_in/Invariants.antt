-- What was made and what is left are the parts of all terms.
use Rattle.std.proofs.Common.{◌≡◌, ◌+◌, ◌++◌, map, drop, length}
use Rattle.iso_model.specs.Terms.TermOf.{row_of}
use Rattle.iso_compile.specs.TermCode.{tops, parts}
use Rattle.iso_compile.specs.Emitted.{part_of, Marks}
use Rattle.iso_compile.proofs.parts.parts_in.Given as goal

abbrev pub invariant-loop-term : goal.invariant-loop-term
invariant-loop-term l =
    (map part_of l.parts.items ++ parts l.next (row_of (drop l.term-index l.terms)) ≡ parts l.fn.register (row_of l.terms))
    × (l.next + tops (row_of (drop l.term-index l.terms)) ≡ l.fn.register + tops (row_of l.terms))
    × Marks l.plan.places l.parts.items l.fn.met.items l.met.items
    × (length l.met.items ≡ length l.fn.met.items)
