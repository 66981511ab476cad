-- What was made and what is left is all of it.
use Rattle.std.proofs.Common.{◌≡◌, ◌++◌, map, drop, length}
use Rattle.iso_model.specs.Terms.TermOf.{row_of}
use Rattle.iso_compile.specs.Heads.{gets}
use Rattle.iso_compile.specs.Emitted.{get_of, part_got, Marks}
use Rattle.iso_compile.proofs.heads.gets_of.Given as goal

abbrev pub invariant-loop-register : goal.invariant-loop-register
invariant-loop-register l =
    (map get_of l.code.items ++ gets l.register (row_of (drop l.register l.arguments)) ≡ gets 0 (row_of l.arguments))
    × Marks l.plan.places (map part_got l.code.items) l.fn.met.items l.met.items
    × (length l.met.items ≡ length l.fn.met.items)
