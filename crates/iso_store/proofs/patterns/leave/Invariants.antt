-- The terms so far stand behind those that there were.
use Rattle.std.proofs.Common.{◌≡◌, ◌++◌, map, take}
use Rattle.iso_store.proofs.patterns.leave.Given as goal

abbrev pub invariant-loop-term : goal.invariant-loop-term
invariant-loop-term l = map (λ t. t.now) l.left.items ≡ map (λ t. t.now) l.fn.left.items ++ take l.term-index l.terms
