-- None of the callables so far has this arity.
use Rattle.std.proofs.Common.{◌≡◌, drop}
use Rattle.iso_program.specs.Callables.{callee_in}
use Rattle.iso_program.proofs.callables.among.Given as goal

abbrev pub invariant-loop-callable : goal.invariant-loop-callable
invariant-loop-callable l = callee_in l.callables l.arity ≡ callee_in (drop l.callable-index l.callables) l.arity
