-- The blocks so far and those of the arguments that are left are all blocks.
use Rattle.std.proofs.Common.{◌≡◌, drop, length}
use Rattle.iso_model.specs.Terms.TermOf.{row_of}
use Rattle.iso_compile.specs.Tasks.{Goes, stage_of, with_head}
use Rattle.iso_compile.proofs.emitting.Emitter.emit_head.Given as goal

abbrev pub invariant-loop-register : goal.invariant-loop-register
invariant-loop-register l =
    (with_head l.register (row_of (drop l.register l.arguments)) (stage_of l.self) ≡ with_head 0 (row_of l.arguments) (stage_of l.fn.self))
    × Goes l.plan.places l.fn.self l.self
    × (length l.self.met.items ≡ length l.fn.self.met.items)
