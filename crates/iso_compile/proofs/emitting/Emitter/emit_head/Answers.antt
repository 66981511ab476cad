use Rattle.std.proofs.Common.{◌∙◌}
use Rattle.iso_compile.specs.Tasks.{stage_of}
use Rattle.iso_compile.proofs.HeadCodeLemmas.{head_on}
use Rattle.iso_compile.proofs.emitting.Emitter.emit_head.Goals as goal

pub loop-register-preserved : goal.loop-register-preserved
loop-register-preserved c =
    let before = c.loop-register.invariant in (
      head_on c.args.arguments.now c.loop-register.register c.loop-register-test.true (stage_of c.loop-register.self) (stage_of c.emit.new.self) c.in_ok-emit.ensures.made ∙ before.0,
      λ met parts h. c.in_ok-emit.ensures.marks met parts (before.1 met parts h),
      c.emit.ensures.many ∙ before.2,
    )
