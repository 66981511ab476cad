use Rattle.iso_model.specs.Terms.TermOf.{term_of}
use Rattle.iso_compile.proofs.BodyLemmas.{does_call, does_execute, ends_nothing, right_more}
use Rattle.iso_compile.proofs.bodies.add_call.Goals as goal

pub returns-then-behind-eq0-clause-calls : goal.returns-then-behind-eq0-clause-calls
returns-then-behind-eq0-clause-calls c = λ m rest goes.
    does_execute c.args.code.now.items c.in_ok-call.call (term_of c.args.goal.now) m rest c.in_ok-push.ensures.items (record { calls = c.in_ok-call.ensures.calls; parts_are = c.in_ok-call.ensures.parts_are; blocks_are = c.in_ok-call.ensures.blocks_are; cells = c.in_ok-call.ensures.cells }) (ends_nothing c.requires.ends c.if-behind-eq0.true goes)

pub returns-clause-calls : goal.returns-clause-calls
returns-clause-calls c = λ m rest goes.
    does_call c.in_ok-call.call c.args.behind (term_of c.args.goal.now) m rest (c.in_ok-add.ensures.adds c.args.plan.now) (record { calls = c.in_ok-call.ensures.calls; parts_are = c.in_ok-call.ensures.parts_are; blocks_are = c.in_ok-call.ensures.blocks_are; cells = c.in_ok-call.ensures.cells }) goes

pub returns-then-behind-eq0-clause-right : goal.returns-then-behind-eq0-clause-right
returns-then-behind-eq0-clause-right c before = right_more c.args.plan.now _ _ c.in_ok-push.ensures.items before (record { marked = c.in_ok-call.ensures.marks; behind = c.in_ok-call.ensures.registers })

pub returns-clause-right : goal.returns-clause-right
returns-clause-right c before = c.in_ok-add.ensures.right c.args.plan.now before (record { marked = c.in_ok-call.ensures.marks; behind = c.in_ok-call.ensures.registers })
