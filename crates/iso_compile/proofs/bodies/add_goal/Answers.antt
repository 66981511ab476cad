use Rattle.iso_model.specs.Terms.TermOf.{term_of}
use Rattle.iso_model.proofs.OnTerms.CopyingLemmas.{on_ok_by}
use Rattle.iso_compile.proofs.BodyLemmas.{does_answer}
use Rattle.iso_compile.proofs.bodies.add_goal.Goals as goal

pub returns-in-Some-clause-does : goal.returns-in-Some-clause-does
returns-in-Some-clause-does c =
    on_ok_by c.add.result c.add.ensures.adds (λ adds m rest goes.
    does_answer c.in-Some.instruction c.args.behind (term_of c.args.goal.now) m rest (adds c.args.plan.now) (rw c.in-Some.is at c.in_ok-instruction.ensures.made.comes) goes)

pub returns-in-Some-clause-right : goal.returns-in-Some-clause-right
returns-in-Some-clause-right c =
    on_ok_by c.add.result c.add.ensures.right (λ right before. right c.args.plan.now before (rw c.in-Some.is at c.in_ok-instruction.ensures.made.right))
