use Rattle.iso_prep.proofs.CopyLemmas.{with_steps-parts, steps_load-parts}
use Rattle.iso_prep.proofs.copies.copy_body.Goals as goal

pub returns-in_ok-push-in-Some-3-clause-steps : goal.returns-in_ok-push-in-Some-3-clause-steps
returns-in_ok-push-in-Some-3-clause-steps c =
    with_steps-parts _ c.in-Some.connective _ _ _ _ _ c.in-Some.first c.in-Some.second c.args.body.now c.in-Some.ensures c.text.ensures c.in_ok-push-in-Some.ensures.items c.in_ok-push-in-Some-2.ensures.items c.in_ok-push-in-Some-3.ensures.items _

pub returns-in_ok-push-in-Some-3-clause-load : goal.returns-in_ok-push-in-Some-3-clause-load
returns-in_ok-push-in-Some-3-clause-load c =
    steps_load-parts _ c.in-Some.connective _ _ _ _ _ c.in-Some.first c.in-Some.second c.args.body.now c.in-Some.ensures c.text.ensures c.in_ok-push-in-Some.ensures.items c.in_ok-push-in-Some-2.ensures.items c.in_ok-push-in-Some-3.ensures.items
