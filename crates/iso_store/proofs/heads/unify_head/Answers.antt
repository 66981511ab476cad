use Rattle.iso_store.proofs.HeadMet.{met-result}
use Rattle.iso_store.proofs.heads.unify_head.Goals as goal

pub returns-clause-met : goal.returns-clause-met
returns-clause-met g c = λ t pattern.
    met-result _ _ _ _ c.take_scratch.ensures.present c.keep.ensures.present c.args.goal t c.args.count c.unify_head_with-met.new.words.items c.unify_head_with-met.result (c.unify_head_with-met.ensures.met t (rw c.take_scratch.ensures.names pattern))

pub returns-clause-marks : goal.returns-clause-marks
returns-clause-marks g c = λ m p h. c.keep.ensures.marks m p (c.unify_head_with-met.ensures.marks m p (c.take_scratch.ensures.marks m p h))
