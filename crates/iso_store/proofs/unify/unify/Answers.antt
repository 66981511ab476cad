use Rattle.iso_store.proofs.unify.unify.Goals as goal

pub returns-clause-marks : goal.returns-clause-marks
returns-clause-marks g c = λ m p h. c.keep.ensures.marks m p (c.unify_with-answer.ensures.marks m p (c.take_scratch.ensures.marks m p h))
