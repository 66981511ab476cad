use Rattle.iso_lint.proofs.places.mark_of.Goals as goal

pub returns-in-None : goal.returns-in-None
returns-in-None c = λ text _. c.first_mark.ensures.marks text
