use Rattle.std.proofs.Common.{◌-◌, ◌∙◌, List, ap, length, sym}
use Rattle.std.specs.List.{slice_get}
use Rattle.std.specs.Option.{option_copied}
use Rattle.iso_machine.specs.Newest.{frames_of, words_of}
use Rattle.iso_machine.proofs.calling.kept_by_newest.Goals as goal

pub returns-in-Some-clause-frames : goal.returns-in-Some-clause-frames
returns-in-Some-clause-frames g c =
    sym (ap frames_of (ap (λ (cs : List _). slice_get cs (length cs - 1)) (sym c.deref.ensures.value)
    ∙ (sym c.last.ensures.value ∙ ap option_copied c.in-Some.is)))

pub returns-in-Some-clause-words : goal.returns-in-Some-clause-words
returns-in-Some-clause-words g c =
    sym (ap words_of (ap (λ (cs : List _). slice_get cs (length cs - 1)) (sym c.deref.ensures.value)
    ∙ (sym c.last.ensures.value ∙ ap option_copied c.in-Some.is)))

pub returns-in-None-clause-frames : goal.returns-in-None-clause-frames
returns-in-None-clause-frames g c =
    sym (ap frames_of (ap (λ (cs : List _). slice_get cs (length cs - 1)) (sym c.deref.ensures.value)
    ∙ (sym c.last.ensures.value ∙ ap option_copied c.in-None.is)))

pub returns-in-None-clause-words : goal.returns-in-None-clause-words
returns-in-None-clause-words g c =
    sym (ap words_of (ap (λ (cs : List _). slice_get cs (length cs - 1)) (sym c.deref.ensures.value)
    ∙ (sym c.last.ensures.value ∙ ap option_copied c.in-None.is)))
