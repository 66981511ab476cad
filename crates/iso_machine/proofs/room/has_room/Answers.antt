use Rattle.std.proofs.Common.{◌∙◌, arith}
use Rattle.std.proofs.lemmas.Bool.{not-false}
use Rattle.iso_machine.proofs.RoomLemmas.{choices_beyond}
use Rattle.iso_machine.proofs.room.has_room.Goals as goal

pub returns-then-choices-limit-clause-full : goal.returns-then-choices-limit-clause-full
returns-then-choices-limit-clause-full g c = λ done. c.is_beyond.ensures (not-false c.is_beyond.result done)

pub returns-else-choices-limit-clause-full : goal.returns-else-choices-limit-clause-full
returns-else-choices-limit-clause-full g c = λ done.
    let e = c.args.search.now in
    let full = c.if-choices-limit.false in
    let many = c.len-choices.ensures ∙ e.choices.ok.0 in
    choices_beyond g.S.Store g.S.Cells.atom_word e c.args.place.now (omega (arith, full, many))
