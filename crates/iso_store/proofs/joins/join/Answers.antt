use Rattle.std.proofs.Common.{sym, ◌∙◌}
use Rattle.iso_model.proofs.OnTerms.CopyingLemmas.{on_ok_by}
use Rattle.iso_store.proofs.JoinLemmas.{joined-more}
use Rattle.iso_store.proofs.joins.join.Goals as goal

pub returns-then-one_place-other_place : goal.returns-then-one_place-other_place
returns-then-one_place-other_place g c =
    let p = g.S.Primitives.present c.args.store.now in
    let at = g.S.Primitives.at_place c.args.store.now in
    on_ok_by c.note.result c.note.ensures
    (joined-more p at c.args.joined.now c.note.new.self c.in-Some-place.other_place c.args.one c.requires.joined c.requires.one (c.requires.equal ∙ sym c.in-Some-place.ensures.value))

pub returns-else-one_place-other_place : goal.returns-else-one_place-other_place
returns-else-one_place-other_place g c =
    let p = g.S.Primitives.present c.args.store.now in
    let at = g.S.Primitives.at_place c.args.store.now in
    on_ok_by c.note-else-one_place-other_place.result c.note-else-one_place-other_place.ensures
    (joined-more p at c.args.joined.now c.note-else-one_place-other_place.new.self c.in-Some.one_place c.args.other c.requires.joined c.requires.other
    (sym c.requires.equal ∙ sym c.in-Some.ensures.value))
