use Rattle.std.proofs.Common.{ap, sym, ◌∙◌, not, Some}
use Rattle.iso_db.specs.Databases.{is_not_static}
use Rattle.iso_storage.proofs.HeadLemmas.{fixed_own, fixed_there, fixed_none, place_there}
use Rattle.iso_storage.proofs.heads.is_fixed.Goals as goal

pub returns-in-Some-BuiltIn : goal.returns-in-Some-BuiltIn
returns-in-Some-BuiltIn g c = λ names m is named.
    fixed_own is named c.in-Some-BuiltIn.field-0-0 (sym c.find.ensures ∙ c.in-Some-BuiltIn.is ∙ ap Some c.in-Some-BuiltIn.field-0-is)

pub kind-requires : goal.kind-requires
kind-requires g c =
    let h = c.requires in
    place_there h.2 h.3 c.in-Some-User.place (sym c.find.ensures ∙ c.in-Some-User.is ∙ ap Some c.in-Some-User.field-0-is)

pub returns-in-Some-User : goal.returns-in-Some-User
returns-in-Some-User g c = λ names m is named.
    (c.is_static.ensures ∙ ap (λ o. not (is_not_static o)) c.kind.ensures
    ∙ fixed_there is named c.in-Some-User.place (sym c.find.ensures ∙ c.in-Some-User.is ∙ ap Some c.in-Some-User.field-0-is) (sym c.is_control.ensures ∙ c.if-is_control.false))

pub returns-in-None : goal.returns-in-None
returns-in-None g c = λ names m is named.
    fixed_none is named (sym c.find.ensures ∙ c.in-None.is) (sym c.is_control.ensures ∙ c.if-is_control.false)
