use Rattle.std.proofs.Common.{◌≡◌, Some, None, [], ap, sym, ◌∙◌}
use Rattle.std.proofs.lemmas.Option.{slice_get-get_or}
use Rattle.iso_program.specs.Callables.{callee_at}
use Rattle.iso_db.specs.Presents.{contents}
use Rattle.iso_model.specs.Search.Errors.{key}
use Rattle.iso_atoms.specs.Texts.{text_at}
use Rattle.iso_program.specs.declared.callables.Callee.TheVariants as callee
use Rattle.iso_program.proofs.AddingLemmas.{called_user}
use Rattle.iso_search.proofs.CalledLemmas.{found_by, found_none}
use Rattle.iso_search.proofs.search.Search.user_place.Goals as goal

pub returns-in-Some-User : goal.returns-in-Some-User
returns-in-Some-User g c = λ none.
    (let e = c.args.self.now in
    let names = g.S.Store.names e.store in
    let k = key (text_at names c.args.name) c.args.arity in
    let found : callee_at e.callables.items c.args.name c.args.arity ≡ Some (callee.User c.in-Some-User.place) = (rw c.as_slice.ensures.value at (sym c.find.ensures)) ∙ c.in-Some-User.is ∙ ap Some c.in-Some-User.field-0-is in
    (called_user (contents e.db) k c.in-Some-User.place (found_by names e.callables.items (contents e.db) c.args.name c.args.arity (callee.User c.in-Some-User.place) c.requires.found found)).1)

pub returns-in-None : goal.returns-in-None
returns-in-None g c = λ none.
    (let e = c.args.self.now in
    let names = g.S.Store.names e.store in
    let nothing : callee_at e.callables.items c.args.name c.args.arity ≡ None = (rw c.as_slice.ensures.value at (sym c.find.ensures)) ∙ c.in-None.is in
    (found_none names e.callables.items (contents e.db) c.args.name c.args.arity (text_at names c.args.name) c.requires.each_once (slice_get-get_or names c.args.name [] c.requires.name) c.requires.found nothing).1)
