use Rattle.std.proofs.Common.{◌≡◌, Some, ap, ◌∙◌}
use Rattle.iso_program.specs.Callables.{callee_of}
use Rattle.iso_db.specs.Presents.{contents}
use Rattle.iso_model.specs.Search.Errors.{key}
use Rattle.iso_atoms.specs.Texts.{text_at}
use Rattle.iso_program.specs.declared.callables.Callee.TheVariants as callee
use Rattle.iso_program.proofs.AddingLemmas.{called_own}
use Rattle.iso_search.proofs.search.Search.named.Goals as goal

pub left_of-requires-clause-called : goal.left_of-requires-clause-called
left_of-requires-clause-called g c =
    let e = c.args.self.now in
    (key (text_at (g.S.Store.names e.store) c.args.name) c.args.arity, rw (c.in-Some-User.is ∙ ap Some c.in-Some-User.field-0-is) at c.callee.ensures)

pub returns-in-Some-User : goal.returns-in-Some-User
returns-in-Some-User g c = λ w t is first.
    (let e = c.args.self.now in
    let k = key (text_at (g.S.Store.names e.store) c.args.name) c.args.arity in
    let user : callee_of (contents e.db) k ≡ Some (callee.User c.in-Some-User.place) = rw (c.in-Some-User.is ∙ ap Some c.in-Some-User.field-0-is) at c.callee.ensures in
    c.left_of.ensures w k t is user (c.key_of_argument.ensures t first))

pub returns-in-Some-BuiltIn : goal.returns-in-Some-BuiltIn
returns-in-Some-BuiltIn g c = λ w t is first.
    (let e = c.args.self.now in
    let k = key (text_at (g.S.Store.names e.store) c.args.name) c.args.arity in
    let own : callee_of (contents e.db) k ≡ Some (callee.BuiltIn c.in-Some-BuiltIn.built_in) = rw (c.in-Some-BuiltIn.is ∙ ap Some c.in-Some-BuiltIn.field-0-is) at c.callee.ensures in
    rw c.in-Some-BuiltIn.built_in-is (called_own (contents e.db) k c.in-Some-BuiltIn.built_in own))

pub returns-in-None : goal.returns-in-None
returns-in-None g c = λ w t is first.
    (let e = c.args.self.now in
    let names = g.S.Store.names e.store in
    let k = key (text_at names c.args.name) c.args.arity in
    let none = rw c.in-None.is at c.callee.ensures in
    c.unknown.ensures names c.args.later.now w k t is none.0 none.1)
