use Rattle.std.proofs.Common.{sym, ap, ◌∙◌}
use Rattle.iso_model.specs.Search.BuiltIns.{built_in}
use Rattle.iso_model.specs.Search.Errors.{key}
use Rattle.iso_store_core.proofs.AtomLemmas.{text-is}
use Rattle.iso_storage.proofs.KeptPrograms.{found_in}
use Rattle.iso_storage.proofs.declarations.place_of.Goals as goal

pub place-requires-clause-user : goal.place-requires-clause-user
place-requires-clause-user g c =
    let f = c.args.functor in
    ap (λ t. built_in (key t f.arity)) (sym (text-is (g.S.Store.names c.args.store.now) f.name c.text-text.result.now c.text-text.ensures)) ∙ c.requires.user.alone

pub returns-clause-kept : goal.returns-clause-kept
returns-clause-kept g c = λ m is. record {
  database = c.place.ensures.database (g.S.Store.names c.args.store.now) m is.database;
  found = c.place.ensures.found (g.S.Store.names c.args.store.now) (found_in c.args.functor c.text-text.result.now is c.requires.each_once c.text-text.ensures);
}
