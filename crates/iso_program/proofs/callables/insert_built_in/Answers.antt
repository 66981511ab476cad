use Rattle.std.proofs.Common.{[], ◌∷◌, ◌++◌}
use Rattle.std.proofs.lemmas.Result.{on_ok_weaker}
use Rattle.iso_program.specs.declared.callables.Callee.TheVariants as callee
use Rattle.iso_program.specs.Callables.{callee_among}
use Rattle.iso_program.proofs.CallableLemmas.{index_kept, index_more, called_more}
use Rattle.iso_program.proofs.callables.insert_built_in.Goals as goal

pub returns-clause-found : goal.returns-clause-found
returns-clause-found g c = λ rows is.
    (let row = c.args.row.now in
    let old = g.S.Store.names c.args.store.now in
    let new = g.S.Store.names c.intern.new.self in
    let ensures = c.in_ok-name.ensures in
    let kept = index_kept old new c.args.callables.now.items (callee_among rows) ensures.names is in
    on_ok_weaker c.insert.result (λ more.
    index_more new c.args.callables.now.items c.insert.new.callables.items (callee_among rows) (callee_among (rows ++ row ∷ [])) c.in_ok-name.name row.1 row.0.now (callee.BuiltIn row.2) ensures.each_once ensures.place more (called_more rows row) kept) c.insert.ensures.ok)
