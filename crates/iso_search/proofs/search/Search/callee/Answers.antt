use Rattle.iso_db.specs.Presents.{contents}
use Rattle.iso_search.proofs.CalledLemmas.{callee_found}
use Rattle.iso_search.proofs.search.Search.callee.Goals as goal

pub returns : goal.returns
returns g c =
    let e = c.args.self.now in
    callee_found (g.S.Store.names e.store) e.callables.items (contents e.db) c.args.name c.args.arity c.requires.each_once c.requires.name c.requires.found c.find.result (rw c.as_slice.ensures.value at c.find.ensures)
