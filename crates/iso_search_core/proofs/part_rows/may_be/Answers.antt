use Rattle.iso_store_core.specs.Presents.{meaning}
use Rattle.iso_search_core.proofs.PartRows.{other_atom}
use Rattle.iso_search_core.proofs.part_rows.may_be.Goals as goal

pub returns-in-Atom : goal.returns-in-Atom
returns-in-Atom g c = λ off.
    other_atom (g.S.Store.names c.args.store.now) c.in-Atom.name (meaning (g.S.Store.present c.args.store.now) c.args.word) c.text.result.now c.args.text.now c.eq.result c.in-Atom.ensures.shape.1 c.text.ensures c.eq.ensures off
