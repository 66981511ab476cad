use Rattle.std.proofs.Common.{◌≡◌, Some, ap, ◌∙◌}
use Rattle.iso_db.specs.Presents.{contents}
use Rattle.iso_model.specs.Search.Errors.{key}
use Rattle.iso_model.specs.Search.Databases.{key_of}
use Rattle.iso_store_core.specs.Presents.{meaning}
use Rattle.iso_atoms.specs.Texts.{text_at}
use Rattle.iso_search.proofs.ShowEnds.{place_by}
use Rattle.iso_search.proofs.search.Search.place_of.Goals as goal

pub returns-in-Atom : goal.returns-in-Atom
returns-in-Atom g c = λ k is none.
    (let e = c.args.self.now in
    place_by (contents e.db) (text_at (g.S.Store.names e.store) c.in-Atom.name) 0 (meaning (g.S.Store.present e.store) c.args.head) k c.user_place.result (ap key_of c.in-Atom.ensures.shape.1) is none c.user_place.ensures)

pub returns-in-Compound : goal.returns-in-Compound
returns-in-Compound g c = λ k is none.
    (let e = c.args.self.now in
    let shape = c.in-Compound.ensures.shape in
    let text = text_at (g.S.Store.names e.store) c.in-Compound.name in
    let shown : key_of (meaning (g.S.Store.present e.store) c.args.head) ≡ Some (key text c.in-Compound.arity) = ap key_of shape.2 ∙ ap (λ n. Some (key text n)) shape.3 in
    place_by (contents e.db) text c.in-Compound.arity (meaning (g.S.Store.present e.store) c.args.head) k c.user_place-in-Compound.result shown is none c.user_place-in-Compound.ensures)
