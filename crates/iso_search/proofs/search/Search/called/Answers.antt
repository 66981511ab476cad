use Rattle.iso_model.specs.Terms.Arguments.{arity}
use Rattle.iso_model.specs.Search.Errors.{key}
use Rattle.iso_model.specs.Search.Databases.{key_of}
use Rattle.iso_store_core.specs.Presents.{meaning}
use Rattle.iso_search_core.specs.Own.{own_of}
use Rattle.iso_atoms.specs.Texts.{text_at}
use Rattle.std.proofs.Common.{◌≡◌, Some, ap, sym, ◌∙◌}
use Rattle.iso_search.proofs.CalledLemmas.{named_calls}
use Rattle.iso_search.proofs.search.Search.called.Goals.{in-Atom, in-Compound}
use Rattle.iso_search.proofs.search.Search.called.Goals as goal

pub returns : goal.returns
returns g c = λ w is.
    (let e = c.args.self.now in
    let p = g.S.Store.present e.store in
    elim c.match-shape.branch [
      | in-Atom v ↦
          let text = text_at (g.S.Store.names e.store) v.in-Atom.name in
          named_calls (own_of g.L.Lists) (g.S.Store.names e.store) e.db c.named_goal.new.later w (meaning p c.args.goal) (key text 0) c.named_goal.result (ap key_of v.in-Atom.ensures.shape.1) (rw v.name-is at c.named_goal.ensures w is)
      | in-Compound v ↦
          let shape = v.in-Compound.ensures.shape in
          let text = text_at (g.S.Store.names e.store) v.in-Compound.name in
          let shown : key_of (meaning p c.args.goal) ≡ Some (key text v.in-Compound.arity) = ap key_of shape.2 ∙ ap (λ n. Some (key text n)) shape.3 in
          named_calls (own_of g.L.Lists) (g.S.Store.names e.store) e.db c.named_goal.new.later w (meaning p c.args.goal) (key text v.in-Compound.arity) c.named_goal.result shown (rw v.name-is at c.named_goal.ensures w is)
    ])

pub named_goal-requires-clause-arity : goal.named_goal-requires-clause-arity
named_goal-requires-clause-arity g c =
    elim c.match-shape.branch [
      | in-Atom v ↦ rw v.name-is (sym (ap arity v.in-Atom.ensures.shape.1))
      | in-Compound v ↦ (let shape = v.in-Compound.ensures.shape in rw v.name-is (sym shape.3 ∙ sym (ap arity shape.2)))
    ]
