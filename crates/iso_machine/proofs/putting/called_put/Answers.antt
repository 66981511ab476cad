use Rattle.std.proofs.Common.{◌≡◌, ◌∙◌, ℕ, Some, length, map, ap, sym}
use Rattle.std.proofs.lemmas.List.{length-map}
use Rattle.iso_atoms.specs.Texts.{text_at}
use Rattle.iso_model.specs.Search.Keys.{key}
use Rattle.iso_store_core.specs.Presents.{meaning}
use Rattle.iso_search_core.specs.Own.{own_of}
use Rattle.iso_search.proofs.CalledLemmas.{named_calls}
use Rattle.iso_machine.specs.Engines.{framed}
use Rattle.iso_machine.specs.GoalCalls.{goal_put}
use Rattle.iso_machine.proofs.GoalTerms.{goal_first, goal_key}
use Rattle.iso_machine.proofs.putting.called_put.Goals as goal

pub returns : goal.returns
returns g c = λ w is.
    let e = c.args.search.now in
    let p = g.S.Store.present e.store in
    let text = text_at (g.S.Store.names e.store) c.args.name in
    let ws = e.lists.arguments.items in
    let same : length (map (meaning p) ws) ≡ c.len.result = length-map ws (meaning p) ∙ sym c.len.ensures in
    let named = goal_key text (map (meaning p) ws) ∙ ap (λ (n : ℕ). Some (key text n)) same in
    named_calls (own_of (framed g.S.Cells.atom_word)) (g.S.Store.names e.store) e.db c.named.new.later w
    (goal_put g.S.Store g.S.Cells.atom_word e c.args.name) (key text c.len.result) c.named.result named
    (c.named.ensures w (goal_put g.S.Store g.S.Cells.atom_word e c.args.name) is
    (goal_first p ws c.index-as_slice-0.result text c.requires.some
    (rw c.as_slice.ensures at c.index-as_slice-0.is)))

pub named-requires-clause-each_once : goal.named-requires-clause-each_once
named-requires-clause-each_once g c = g.met.S.Cells.once c.args.search.now.store
