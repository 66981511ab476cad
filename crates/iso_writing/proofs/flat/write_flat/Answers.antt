use Rattle.std.proofs.Common.{OnOk}
use Rattle.std.proofs.lemmas.Result.{on_ok_weaker}
use Rattle.iso_writing.specs.Writing.{Adds}
use Rattle.iso_writing.proofs.VariableLemmas.{begins_stands, makes_then, adds_widens, widens_on}
use Rattle.iso_writing.proofs.KnownLemmas.{adds_none, compound_adds}
use Rattle.iso_writing.proofs.flat.write_flat.Goals as goal

-- closing the compound keeps what there was
adds : (g : _) (c : goal.After-close g) → OnOk c.close.result (Adds (g.S.Store.present c.push_all_met.new.store) (g.S.Store.present c.close.new.self))
adds g c =
    let h = c.requires.stands in
    let all = c.in_ok-push_all_met.ensures.pushed h.0.arguments h.1 h.2 h.3 (begins_stands c.args.environment.now c.args.compounds.now c.args.block.now.operands.items h) h.7
    (rw c.requires.same h.8) in
    let between = g.S.Store.present c.push_all_met.new.store in
    compound_adds between (g.S.Store.present c.close.new.self) between c.close.result _ (adds_none between) (c.close.ensures.made all.terms all.are all.many_are) c.close.ensures.numbers

pub returns-clause-makes : goal.returns-clause-makes
returns-clause-makes g c =
    on_ok_weaker c.close.result
    (makes_then (g.S.Store.present c.args.store.now) (g.S.Store.present c.push_all_met.new.store) (g.S.Store.present c.close.new.self)
    c.args.block.now.operands.items c.args.first c.args.environment.now c.push_all_met.new.environment
    (rw c.requires.same at c.in_ok-push_all_met.ensures.makes))
    (adds g c)

pub returns-clause-widens : goal.returns-clause-widens
returns-clause-widens g c =
    on_ok_weaker c.close.result (λ (h : Adds (g.S.Store.present c.push_all_met.new.store) (g.S.Store.present c.close.new.self)). widens_on c.in_ok-push_all_met.ensures.widens (adds_widens h)) (adds g c)
