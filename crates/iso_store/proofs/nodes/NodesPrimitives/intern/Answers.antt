use Rattle.iso_store.proofs.Names.{store-kept, present-kept, marks-kept}
use Rattle.iso_store.proofs.nodes.NodesPrimitives.intern.Goals as goal

pub invariant_of-self : goal.invariant_of-self
invariant_of-self c = record {
  is_store = store-kept c.args.self.now.atoms c.intern.new.self c.intern.ensures.kept _ _ _ c.args.self.now.is_store;
  leads_back = c.args.self.now.leads_back;
  each_once = c.intern.ensures.each_once;
}

pub returns-clause-present : goal.returns-clause-present
returns-clause-present c = present-kept c.args.self.now.atoms c.intern.new.self c.intern.ensures.kept _ _ _ c.args.self.now.is_store c.args.self.now.limit

pub returns-clause-marks : goal.returns-clause-marks
returns-clause-marks c = marks-kept c.args.self.now.atoms c.intern.new.self c.intern.ensures.kept c.args.self.now.limit _ _
