use Rattle.std.proofs.Common.{◌∙◌}
use Rattle.iso_store.proofs.NodeReads.{end_is_variable}
use Rattle.iso_store.proofs.NodeBound.{binding-store, binding-binds, binding-marks, binding-places, binding-grows}
use Rattle.iso_store.proofs.Apart.{leads-bound}
use Rattle.iso_store.proofs.nodes.NodesPrimitives.bind.Goals as goal

pub invariant_of-self-2 : goal.invariant_of-self-2
invariant_of-self-2 c =
    let grown = rw c.if-is_err.ensures.negation at c.push.ensures.items in
    record { is_store = binding-store c.args.self.now.atoms _ _ _ c.args.self.now.limit c.args.self.now.is_store c.args.variable c.args.word _ _ c.args.number c.walked-place.ensures.within c.walked-place.ensures.end c.walked-place.ensures.same c.walked-target.ensures.within c.walked-target.ensures.end c.walked-target.ensures.same c.requires.variable c.requires.absent c.requires.younger _ grown; leads_back = leads-bound _ _ c.args.number _ _ _ _ (end_is_variable c.args.self.now.atoms _ _ _ c.args.self.now.is_store _ c.walked-place.ensures.end c.args.number c.walked-place.ensures.within (c.walked-place.ensures.same ∙ c.requires.variable)) c.args.self.now.leads_back c.farther-self.ensures.others c.farther-self.ensures.this_one; each_once = c.args.self.now.each_once }

pub returns-clause-bound : goal.returns-clause-bound
returns-clause-bound c =
    let grown = rw c.if-is_err.ensures.negation at c.push.ensures.items in
    binding-binds c.args.self.now.atoms _ _ _ c.args.self.now.limit c.args.self.now.is_store c.args.variable c.args.word _ _ c.args.number c.walked-place.ensures.within c.walked-place.ensures.end c.walked-place.ensures.same c.walked-target.ensures.within c.walked-target.ensures.end c.walked-target.ensures.same c.requires.variable c.requires.absent c.requires.younger _ grown

pub returns-clause-cells : goal.returns-clause-cells
returns-clause-cells c =
    binding-grows c.args.self.now.atoms _ _ _ c.args.self.now.limit c.args.self.now.is_store c.args.variable c.args.word _ _ c.args.number c.walked-place.ensures.within c.walked-place.ensures.end c.walked-place.ensures.same c.walked-target.ensures.within c.walked-target.ensures.end c.walked-target.ensures.same c.requires.variable c.requires.absent c.requires.younger c.push.new.self.items

pub returns-clause-places : goal.returns-clause-places
returns-clause-places c =
    let grown = rw c.if-is_err.ensures.negation at c.push.ensures.items in
    binding-places c.args.self.now.atoms _ _ _ c.args.self.now.limit c.args.self.now.is_store c.args.variable c.args.word _ _ c.args.number c.walked-place.ensures.within c.walked-place.ensures.end c.walked-place.ensures.same c.walked-target.ensures.within c.walked-target.ensures.end c.walked-target.ensures.same c.requires.variable c.requires.absent c.requires.younger _ grown

pub returns-clause-marks : goal.returns-clause-marks
returns-clause-marks c =
    let grown = rw c.if-is_err.ensures.negation at c.push.ensures.items in
    binding-marks c.args.self.now.atoms _ _ _ c.args.self.now.limit c.args.self.now.is_store c.args.variable c.args.word _ _ c.args.number c.walked-place.ensures.within c.walked-place.ensures.end c.walked-place.ensures.same c.walked-target.ensures.within c.walked-target.ensures.end c.walked-target.ensures.same c.requires.variable c.requires.absent c.requires.younger _ grown
