use Rattle.std.proofs.Common.{take, ap, sym, ◌∙◌}
use Rattle.iso_model.specs.Terms.Variables.{occurs}
use Rattle.iso_store.proofs.HeapReads.{end_is_variable}
use Rattle.iso_store.proofs.HeapBound.{end_cell}
use Rattle.iso_store.proofs.heap.HeapPrimitives.bind.Goals as goal

pub unreachable-requires : goal.unreachable-requires
unreachable-requires c =
    let now = c.args.self.now in
    let found = end_is_variable (take now.named now.atoms) now.area.low now.next now.is_heap c.walked.result c.args.number c.walked.ensures.holds c.walked.ensures.end (c.walked.ensures.same ∙ c.requires.variable) in
    c.in_default.not-Var found.0 found.1

pub bind_place-requires-clause-free : goal.bind_place-requires-clause-free
bind_place-requires-clause-free c =
    let now = c.args.self.now in
    end_cell (take now.named now.atoms) now.area.low now.next now.is_heap c.args.variable c.in-Var.place c.args.number c.in-Var.ensures.holds c.in-Var.ensures.end c.in-Var.ensures.same c.requires.variable

pub bind_place-requires-clause-absent : goal.bind_place-requires-clause-absent
bind_place-requires-clause-absent c = ap (occurs c.args.number) c.walked-target.ensures.same ∙ c.requires.absent

pub bind_place-requires-clause-younger : goal.bind_place-requires-clause-younger
bind_place-requires-clause-younger c y is = c.requires.younger y (sym c.walked-target.ensures.same ∙ is)

pub returns-in-Ok-clause-bound : goal.returns-in-Ok-clause-bound
returns-in-Ok-clause-bound c = rw c.walked-target.ensures.same at c.in-Ok.ensures.bound
