use Rattle.std.proofs.Common.{◌≡◌, take, sym, ap, ◌∙◌, arith, Some}
use Rattle.std.proofs.lemmas.Option.{slice_get_within}
use Rattle.iso_model.specs.Terms.Variables.{occurs}
use Rattle.iso_store_core.specs.Arguments.{arity}
use Rattle.iso_store_core.specs.Presents.{meaning}
use Rattle.iso_store.specs.declared.heap_cells.Cell.TheVariants.{Unbound}
use Rattle.iso_store.proofs.HeapBuilt.{as_present}
use Rattle.iso_store.proofs.HeapReads.{end_is_variable}
use Rattle.iso_store.proofs.HeapBound.{end_cell}
use Rattle.iso_store.proofs.HeapInstructionLemmas.{bound-unifies}
use Rattle.iso_store.proofs.heap_instructions.HeapCells.bind_made.Goals as goal

pub unreachable-requires : goal.unreachable-requires
unreachable-requires c =
    let now = c.args.self.now in
    let found = end_is_variable (take now.named now.atoms) now.area.low now.next now.is_heap c.walked_near.result c.requires.apart.0 c.walked_near.ensures.holds c.walked_near.ensures.end (c.walked_near.ensures.same ∙ c.requires.apart.1) in
    c.in_default.not-Var found.0 found.1

pub number-number-requires-clause-index : goal.number-number-requires-clause-index
number-number-requires-clause-index c =
    let now = c.args.self.now in
    let n = c.requires.apart.0 in
    slice_get_within now.area.low c.in-Var.place (Unbound n) (end_cell (take now.named now.atoms) now.area.low now.next now.is_heap c.args.variable c.in-Var.place n c.in-Var.ensures.holds c.in-Var.ensures.end c.in-Var.ensures.same c.requires.apart.1)

pub bind_place-requires-clause-absent : goal.bind_place-requires-clause-absent
bind_place-requires-clause-absent c =
    let now = c.args.self.now in
    let n = c.requires.apart.0 in
    let free = end_cell (take now.named now.atoms) now.area.low now.next now.is_heap c.args.variable c.in-Var.place n c.in-Var.ensures.holds c.in-Var.ensures.end c.in-Var.ensures.same c.requires.apart.1 in
    let both : Some (Unbound c.number-number.result) ≡ Some (Unbound n) = sym c.number-number.ensures ∙ free in
    let same : c.number-number.result ≡ n = cc in
    ap (λ k. occurs k (meaning (as_present now) c.walked-target.result)) same ∙ ap (occurs n) c.walked-target.ensures.same ∙ c.requires.apart.2

pub returns-in-Ok-clause-unified : goal.returns-in-Ok-clause-unified
returns-in-Ok-clause-unified c =
    let now = c.args.self.now in
    let n = c.requires.apart.0 in
    let free = end_cell (take now.named now.atoms) now.area.low now.next now.is_heap c.args.variable c.in-Var.place n c.in-Var.ensures.holds c.in-Var.ensures.end c.in-Var.ensures.same c.requires.apart.1 in
    let both : Some (Unbound c.number-number.result) ≡ Some (Unbound n) = sym c.number-number.ensures ∙ free in
    let same : c.number-number.result ≡ n = cc in
    let bound = rw same at c.in-Ok.ensures.bound in
    let compound = c.requires.compound in
    bound-unifies n (meaning (as_present now) c.args.variable) (meaning (as_present now) c.args.compound) (meaning (as_present now) c.walked-target.result) c.requires.apart.1 c.walked-target.ensures.same c.requires.apart.2
    (λ m is. let none = ap arity is in absurd (omega arith))
    bound
