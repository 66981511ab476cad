use Rattle.std.proofs.Common.{take}
use Rattle.iso_store_core.specs.Presents.{meaning}
use Rattle.iso_store.specs.declared.heap_cells.HeapWord.TheVariants.{Var}
use Rattle.iso_store.specs.HeapTerms.{made_term, heap_substitution}
use Rattle.iso_store.proofs.HeapBuilt.{as_present}
use Rattle.iso_store.proofs.HeapReads.{shows_variable}
use Rattle.iso_store.proofs.HeapInstructionLemmas.{bound-unifies, constant-absent, constant-applied, constant-other}
use Rattle.iso_store.proofs.heap_instructions.bind_constant.Goals as goal

pub returns-in-Ok-clause-unified : goal.returns-in-Ok-clause-unified
returns-in-Ok-clause-unified c =
    let now = c.args.heap.now in
    let names = take now.named now.atoms in
    let t = made_term names now.area.low c.args.constant in
    bound-unifies c.number-number.result (meaning (as_present now) (Var c.args.place)) t (meaning (as_present now) c.args.constant)
    (shows_variable names now.area.low now.next now.is_heap c.args.place c.number-number.result c.number-number.ensures)
    (constant-applied (heap_substitution names now.area.low) t c.requires.constant)
    (constant-absent t c.number-number.result c.requires.constant)
    (λ m is. absurd (constant-other t m c.requires.constant is))
    c.in-Ok.ensures.bound
