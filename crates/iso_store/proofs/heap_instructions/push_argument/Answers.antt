use Rattle.std.proofs.Common.{take}
use Rattle.iso_store.specs.declared.heap_cells.Cell.TheVariants.{Argument}
use Rattle.iso_store.proofs.HeapPushes.{substitution-more}
use Rattle.iso_store.proofs.HeapInstructionLemmas.{last-word, words-more}
use Rattle.iso_store.proofs.heap_instructions.push_argument.Goals as goal

pub returns-clause-pushed : goal.returns-clause-pushed
returns-clause-pushed c ts last =
    let now = c.args.heap.now in
    let after = c.in_ok-push.ensures in
    rw (after.low, after.atoms, after.named) (last-word (take now.named now.atoms) now.area.low ts last now.next c.args.word now.is_heap c.requires)

pub returns-clause-words : goal.returns-clause-words
returns-clause-words c =
    let now = c.args.heap.now in
    let after = c.in_ok-push.ensures in
    rw (after.low, after.atoms, after.named, after.next, after.capacity) (words-more (take now.named now.atoms) now.area.low now.next now.area.capacity (Argument c.args.word) now.is_heap c.requires)

pub returns-clause-substitution : goal.returns-clause-substitution
returns-clause-substitution c =
    let now = c.args.heap.now in
    let after = c.in_ok-push.ensures in
    rw (after.low, after.atoms, after.named) (substitution-more (take now.named now.atoms) now.area.low now.next now.is_heap (Argument c.args.word) c.requires)
