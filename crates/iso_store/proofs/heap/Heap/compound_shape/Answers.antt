use Rattle.std.proofs.Common.{take, ap, sym, ◌∙◌}
use Rattle.iso_model.specs.Terms.Trees.{Apply, row}
use Rattle.iso_model.specs.Terms.Substitutions.{apply}
use Rattle.iso_store_core.proofs.AtomLemmas.{text-kept, atom-kept}
use Rattle.iso_store.specs.declared.heap_cells.HeapWord.TheVariants.{Structure}
use Rattle.iso_store.specs.HeapTerms.{heap_substitution}
use Rattle.iso_store.specs.HeapLemmas.{terms_before}
use Rattle.iso_store.proofs.HeapNames.{first-kept}
use Rattle.iso_store.proofs.HeapReads.{shows_compound, compound_count}
use Rattle.iso_store.specs.HeapSorted.{sorted-meaning}
use Rattle.iso_store.proofs.heap.Heap.compound_shape.Goals as goal

pub returns-clause-shape : goal.returns-clause-shape
returns-clause-shape c =
    let now = c.args.self.now in
    let names = take now.named now.atoms in
    let keeps = first-kept now.atoms now.named in
    let there = c.functor-name.ensures in
    let name = c.functor-name.result.0 in
    let count = c.functor-name.result.1 in
    let known = (now.is_heap.functor c.args.place name count there).name in
    let ts = apply (heap_substitution names now.area.low) (row (terms_before names now.area.low c.args.place count)) in
    let shown = shows_compound names now.area.low now.next now.is_heap c.args.place name count there in (
      atom-kept names now.atoms keeps name known,
      ts,
      shown ∙ ap (λ f. Apply f ts) (sym (text-kept names now.atoms keeps name known)),
      compound_count names now.area.low now.next now.is_heap c.args.place name count there,
    )

pub returns-clause-term : goal.returns-clause-term
returns-clause-term c =
    let now = c.args.self.now in
    sorted-meaning (take now.named now.atoms) now.area.low now.next now.is_heap (Structure c.args.place) c.requires
