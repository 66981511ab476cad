use Rattle.std.proofs.Common.{length, get_or, refl, ap, ◌∙◌}
use Rattle.std.specs.List.{list_any}
use Rattle.iso_store.specs.declared.heap_cells.Cell.TheVariants.{Functor}
use Rattle.iso_store.specs.HeapStores.{has_cell_number}
use Rattle.iso_store.proofs.HeapMade.{taken-more}
use Rattle.iso_store.proofs.HeapBuilt.{words-functor, words-made}
use Rattle.iso_store.proofs.heap.HeapPrimitives.compound.Goals as goal

pub push_arguments-requires : goal.push_arguments-requires
push_arguments-requires c k d below = c.know_names.ensures.words.stand (get_or c.args.arguments.now k d) (c.requires.arguments k d below)

pub push-requires : goal.push-requires
push-requires c =
    words-functor c.args.self.now c.know_names.new.self c.push_arguments.new.heap c.know_names.ensures.words c.know_names.ensures.every c.args.arguments.now c.requires.arguments
    c.in_ok-push_arguments.ensures.pushed c.push_arguments.ensures.goes_on c.args.name (length c.args.arguments.now) refl c.requires.name c.requires.some c.requires.few

pub returns-clause-made : goal.returns-clause-made
returns-clause-made c =
    let last = c.in_ok-place.ensures in
    rw last.place (words-made c.args.self.now c.know_names.new.self c.push_arguments.new.heap c.know_names.ensures.words c.know_names.ensures.every c.args.arguments.now c.requires.arguments
    c.in_ok-push_arguments.ensures.pushed c.push_arguments.ensures.goes_on c.args.name (length c.args.arguments.now) refl c.requires.name c.requires.some c.requires.few
    c.push.new.self last.high last.capacity last.atoms last.named last.next last.newest last.low last.room c.know_names.ensures.substitution)

pub returns-clause-numbers : goal.returns-clause-numbers
returns-clause-numbers c =
    let after = c.push_arguments.ensures in
    let last = c.in_ok-place.ensures in
    record {
      next = last.next ∙ after.goes_on.next ∙ c.know_names.ensures.next;
      taken = λ n. ap (list_any (has_cell_number n)) last.low ∙ taken-more c.push_arguments.new.heap.area.low (Functor c.args.name (length c.args.arguments.now)) n refl ∙ after.taken n ∙ ap (λ a. list_any (has_cell_number n) a.low) c.know_names.ensures.area;
    }
