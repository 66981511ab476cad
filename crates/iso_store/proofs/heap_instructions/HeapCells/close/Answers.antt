use Rattle.std.proofs.Common.{take, ap, ◌∙◌}
use Rattle.iso_atoms.specs.Texts.{text_at}
use Rattle.iso_model.specs.Terms.Trees.{Apply, row}
use Rattle.iso_store_core.specs.Presents.{Makes}
use Rattle.iso_store.specs.declared.heap_cells.HeapWord.TheVariants.{Structure}
use Rattle.iso_store.specs.HeapInstructions.{AreLast}
use Rattle.iso_store.proofs.Gathering.{keeps-then}
use Rattle.iso_store.proofs.HeapBuilt.{as_present}
use Rattle.iso_store.proofs.HeapNames.{first-kept}
use Rattle.iso_store.proofs.HeapInstructionLemmas.{last-kept, last-makes}
use Rattle.iso_store.proofs.heap_instructions.HeapCells.close.Goals as goal

pub returns-clause-made : goal.returns-clause-made
returns-clause-made c ts last size =
    let now = c.args.self.now in
    let known = c.know_names.new.self in
    let names = c.know_names.ensures in
    let after = c.in_ok-place.ensures in
    let all = last-kept (take now.named now.atoms) now.atoms now.area.low now.next ts (first-kept now.atoms now.named) now.is_heap last in
    let before : AreLast (take known.named known.atoms) known.area.low ts = rw (names.every, names.area) all in
    let made = last-makes (take known.named known.atoms) known.area.low ts before known.next known.area.capacity c.args.name c.args.count known.is_heap size (rw names.every c.requires.name) c.requires.some c.requires.few in
    let comes : Makes (as_present known) (as_present c.push.new.self) (Structure c.in_ok-place.place) (Apply (text_at (take known.named known.atoms) c.args.name) (row ts)) = rw (after.place, after.low, after.capacity, after.atoms, after.named, after.next) made in
    record {
      words = keeps-then names.words comes.words;
      substitution = comes.substitution ∙ names.substitution;
      holds = comes.holds;
      term = comes.term ∙ ap (λ xs. Apply (text_at xs c.args.name) (row ts)) names.every;
    }
