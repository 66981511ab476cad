use Rattle.std.proofs.Common.{take, length, sym, ap, ◌∙◌, subst, IfOk}
use Rattle.std.specs.List.{list_any}
use Rattle.std.proofs.lemmas.Bool.{ltb-true}
use Rattle.iso_atoms.specs.Texts.{text_at}
use Rattle.iso_model.specs.Terms.Trees.{Name}
use Rattle.iso_store_core.proofs.AtomLemmas.{text-kept, atom-kept}
use Rattle.iso_store_core.specs.Presents.{meaning, IsUnification, KeepsNumbers}
use Rattle.iso_store.specs.declared.heap_cells.HeapWord.TheVariants.{Var}
use Rattle.iso_store.specs.HeapStores.{has_cell_number}
use Rattle.iso_store.proofs.HeapBuilt.{as_present}
use Rattle.iso_store.proofs.HeapNames.{first-kept}
use Rattle.iso_store.proofs.HeapInstructionLemmas.{atoms-meet, meaning-kept, never-atom, unifies-after}
use Rattle.iso_store.proofs.heap_instructions.HeapCells.meet_atom.Goals as goal

pub returns-in-Var-clause-unified : goal.returns-in-Var-clause-unified
returns-in-Var-clause-unified c =
    let now = c.args.self.now in
    let known = c.know_names.new.self in
    let new = c.bind_constant.new.heap in
    let names = c.know_names.ensures in
    let numbers : KeepsNumbers (as_present now) (as_present known) = record { next = names.next; taken = λ n. ap (λ a. list_any (has_cell_number n) a.low) names.area } in
    let met = subst (λ xs. IfOk c.bind_constant.result (IsUnification (as_present known) (as_present new) (meaning (as_present known) (Var c.in-Var.place)) (Name (text_at xs c.args.name)))) names.every c.bind_constant.ensures.unified in
    unifies-after (as_present new) (meaning (as_present known) (Var c.in-Var.place)) (Name (text_at now.atoms c.args.name)) (meaning (as_present now) c.args.word) c.bind_constant.result names.words numbers names.substitution
    (meaning-kept (Var c.in-Var.place) names.words names.substitution c.in-Var.ensures.holds ∙ c.in-Var.ensures.same)
    met

pub returns-in-Var-clause-marks : goal.returns-in-Var-clause-marks
returns-in-Var-clause-marks c m p h = c.bind_constant.ensures.marks m p (c.know_names.ensures.marks m p h)

pub returns-in-Atom-clause-unified : goal.returns-in-Atom-clause-unified
returns-in-Atom-clause-unified c =
    let now = c.args.self.now in
    let names = take now.named now.atoms in
    let keeps = first-kept now.atoms now.named in
    let known = ltb-true c.in-Atom.other (length names) c.in-Atom.ensures.holds in
    subst (IsUnification (as_present now) (as_present now) (meaning (as_present now) c.args.word) (Name (text_at now.atoms c.args.name))) (sym c.eq.ensures)
    (atoms-meet (as_present now) (meaning (as_present now) c.args.word) now.atoms c.in-Atom.other c.args.name now.each_once (atom-kept names now.atoms keeps c.in-Atom.other known) c.requires.name
    (sym c.in-Atom.ensures.same ∙ ap Name (sym (text-kept names now.atoms keeps c.in-Atom.other known))))

pub returns-in-Structure-clause-unified : goal.returns-in-Structure-clause-unified
returns-in-Structure-clause-unified c =
    let now = c.args.self.now in
    never-atom (take now.named now.atoms) now.area.low now.next now.is_heap c.walked.result (meaning (as_present now) c.args.word) (text_at now.atoms c.args.name) c.walked.ensures.holds c.in-Structure.is c.walked.ensures.same
