use Rattle.std.proofs.Common.{◌++◌, ◌∷◌, [], take, OnOk, ap, subst, ◌∙◌}
use Rattle.std.specs.List.{list_any}
use Rattle.iso_atoms.specs.Texts.{text_at}
use Rattle.iso_model.specs.Terms.Trees.{Name}
use Rattle.iso_store.specs.HeapStores.{has_cell_number}
use Rattle.iso_store.specs.HeapInstructions.{AreLast}
use Rattle.iso_store.proofs.Gathering.{numbers-then}
use Rattle.iso_store.proofs.HeapNames.{first-kept}
use Rattle.iso_store.proofs.HeapInstructionLemmas.{last-kept}
use Rattle.iso_store.proofs.heap_instructions.HeapCells.push_atom.Goals as goal

pub returns-clause-pushed : goal.returns-clause-pushed
returns-clause-pushed c ts last =
    let now = c.args.self.now in
    let known = c.know_names.new.self in
    let new = c.push_argument.new.heap in
    let every = c.know_names.ensures.every in
    let all = last-kept (take now.named now.atoms) now.atoms now.area.low now.next ts (first-kept now.atoms now.named) now.is_heap last in
    let before : AreLast (take known.named known.atoms) known.area.low ts = rw (every, c.know_names.ensures.area) all in
    subst (λ xs. OnOk c.push_argument.result (AreLast (take new.named new.atoms) new.area.low (ts ++ Name (text_at xs c.args.name) ∷ []))) every (c.push_argument.ensures.pushed ts before)

pub returns-clause-substitution : goal.returns-clause-substitution
returns-clause-substitution c = c.push_argument.ensures.substitution ∙ c.know_names.ensures.substitution

pub returns-clause-numbers : goal.returns-clause-numbers
returns-clause-numbers c =
    numbers-then (record { next = c.know_names.ensures.next; taken = λ n. ap (λ a. list_any (has_cell_number n) a.low) c.know_names.ensures.area }) c.push_argument.ensures.numbers

pub returns-clause-marks : goal.returns-clause-marks
returns-clause-marks c m p h = c.push_argument.ensures.marks m p (c.know_names.ensures.marks m p h)
