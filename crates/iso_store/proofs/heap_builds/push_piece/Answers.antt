use Rattle.std.proofs.Common.{◌+◌, take, refl, ◌∙◌, ap, sym, arith, Some}
use Rattle.std.proofs.lemmas.Bool.{ltb-true, ne_eqb}
use Rattle.std.proofs.lemmas.Option.{slice_get-get_or}
use Rattle.iso_store.specs.declared.heap_cells.HeapWord.TheVariants.{Var}
use Rattle.iso_store.specs.declared.heap_cells.Cell.TheVariants.{Argument, Unbound}
use Rattle.iso_store.specs.declared.heap_cells.Piece.TheVariants.{Variable as Place}
use Rattle.iso_store.specs.Slices.{slice_get-set}
use Rattle.iso_store.proofs.HeapBuilding.{pushed-goes, cells-other, cells-variable, variable-word, word-pushed, place-pushed, variable-pushed}
use Rattle.iso_store.proofs.heap_builds.push_piece.Goals as goal

pub returns-in_ok-push-in-Word-clause-pushed : goal.returns-in_ok-push-in-Word-clause-pushed
returns-in_ok-push-in-Word-clause-pushed c =
    let after = c.in_ok-push-in-Word.ensures in
    let heap = rw (after.named, after.atoms) at c.push.new.self.is_heap in
    rw c.in-Word.is (word-pushed _ c.args.first _ _ _ c.in-Word.word heap (rw c.in-Word.is at c.requires.piece) after.low)

pub returns-in_ok-push-in-Word-clause-cells : goal.returns-in_ok-push-in-Word-clause-cells
returns-in_ok-push-in-Word-clause-cells c =
    cells-other _ _ _ c.requires.cells _ (Argument c.in-Word.word) (λ n. refl) c.in_ok-push-in-Word.ensures.low

pub returns-in_ok-push-in-Word-clause-goes_on : goal.returns-in_ok-push-in-Word-clause-goes_on
returns-in_ok-push-in-Word-clause-goes_on c =
    let now = c.args.heap.now in
    let after = c.in_ok-push-in-Word.ensures in
    let holds = rw c.in-Word.is at c.requires.piece in
    pushed-goes c.args.first now c.push.new.self (Argument c.in-Word.word) now.is_heap holds (λ n below. refl) after.high after.capacity after.atoms after.named after.next after.newest after.low after.room

pub returns-in_ok-push-in-Some-clause-pushed : goal.returns-in_ok-push-in-Some-clause-pushed
returns-in_ok-push-in-Some-clause-pushed c =
    let now = c.args.heap.now in
    let after = c.in_ok-push-in-Some.ensures in
    let heap = rw (after.named, after.atoms) at c.push-in-Some.new.self.is_heap in
    let there = c.requires.cells.there c.in-Variable.index c.in-Some.place (slice_get-get_or c.args.places.now.items c.in-Variable.index c.index.result.now (ltb-true _ _ (rw c.in-Variable.is at c.requires.piece)) ∙ ap Some (sym c.index.ensures ∙ c.in-Some.is)) in
    rw c.in-Variable.is (place-pushed (take now.named now.atoms) c.args.first c.push-in-Some.new.self.next now.area.low c.push-in-Some.new.self.area.low c.in-Variable.index c.in-Some.place heap there after.low)

pub returns-in_ok-push-in-Some-clause-cells : goal.returns-in_ok-push-in-Some-clause-cells
returns-in_ok-push-in-Some-clause-cells c =
    cells-other _ _ _ c.requires.cells _ (Argument (Var c.in-Some.place)) (λ n. refl) c.in_ok-push-in-Some.ensures.low

pub returns-in_ok-push-in-Some-clause-goes_on : goal.returns-in_ok-push-in-Some-clause-goes_on
returns-in_ok-push-in-Some-clause-goes_on c =
    let now = c.args.heap.now in
    let after = c.in_ok-push-in-Some.ensures in
    let holds = variable-word now.area.low c.args.first c.args.places.now.items c.requires.cells (take now.named now.atoms) c.in-Variable.index c.in-Some.place (slice_get-get_or c.args.places.now.items c.in-Variable.index c.index.result.now (ltb-true _ _ (rw c.in-Variable.is at c.requires.piece)) ∙ ap Some (sym c.index.ensures ∙ c.in-Some.is)) in
    pushed-goes c.args.first now c.push-in-Some.new.self (Argument (Var c.in-Some.place)) now.is_heap holds (λ n below. refl) after.high after.capacity after.atoms after.named after.next after.newest after.low after.room

pub returns-in_ok-place-in-None-clause-pushed : goal.returns-in_ok-place-in-None-clause-pushed
returns-in_ok-place-in-None-clause-pushed c =
    let now = c.args.heap.now in
    let after = c.in_ok-place-in-None.ensures in
    rw c.in-Variable.is (variable-pushed (take now.named now.atoms) c.args.first c.push-in-None.new.self.next now.area.low c.push-in-None.new.self.area.low c.in-Variable.index after.low)

pub returns-in_ok-place-in-None-clause-cells : goal.returns-in_ok-place-in-None-clause-cells
returns-in_ok-place-in-None-clause-cells c =
    let now = c.args.heap.now in
    let after = c.in_ok-place-in-None.ensures in
    let holds = rw c.in-Variable.is at c.requires.piece in
    let below = ltb-true _ _ holds in
    rw after.place (cells-variable now.area.low c.args.first c.args.places.now.items c.requires.cells c.in-Variable.index below c.push-in-None.new.self.area.low after.low)

pub returns-in_ok-place-in-None-clause-goes_on : goal.returns-in_ok-place-in-None-clause-goes_on
returns-in_ok-place-in-None-clause-goes_on c =
    let now = c.args.heap.now in
    let after = c.in_ok-place-in-None.ensures in
    let holds = rw c.in-Variable.is at c.requires.piece in
    let below = ltb-true _ _ holds in
    let k = c.in-Variable.index in
    let numbers = c.requires.numbers in
    let free = c.requires.cells.free k (slice_get-get_or c.args.places.now.items k c.index.result.now below ∙ ap Some (sym c.index.ensures ∙ c.in-None.is)) in
    pushed-goes c.args.first now c.push-in-None.new.self (Unbound (c.args.first + k)) now.is_heap (omega arith, free) (λ n less. ne_eqb (c.args.first + k) n (λ e. omega arith)) after.high after.capacity after.atoms after.named after.next after.newest after.low after.room

pub returns-in_ok-place-in-None-clause-others : goal.returns-in_ok-place-in-None-clause-others
returns-in_ok-place-in-None-clause-others c k other =
    slice_get-set c.args.places.now.items c.in-Variable.index k (Some c.in_ok-place-in-None.place) (λ same. other (c.in-Variable.is ∙ ap Place (sym same)))
