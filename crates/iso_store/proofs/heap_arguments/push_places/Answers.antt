use Rattle.std.proofs.Common.{◌≡◌, ◌+◌, length, map, take, true, refl, ap, sym, ◌∙◌, append-nil, arith}
use Rattle.std.specs.List.{list_any}
use Rattle.iso_store.specs.declared.heap_cells.Cell.TheVariants.{Argument}
use Rattle.iso_store.specs.HeapTerms.{variable_cells}
use Rattle.iso_store.specs.HeapStores.{has_cell_number, is_word}
use Rattle.iso_store.specs.Writing.{picked}
use Rattle.iso_store.proofs.Picked.{place-below, picked-next}
use Rattle.iso_store.proofs.HeapMade.{word-pushed, argument-holds, places-pushed, taken-more}
use Rattle.iso_store.proofs.HeapBuilding.{goes-then, goes-same, goes-none, pushed-goes}
use Rattle.iso_store.proofs.heap_arguments.push_places.Goals.{After-index-variables-place}
use Rattle.iso_store.proofs.heap_arguments.push_places.Goals as goal

pub loop-done-init : goal.loop-done-init
loop-done-init c = record { done_within = omega arith; low = sym (append-nil c.args.heap.now.area.low); goes_on = goes-none 0 c.args.heap.now; taken = λ n. refl; variables = refl }

holds : (c : After-index-variables-place) → is_word (take c.loop-done.heap.named c.loop-done.heap.atoms) c.loop-done.heap.area.low c.index-variables-place.result ≡ true
holds c =
    let was = c.loop-done.invariant in
    let old = c.args.heap.now in
    let ws = c.args.variables.now in
    let place = place-below (length ws) c.args.places.now c.loop-done.done c.in-Variable.place c.index-places-done.result c.requires.places c.loop-done-test.true c.index-places-done.is c.in-Variable.is in
    rw (was.goes_on.named, was.goes_on.atoms)
    (argument-holds (take old.named old.atoms) old.area.low c.loop-done.heap.area.low ws c.in-Variable.place c.index-variables-place.result (map Argument (picked ws (take c.loop-done.done c.args.places.now))) was.low c.requires.variables place (sym c.index-variables-place.is))

pub push-requires : goal.push-requires
push-requires c = holds c

pub returns-in_err-push-clause-goes_on : goal.returns-in_err-push-clause-goes_on
returns-in_err-push-clause-goes_on c =
    let last = c.in_err-push.ensures in
    goes-then c.loop-done.invariant.goes_on (goes-same 0 c.loop-done.heap c.push.new.self last.low last.high last.capacity last.atoms last.named last.next last.newest)

pub returns-in_err-push-clause-few : goal.returns-in_err-push-clause-few
returns-in_err-push-clause-few c = places-pushed c.args.variables.now c.args.places.now c.requires.places _ _ c.loop-done.done c.loop-done.invariant.done_within (c.in_err-push.ensures.low ∙ c.loop-done.invariant.low)

pub returns-in_err-push-clause-taken : goal.returns-in_err-push-clause-taken
returns-in_err-push-clause-taken c n = ap (list_any (has_cell_number n)) c.in_err-push.ensures.low ∙ c.loop-done.invariant.taken n

pub returns-in_err-push-clause-variables : goal.returns-in_err-push-clause-variables
returns-in_err-push-clause-variables c = ap variable_cells c.in_err-push.ensures.low ∙ c.loop-done.invariant.variables

pub loop-done-preserved : goal.loop-done-preserved
loop-done-preserved c =
    let was = c.loop-done.invariant in
    let heap = c.loop-done.heap in
    let w = c.index-variables-place.result in
    let ws = c.args.variables.now in
    let ks = c.args.places.now in
    let more = c.in_ok-push.ensures in
    let next = picked-next ws ks c.loop-done.done c.in-Variable.place c.index-places-done.result w c.requires.places c.loop-done-test.true c.index-places-done.is c.in-Variable.is c.index-variables-place.is in
    record {
      done_within = omega arith;
      low = word-pushed c.args.heap.now.area.low heap.area.low c.push.new.self.area.low (picked ws (take c.loop-done.done ks)) (picked ws (take (c.loop-done.done + 1) ks)) w was.low more.low next;
      goes_on = goes-then was.goes_on (pushed-goes 0 heap c.push.new.self (Argument w) heap.is_heap (holds (goal.at.loop-done-preserved c).After-index-variables-place) (λ n less. refl) more.high more.capacity more.atoms more.named more.next more.newest more.low more.room);
      taken = λ n. ap (list_any (has_cell_number n)) more.low ∙ taken-more heap.area.low (Argument w) n refl ∙ was.taken n;
      variables = let next = more.variables in let before = was.variables in omega arith;
    }

pub returns-clause-few : goal.returns-clause-few
returns-clause-few c = places-pushed c.args.variables.now c.args.places.now c.requires.places _ _ c.loop-done.done c.loop-done.invariant.done_within c.loop-done.invariant.low
