use Rattle.std.proofs.Common.{◌≡◌, ◌∷◌, [], take, ap, refl, rules, ◌∙◌, subst, IfOk, sym, false, arith, length, length-append}
use Rattle.std.specs.List.{list_any, slice_get}
use Rattle.std.proofs.lemmas.Int.{to_z-of_z}
use mir.Val.{SFits}
use mir.Syntax.{w128}
use Rattle.iso_model.specs.Terms.Integers.{is_short}
use Rattle.iso_model.specs.Terms.Trees.{Integer}
use Rattle.iso_store_core.specs.Presents.{meaning, Grows, IsUnification, KeepsNumbers, Makes}
use Rattle.iso_store.specs.declared.heap_cells.Cell.TheVariants.{Wide}
use Rattle.iso_store.specs.declared.heap_cells.HeapWord.TheVariants.{Boxed, Var}
use Rattle.iso_store.specs.HeapInstructions.{IsConstant}
use Rattle.iso_store.specs.HeapStores.{has_cell_number}
use Rattle.iso_store.proofs.Gathering.{grows-on}
use Rattle.iso_store.proofs.HeapBuilt.{as_present}
use Rattle.iso_store.proofs.HeapMade.{taken-more, wide-makes}
use Rattle.iso_store.proofs.HeapMarked.{more-keeps}
use Rattle.iso_store.proofs.HeapInstructionLemmas.{meaning-kept, unbound-variable, unifies-after}
use Rattle.iso_store.proofs.heap_instructions.bind_integer.Goals.{After-push}
use Rattle.iso_store.proofs.heap_instructions.bind_integer.Goals as goal

pub bind_constant-requires-2-clause-constant : goal.bind_constant-requires-2-clause-constant
bind_constant-requires-2-clause-constant c =
    let now = c.args.heap.now in
    let after = c.in_ok-wide.ensures in
    let fits : SFits w128 c.args.value = search rules in
    let low = rw (to_z-of_z w128 c.args.value fits) at after.low in
    let made = wide-makes (take now.named now.atoms) now.area.low now.next now.area.capacity c.args.value now.is_heap in
    let comes : Makes (as_present now) (as_present c.push.new.self) (Boxed c.in_ok-wide.wide) (Integer c.args.value) = rw (after.place, low, after.capacity, after.atoms, after.named, after.next) made in
    subst IsConstant (sym comes.term) tt

pub returns-clause-unified : goal.returns-clause-unified
returns-clause-unified c =
    let now = c.args.heap.now in
    let mid = c.push.new.self in
    let after = c.in_ok-wide.ensures in
    let fits : SFits w128 c.args.value = search rules in
    let low = rw (to_z-of_z w128 c.args.value fits) at after.low in
    let made = wide-makes (take now.named now.atoms) now.area.low now.next now.area.capacity c.args.value now.is_heap in
    let comes : Makes (as_present now) (as_present mid) (Boxed c.in_ok-wide.wide) (Integer c.args.value) = rw (after.place, low, after.capacity, after.atoms, after.named, after.next) made in
    let numbers : KeepsNumbers (as_present now) (as_present mid) = record { next = after.next; taken = λ n. ap (list_any (has_cell_number n)) low ∙ taken-more now.area.low (Wide c.args.value) n refl } in
    let bound = subst (λ t. IfOk c.bind_constant-2.result (IsUnification (as_present mid) (as_present c.bind_constant-2.new.heap) (meaning (as_present mid) (Var c.args.place)) t)) comes.term c.bind_constant-2.ensures.unified in
    unifies-after (as_present c.bind_constant-2.new.heap) (meaning (as_present mid) (Var c.args.place)) (Integer c.args.value) (meaning (as_present now) (Var c.args.place)) c.bind_constant-2.result comes.words numbers comes.substitution (meaning-kept (Var c.args.place) comes.words comes.substitution (unbound-variable (slice_get now.area.low c.args.place) c.requires.unbound)) bound

pub returns-clause-cells : goal.returns-clause-cells
returns-clause-cells c =
    let long : is_short c.args.value ≡ false = search rules in
    let now = c.args.heap.now in
    let after = c.in_ok-wide.ensures in
    let size = ap length after.low ∙ length-append now.area.low (Wide _ ∷ []) in
    let one : Grows (as_present now) (as_present c.push.new.self) 1 0 = record {
      cells = omega arith;
      variables = omega (arith, after.variables);
      keeps = omega arith;
      keeps_variables = omega (arith, after.variables);
      limit = after.capacity;
      within = λ h. omega (arith, after.room, after.capacity);
    } in
    rw long (grows-on 1 one c.bind_constant-2.ensures.cells (omega arith))

pub returns-clause-marks : goal.returns-clause-marks
returns-clause-marks c m p h =
    let now = c.args.heap.now in
    let after = c.in_ok-wide.ensures in
    c.bind_constant-2.ensures.marks m p (rw (after.atoms, after.capacity, after.newest, after.high, after.low) (more-keeps now.atoms now.area.capacity now.newest now.area.low _ now.area.high m p h))
