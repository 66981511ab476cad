use Rattle.std.proofs.Common.{◌≡◌, ℕ, ◌+◌, ◌<◌, ◌≤◌, None, length, length-append, OnOk, Result, Ok, Err, map, take, false, refl, ap, ap₂, sym, ◌∙◌, subst, arith}
use Rattle.std.specs.List.{list_any}
use Rattle.std.proofs.lemmas.List.{length-replicate}
use Rattle.iso_model.specs.Terms.Trees.{Tree, Variable}
use Rattle.iso_model.specs.Terms.Sizes.{size}
use Rattle.iso_model.specs.Terms.Variables.{variables, variable_count}
use Rattle.iso_model.specs.Terms.Copies.{place_of, copy_from, numbers_from}
use Rattle.iso_store_core.specs.Presents.{Holds, meaning, KeepsWords, Makes, MovesOn, Grows, NumbersHaveCells}
use Rattle.iso_store_core.specs.Copying.{cells_of}
use Rattle.iso_store.specs.Plans.{IsPlan}
use Rattle.iso_store.specs.declared.heap.Heap.{Heap}
use Rattle.iso_store.specs.declared.heap_cells.HeapWord.{HeapWord}
use Rattle.iso_store.specs.declared.heap_cells.Piece.TheVariants.{Word, Variable as Place}
use Rattle.iso_store.specs.HeapTerms.{variable_cells}
use Rattle.iso_store.specs.HeapStores.{has_cell_number}
use Rattle.iso_store.specs.HeapBuilds.{built, piece_term}
use Rattle.iso_store.proofs.CellCounts.{variable-counted}
use Rattle.iso_store.proofs.Gathering.{keeps-then, grows-both, made-after, moved-on}
use Rattle.iso_store.proofs.Renaming.{cells-renamed}
use Rattle.iso_store.proofs.PlanMade.{plan-copied}
use Rattle.iso_store.specs.HeapSorted.{sorted-meaning}
use Rattle.iso_store.proofs.HeapBuilt.{as_present, cells-within, goes-grows, goes-makes, goes-marks, goes-nowhere, goes-stays, goes-variables, have-none}
use Rattle.iso_store.proofs.HeapCopied.{copied-many, copied-variable, places-known}
use Rattle.iso_store.proofs.heap_copies.copy_in_place.Goals.{After-know_names, After-as_slice-parts, After-make_plan}
use Rattle.iso_store.proofs.heap_copies.copy_in_place.Goals as goal

pub plan_copy-planned-requires : goal.plan_copy-planned-requires
plan_copy-planned-requires c = subst (λ p. Holds p c.args.word) (sym c.take_scratch.ensures.present) c.requires.word

-- ---- marks
pub returns-in_err-planned-clause-marks : goal.returns-in_err-planned-clause-marks
returns-in_err-planned-clause-marks c m p h = c.keep.ensures.marks m p (c.take_scratch.ensures.marks m p h)

pub returns-in_err-places-clause-marks : goal.returns-in_err-places-clause-marks
returns-in_err-places-clause-marks c m p h = c.know_names.ensures.marks m p (c.reserve-first.ensures.marks m p (c.keep.ensures.marks m p (c.take_scratch.ensures.marks m p h)))

-- ---- the plan of the copy
many : (c : After-know_names) → c.in_ok-planned.planned.variables ≡ variable_count (meaning (as_present c.args.heap.now) c.args.word)
many c = c.in_ok-planned.ensures.count ∙ ap (λ p. variable_count (meaning p c.args.word)) c.take_scratch.ensures.present

free : (c : After-know_names) → (m : ℕ) → c.reserve-first.result ≤ m → list_any (has_cell_number m) c.know_names.new.self.area.low ≡ false
free c m above = ap (λ a. list_any (has_cell_number m) a.low) c.know_names.ensures.area ∙ c.reserve-first.ensures.free m above

plan : (c : After-as_slice-parts) → IsPlan (take c.know_names.new.self.named c.know_names.new.self.atoms) (map (built c.know_names.new.self c.reserve-first.result (length c.in_ok-places.places.items)).term (map Place (numbers_from 0 (length c.in_ok-places.places.items)))) c.as_slice-parts.result.now
    (copy_from (meaning (as_present c.args.heap.now) c.args.word) c.args.heap.now.next)
plan c =
    let old = c.args.heap.now in
    let t = meaning (as_present old) c.args.word in
    let known = c.know_names.new.self in
    let names = take known.named known.atoms in
    let count = c.in_ok-planned.planned.variables in
    let parts = c.in_ok-planned.planned.parts.items in
    let first = c.reserve-first.result in
    let all = c.know_names.ensures.every ∙ c.reserve-first.ensures.names ∙ c.keep.ensures.names in
    let seen = subst (λ p. IsPlan c.take_scratch.new.store.atoms (map Variable (variables (meaning p c.args.word))) parts (meaning p c.args.word)) c.take_scratch.ensures.present c.in_ok-planned.ensures.plan in
    let here = subst (λ ns. IsPlan ns (map Variable (variables t)) parts t) (sym all) seen in
    let same = c.reserve-first.ensures.number ∙ ap (λ p. p.next) (c.keep.ensures.present ∙ c.take_scratch.ensures.present) in
    let from : first + 0 ≡ old.next = omega arith in
    let long = ap length c.in_ok-places.ensures ∙ length-replicate count None in
    let terms = places-known names first known.area.low 0 (length c.in_ok-places.places.items) ∙ ap₂ (λ n k. map Variable (numbers_from n k)) from long in
    let size = c.in_ok-planned.ensures.count ∙ ap (λ p. variable_count (meaning p c.args.word)) c.take_scratch.ensures.present in
    let copied = plan-copied names t (map (piece_term names first known.area.low) (map Place (numbers_from 0 (length c.in_ok-places.places.items)))) parts old.next count here terms size in
    subst (λ ks. IsPlan names (map (piece_term names first known.area.low) (map Place (numbers_from 0 (length c.in_ok-places.places.items)))) ks (copy_from t old.next)) (sym c.as_slice-parts.ensures.value) copied

pub make_plan-requires-clause-plan : goal.make_plan-requires-clause-plan
make_plan-requires-clause-plan c = (copy_from (meaning (as_present c.args.heap.now) c.args.word) c.args.heap.now.next, plan (goal.at.make_plan-requires-clause-plan c).After-as_slice-parts)

pub make_plan-requires-clause-cells : goal.make_plan-requires-clause-cells
make_plan-requires-clause-cells c =
    rw c.in_ok-places.ensures (have-none c.know_names.new.self.area.low c.reserve-first.result c.in_ok-planned.planned.variables (free (goal.at.make_plan-requires-clause-cells c).After-know_names))

-- ---- cells
module _ (c : After-make_plan) where
  abbrev now : Heap
  now = c.args.heap.now

  abbrev t : Tree
  t = meaning (as_present now) c.args.word

  abbrev made : Tree
  made = copy_from t now.next

  abbrev after : Heap
  after = c.make_plan.new.heap

  abbrev known : Heap
  known = c.know_names.new.self

  stays : as_present c.keep.new.store ≡ as_present now
  stays = c.keep.ensures.present ∙ c.take_scratch.ensures.present

  count : c.in_ok-planned.planned.variables ≡ variable_count t
  count = c.in_ok-planned.ensures.count ∙ ap (λ p. variable_count (meaning p c.args.word)) c.take_scratch.ensures.present

  number-is : c.reserve-first.result ≡ now.next
  number-is = c.reserve-first.ensures.number ∙ ap (λ p. p.next) stays

  next-known : known.next ≡ c.reserve-first.result + variable_count t
  next-known =
      let first = c.reserve-first.ensures.number in
      let next = c.know_names.ensures.next ∙ c.reserve-first.ensures.numbers.next in
      let size = count in
      omega arith

  before : Grows (as_present now) (as_present c.reserve-first.new.self) 0 0
  before = subst (λ p. Grows p (as_present c.reserve-first.new.self) 0 0) stays c.reserve-first.ensures.cells

  long : length c.reserve-first.new.self.area.low ≡ length known.area.low
  long = sym (ap (λ a. length a.low) c.know_names.ensures.area)

  variables-same : variable_cells c.reserve-first.new.self.area.low ≡ variable_cells known.area.low
  variables-same = sym (ap (λ a. variable_cells a.low) c.know_names.ensures.area)

  room : c.reserve-first.new.self.area.capacity ≡ known.area.capacity
  room = sym (ap (λ a. a.capacity) c.know_names.ensures.area)

  unknown : (m : ℕ) → c.reserve-first.result ≤ m → list_any (has_cell_number m) known.area.low ≡ false
  unknown m above = ap (λ a. list_any (has_cell_number m) a.low) c.know_names.ensures.area ∙ c.reserve-first.ensures.free m above

  cells : length after.area.low ≤ length known.area.low + cells_of 0 (λ n. n + 1) made → Grows (as_present now) (as_present after) (size t) (variable_count t)
  cells few =
      let same = cells-renamed (λ x. now.next + place_of x (variables t)) 0 (λ n. n + 1) t in
      let less = cells-within t (sorted-meaning (take now.named now.atoms) now.area.low now.next now.is_heap c.args.word c.requires.word) in
      goes-grows c.make_plan.ensures.goes_on (as_present now) (as_present c.reserve-first.new.self) (cells_of 0 (λ n. n + 1) made) (size t) (variable_count t) before long variables-same room few (omega arith) (goes-variables c.make_plan.ensures.goes_on (variable_count t) next-known)

  words : KeepsWords (as_present now) (as_present known)
  words = keeps-then (subst (λ p. KeepsWords p (as_present c.reserve-first.new.self)) stays c.reserve-first.ensures.words) c.know_names.ensures.words

  bindings : (as_present known).substitution ≡ (as_present now).substitution
  bindings = c.know_names.ensures.substitution ∙ c.reserve-first.ensures.substitution ∙ ap (λ p. p.substitution) stays

  moved : MovesOn (as_present now) (as_present after) (variable_count t)
  moved =
      let goes = c.make_plan.ensures.goes_on in
      let same = number-is in
      record {
        next = goes.next ∙ next-known ∙ ap (λ n. n + variable_count t) number-is;
        taken = λ n below.
            goes.numbers n (omega arith) ∙ ap (λ a. list_any (has_cell_number n) a.low) c.know_names.ensures.area ∙ c.reserve-first.ensures.numbers.taken n (let first = c.reserve-first.ensures.number in omega arith) ∙ ap (λ p. p.taken n) stays;
      }

  counted : (w : HeapWord) → Makes (as_present now) (as_present after) w made → NumbersHaveCells (as_present now) (as_present after)
  counted w is =
      let goes = c.make_plan.ensures.goes_on in
      let many = copied-many (take after.named after.atoms) known.area.low goes.cells.0 after.area.low after.next now.next after.is_heap w t goes.cells.1 is.holds is.term (λ n above. unknown n (let same = number-is in omega arith)) in
      let size = ap length goes.cells.1 ∙ length-append known.area.low goes.cells.0 in
      let next = moved.next in
      let kept = before.keeps in
      let same = long in
      omega arith

  -- where the copy is a variable
  module _ (k : ℕ) (is : Makes (built known c.reserve-first.result (length c.in_ok-places.places.items)) (built after c.reserve-first.result (length c.in_ok-places.places.items)) (Place k) made) (few : length after.area.low ≤ length known.area.low + cells_of 0 (λ n. n + 1) made) where
    alone : (c.reserve-first.result + k ≡ now.next) × (variable_count t ≡ 1) × (size t ≡ 1)
    alone = copied-variable t now.next (c.reserve-first.result + k) is.term

    none-came : length after.area.low ≤ length known.area.low
    none-came = let none : cells_of 0 (λ n. n + 1) made ≡ 0 = ap (cells_of 0 (λ n. n + 1)) (sym is.term) in omega (arith, few)

    still : Grows (as_present now) (as_present after) 0 0
    still = goes-stays c.make_plan.ensures.goes_on (as_present now) (as_present c.reserve-first.new.self) before long variables-same room none-came

    words-after : KeepsWords (as_present now) (as_present after)
    words-after = keeps-then words (record { stand = λ v h. is.words.stand (Word v) h; terms = λ v h. is.words.terms (Word v) h })

    one-moved : MovesOn (as_present now) (as_present after) 1
    one-moved = subst (MovesOn (as_present now) (as_present after)) alone.1 moved

    bare : list_any (has_cell_number (c.reserve-first.result + k)) after.area.low ≡ false
    bare = ap (list_any (has_cell_number (c.reserve-first.result + k))) (goes-nowhere c.make_plan.ensures.goes_on none-came) ∙ unknown (c.reserve-first.result + k) (omega arith)

    below-next : c.reserve-first.result + k < after.next
    below-next = let first = alone.0 in let next = one-moved.next in omega arith

-- ---- a copy that is no variable
pub returns-in_err-word-clause-cells : goal.returns-in_err-word-clause-cells
returns-in_err-word-clause-cells c =
    let all = goal.at.returns-in_err-word-clause-cells c in
    cells all.After-make_plan (c.make_plan.ensures.few _ (plan all.After-as_slice-parts))

pub returns-in_err-word-clause-marks : goal.returns-in_err-word-clause-marks
returns-in_err-word-clause-marks c m p h = goes-marks c.make_plan.ensures.goes_on m p (c.know_names.ensures.marks m p (c.reserve-first.ensures.marks m p (c.keep.ensures.marks m p (c.take_scratch.ensures.marks m p h))))

pub returns-in-Word-clause-made : goal.returns-in-Word-clause-made
returns-in-Word-clause-made c =
    let all = goal.at.returns-in-Word-clause-made c in
    let old = c.args.heap.now in
    let copy = copy_from (meaning (as_present old) c.args.word) old.next in
    let is = rw c.in-Word.is at (c.in_ok-word.ensures.made copy (plan all.After-as_slice-parts)) in
    goes-makes c.make_plan.ensures.goes_on (as_present old) (length c.in_ok-places.places.items) c.in-Word.word copy copy (words all.After-make_plan) (bindings all.After-make_plan) refl is

pub returns-in-Word-clause-numbers : goal.returns-in-Word-clause-numbers
returns-in-Word-clause-numbers c = moved (goal.at.returns-in-Word-clause-numbers c).After-make_plan

few-variables : (c : After-know_names) → variable_count (meaning (as_present c.args.heap.now) c.args.word) ≤ 536870912
few-variables c = let few = c.in_ok-planned.ensures.few in let same = many c in omega arith

pub returns-in-Word-clause-few : goal.returns-in-Word-clause-few
returns-in-Word-clause-few c = few-variables (goal.at.returns-in-Word-clause-few c).After-know_names

pub returns-in-Word-clause-cells : goal.returns-in-Word-clause-cells
returns-in-Word-clause-cells c =
    let all = goal.at.returns-in-Word-clause-cells c in
    cells all.After-make_plan (c.make_plan.ensures.few _ (plan all.After-as_slice-parts))

pub returns-in-Word-clause-counted : goal.returns-in-Word-clause-counted
returns-in-Word-clause-counted c =
    let all = goal.at.returns-in-Word-clause-counted c in
    let old = c.args.heap.now in
    let copy = copy_from (meaning (as_present old) c.args.word) old.next in
    let is = rw c.in-Word.is at (c.in_ok-word.ensures.made copy (plan all.After-as_slice-parts)) in
    counted all.After-make_plan c.in-Word.word (goes-makes c.make_plan.ensures.goes_on (as_present old) (length c.in_ok-places.places.items) c.in-Word.word copy copy (words all.After-make_plan) (bindings all.After-make_plan) refl is)

pub returns-in-Word-clause-marks : goal.returns-in-Word-clause-marks
returns-in-Word-clause-marks c m p h = goes-marks c.make_plan.ensures.goes_on m p (c.know_names.ensures.marks m p (c.reserve-first.ensures.marks m p (c.keep.ensures.marks m p (c.take_scratch.ensures.marks m p h))))

-- ---- a copy that is a variable
pub overflow_add-first : goal.overflow_add-first
overflow_add-first c =
    let all = goal.at.overflow_add-first c in
    let is = rw c.in-Variable.is at (c.in_ok-word.ensures.made _ (plan all.After-as_slice-parts)) in
    let first = (alone all.After-make_plan c.in-Variable.place is (c.make_plan.ensures.few _ (plan all.After-as_slice-parts))).0 in
    let next = c.requires.next in
    omega arith

pub variable-requires-clause-reserved : goal.variable-requires-clause-reserved
variable-requires-clause-reserved c =
    let all = goal.at.variable-requires-clause-reserved c in
    let is = rw c.in-Variable.is at (c.in_ok-word.ensures.made _ (plan all.After-as_slice-parts)) in
    below-next all.After-make_plan c.in-Variable.place is (c.make_plan.ensures.few _ (plan all.After-as_slice-parts))

pub variable-requires-clause-free : goal.variable-requires-clause-free
variable-requires-clause-free c =
    let all = goal.at.variable-requires-clause-free c in
    let is = rw c.in-Variable.is at (c.in_ok-word.ensures.made _ (plan all.After-as_slice-parts)) in
    bare all.After-make_plan c.in-Variable.place is (c.make_plan.ensures.few _ (plan all.After-as_slice-parts))

pub returns-clause-made : goal.returns-clause-made
returns-clause-made c =
    let all = goal.at.returns-clause-made c in
    let old = c.args.heap.now in
    let copy = copy_from (meaning (as_present old) c.args.word) old.next in
    let is = rw c.in-Variable.is at (c.in_ok-word.ensures.made copy (plan all.After-as_slice-parts)) in
    let few = c.make_plan.ensures.few copy (plan all.After-as_slice-parts) in
    made-after (as_present c.variable.new.self) (Variable (c.reserve-first.result + c.in-Variable.place)) copy c.variable.result (words-after all.After-make_plan c.in-Variable.place is few) (is.substitution ∙ bindings all.After-make_plan) is.term c.variable.ensures.made

pub returns-clause-numbers : goal.returns-clause-numbers
returns-clause-numbers c =
    let all = goal.at.returns-clause-numbers c in
    let old = c.args.heap.now in
    let is = rw c.in-Variable.is at (c.in_ok-word.ensures.made _ (plan all.After-as_slice-parts)) in
    let few = c.make_plan.ensures.few _ (plan all.After-as_slice-parts) in
    let one = alone all.After-make_plan c.in-Variable.place is few in
    subst (λ n. OnOk c.variable.result (MovesOn (as_present old) (as_present c.variable.new.self) n)) (sym one.1)
    (moved-on (as_present c.variable.new.self) (c.reserve-first.result + c.in-Variable.place) c.variable.result one.0 (one-moved all.After-make_plan c.in-Variable.place is few) c.variable.ensures.numbers)

pub returns-clause-few : goal.returns-clause-few
returns-clause-few c = always c.variable.result (few-variables (goal.at.returns-clause-few c).After-know_names)
  where
    always : {T E P : Type 0} (r : Result T E) → P → OnOk r P
    always (Ok v) h = h
    always (Err e) h = tt

pub returns-clause-cells : goal.returns-clause-cells
returns-clause-cells c =
    let all = goal.at.returns-clause-cells c in
    let is = rw c.in-Variable.is at (c.in_ok-word.ensures.made _ (plan all.After-as_slice-parts)) in
    let few = c.make_plan.ensures.few _ (plan all.After-as_slice-parts) in
    let one = alone all.After-make_plan c.in-Variable.place is few in
    let variables = one.1 in
    let size = one.2 in
    grows-both _ _ (still all.After-make_plan c.in-Variable.place is few) c.variable.ensures.cells (omega arith) (omega arith)

pub returns-clause-counted : goal.returns-clause-counted
returns-clause-counted c =
    let all = goal.at.returns-clause-counted c in
    let is = rw c.in-Variable.is at (c.in_ok-word.ensures.made _ (plan all.After-as_slice-parts)) in
    let few = c.make_plan.ensures.few _ (plan all.After-as_slice-parts) in
    variable-counted (as_present c.variable.new.self) (c.reserve-first.result + c.in-Variable.place) c.variable.result (one-moved all.After-make_plan c.in-Variable.place is few) (still all.After-make_plan c.in-Variable.place is few) c.variable.ensures.numbers c.variable.ensures.cell

pub returns-clause-marks : goal.returns-clause-marks
returns-clause-marks c m p h = c.variable.ensures.marks m p (goes-marks c.make_plan.ensures.goes_on m p (c.know_names.ensures.marks m p (c.reserve-first.ensures.marks m p (c.keep.ensures.marks m p (c.take_scratch.ensures.marks m p h)))))
