use Rattle.std.proofs.Common.{◌≡◌, ℕ, ◌+◌, ◌<◌, ◌≤◌, None, length, take, slice_get, true, false, ap, sym, ◌∙◌, subst, arith}
use Rattle.std.specs.List.{list_any}
use Rattle.std.proofs.lemmas.Bool.{ltb-true}
use Rattle.std.proofs.lemmas.List.{length-replicate}
use Rattle.iso_model.specs.Terms.Trees.{Tree, Variable, arities_fit}
use Rattle.iso_model.specs.Terms.Sizes.{size}
use Rattle.iso_model.specs.Terms.Variables.{variable_count}
use Rattle.iso_model.specs.Terms.Substitutions.{apply}
use Rattle.iso_model.specs.Terms.Copies.{renamed}
use Rattle.iso_store_core.specs.Presents.{KeepsWords, Makes, MovesOn, Grows}
use Rattle.iso_store_core.specs.Copying.{cells_of}
use Rattle.iso_store_core.specs.Patterns.{IsPattern}
use Rattle.iso_store_core.proofs.PatternLemmas.{pattern-one}
use Rattle.iso_store.specs.declared.heap.Heap.{Heap}
use Rattle.iso_store.specs.declared.heap_cells.Piece.TheVariants.{Word, Variable as Place}
use Rattle.iso_store.specs.HeapTerms.{variable_cells}
use Rattle.iso_store.specs.HeapStores.{has_cell_number}
use Rattle.iso_store.specs.HeapBuilds.{built, numbered}
use Rattle.iso_store.proofs.Gathering.{keeps-then, grows-both, made-after}
use Rattle.iso_store.proofs.PartShows.{pattern-term}
use Rattle.iso_store.proofs.HeapBuilt.{as_present, cells-within, goes-grows, goes-makes, goes-marks, goes-nowhere, goes-stays, have-none}
use Rattle.iso_store.proofs.HeapRenewed.{goes-occurring, moved-then, none-at, renewed-alone}
use Rattle.iso_store.proofs.heap_builds.renew_in_place.Goals.{After-know_names, After-make_parts}
use Rattle.iso_store.proofs.heap_builds.renew_in_place.Goals as goal

pub returns-in_err-places-clause-marks : goal.returns-in_err-places-clause-marks
returns-in_err-places-clause-marks c m p h = c.know_names.ensures.marks m p (c.reserve-first.ensures.marks m p h)

unknown : (c : After-know_names) → (m : ℕ) → c.reserve-first.result ≤ m → list_any (has_cell_number m) c.know_names.new.self.area.low ≡ false
unknown c m above = ap (λ a. list_any (has_cell_number m) a.low) c.know_names.ensures.area ∙ c.reserve-first.ensures.free m above

pub make_parts-requires-clause-cells : goal.make_parts-requires-clause-cells
make_parts-requires-clause-cells c =
    rw c.in_ok-places.ensures (have-none c.know_names.new.self.area.low c.reserve-first.result c.args.count (unknown (goal.at.make_parts-requires-clause-cells c).After-know_names))

module _ (c : After-make_parts) where
  abbrev now : Heap
  now = c.args.heap.now

  abbrev after : Heap
  after = c.make_parts.new.heap

  abbrev known : Heap
  known = c.know_names.new.self

  first-is : c.reserve-first.result ≡ now.next
  first-is = c.reserve-first.ensures.number

  next-known : known.next ≡ c.reserve-first.result + c.args.count
  next-known =
      let first = c.reserve-first.ensures.number in
      let next = c.know_names.ensures.next ∙ c.reserve-first.ensures.numbers.next in
      omega arith

  long : length c.reserve-first.new.self.area.low ≡ length known.area.low
  long = sym (ap (λ a. length a.low) c.know_names.ensures.area)

  variables-same : variable_cells c.reserve-first.new.self.area.low ≡ variable_cells known.area.low
  variables-same = sym (ap (λ a. variable_cells a.low) c.know_names.ensures.area)

  room : c.reserve-first.new.self.area.capacity ≡ known.area.capacity
  room = sym (ap (λ a. a.capacity) c.know_names.ensures.area)

  free : (m : ℕ) → c.reserve-first.result ≤ m → list_any (has_cell_number m) known.area.low ≡ false
  free m above = ap (λ a. list_any (has_cell_number m) a.low) c.know_names.ensures.area ∙ c.reserve-first.ensures.free m above

  whole : (t : Tree) → IsPattern now.atoms c.args.parts.now t → IsPattern (take known.named known.atoms) c.args.parts.now t
  whole t pattern = subst (λ ns. IsPattern ns c.args.parts.now t) (sym (c.know_names.ensures.every ∙ c.reserve-first.ensures.names)) pattern

  fits : (t : Tree) → IsPattern now.atoms c.args.parts.now t → arities_fit t ≡ true
  fits t pattern =
      let r = c.requires.pattern in
      subst (λ u. arities_fit u ≡ true) (pattern-one now.atoms c.args.parts.now r.0 t r.1 pattern) r.2

  cells : (t : Tree) → IsPattern now.atoms c.args.parts.now t → Grows (as_present now) (as_present after) (size t) (variable_count t)
  cells t pattern =
      let few = c.make_parts.ensures.few t (whole t pattern) in
      let within = cells-within t (pattern-term now.atoms c.args.parts.now t pattern (fits t pattern)) in
      let occurring = goes-occurring c.make_parts.ensures.goes_on t c.args.count c.make_parts.new.places.items next-known free c.make_parts.ensures.cells
      (λ k below none. c.make_parts.ensures.others t (whole t pattern) k none ∙ ap (λ v. slice_get v k) c.in_ok-places.ensures ∙ none-at None c.args.count k below) in
      goes-grows c.make_parts.ensures.goes_on (as_present now) (as_present c.reserve-first.new.self) (cells_of 0 (λ n. n + 1) t) (size t) (variable_count t) c.reserve-first.ensures.cells long variables-same room few within occurring

  words : KeepsWords (as_present now) (as_present known)
  words = keeps-then c.reserve-first.ensures.words c.know_names.ensures.words

  bindings : (as_present known).substitution ≡ (as_present now).substitution
  bindings = c.know_names.ensures.substitution ∙ c.reserve-first.ensures.substitution

  moved : MovesOn (as_present now) (as_present after) c.args.count
  moved =
      let goes = c.make_parts.ensures.goes_on in
      let same = first-is in
      record {
        next = goes.next ∙ next-known ∙ ap (λ n. n + c.args.count) first-is;
        taken = λ n below. goes.numbers n (omega arith) ∙ ap (λ a. list_any (has_cell_number n) a.low) c.know_names.ensures.area ∙ c.reserve-first.ensures.numbers.taken n below;
      }

  -- where the term is a variable
  module _ (k : ℕ) (t : Tree) (is : Makes (built known c.reserve-first.result (length c.in_ok-places.places.items)) (built after c.reserve-first.result (length c.in_ok-places.places.items)) (Place k) (apply (numbered c.reserve-first.result) t)) (few : length after.area.low ≤ length known.area.low + cells_of 0 (λ n. n + 1) t) where
    alone : (variable_count t ≡ 1) × (size t ≡ 1) × (cells_of 0 (λ n. n + 1) t ≡ 0)
    alone = renewed-alone c.reserve-first.result k t is.term

    none-came : length after.area.low ≤ length known.area.low
    none-came = let none = alone.2 in omega (arith, few)

    still : Grows (as_present now) (as_present after) 0 0
    still = goes-stays c.make_parts.ensures.goes_on (as_present now) (as_present c.reserve-first.new.self) c.reserve-first.ensures.cells long variables-same room none-came

    words-after : KeepsWords (as_present now) (as_present after)
    words-after = keeps-then words (record { stand = λ v h. is.words.stand (Word v) h; terms = λ v h. is.words.terms (Word v) h })

    bare : list_any (has_cell_number (c.reserve-first.result + k)) after.area.low ≡ false
    bare = ap (list_any (has_cell_number (c.reserve-first.result + k))) (goes-nowhere c.make_parts.ensures.goes_on none-came) ∙ free (c.reserve-first.result + k) (omega arith)

    place-below : k < c.args.count
    place-below =
        let size = ap length c.in_ok-places.ensures ∙ length-replicate c.args.count None in
        let below = ltb-true _ _ is.holds in
        omega arith

    below-next : c.reserve-first.result + k < after.next
    below-next = let first = first-is in let next = moved.next in let less = place-below in omega arith

-- ---- a term that is no variable
pub returns-in_err-word-clause-cells : goal.returns-in_err-word-clause-cells
returns-in_err-word-clause-cells c t pattern = cells (goal.at.returns-in_err-word-clause-cells c).After-make_parts t pattern

pub returns-in_err-word-clause-marks : goal.returns-in_err-word-clause-marks
returns-in_err-word-clause-marks c m p h = goes-marks c.make_parts.ensures.goes_on m p (c.know_names.ensures.marks m p (c.reserve-first.ensures.marks m p h))

pub returns-in-Word-clause-made : goal.returns-in-Word-clause-made
returns-in-Word-clause-made c t pattern =
    let all = (goal.at.returns-in-Word-clause-made c).After-make_parts in
    let old = c.args.heap.now in
    let is = rw c.in-Word.is at (c.in_ok-word.ensures.made t (whole all t pattern)) in
    goes-makes c.make_parts.ensures.goes_on (as_present old) (length c.in_ok-places.places.items) c.in-Word.word (apply (numbered c.reserve-first.result) t) (renamed old.next t) (words all) (bindings all) (ap (λ n. apply (numbered n) t) c.reserve-first.ensures.number) is

pub returns-in-Word-clause-numbers : goal.returns-in-Word-clause-numbers
returns-in-Word-clause-numbers c = moved (goal.at.returns-in-Word-clause-numbers c).After-make_parts

pub returns-in-Word-clause-cells : goal.returns-in-Word-clause-cells
returns-in-Word-clause-cells c t pattern = cells (goal.at.returns-in-Word-clause-cells c).After-make_parts t pattern

pub returns-in-Word-clause-marks : goal.returns-in-Word-clause-marks
returns-in-Word-clause-marks c m p h = goes-marks c.make_parts.ensures.goes_on m p (c.know_names.ensures.marks m p (c.reserve-first.ensures.marks m p h))

-- ---- a term that is a variable
pub overflow_add-first : goal.overflow_add-first
overflow_add-first c =
    let all = (goal.at.overflow_add-first c).After-make_parts in
    let r = c.requires.pattern in
    let is = rw c.in-Variable.is at (c.in_ok-word.ensures.made r.0 (whole all r.0 r.1)) in
    let below = place-below all c.in-Variable.place r.0 is (c.make_parts.ensures.few r.0 (whole all r.0 r.1)) in
    let first = c.reserve-first.ensures.number in
    let next = c.requires.next in
    omega arith

pub variable-requires-clause-reserved : goal.variable-requires-clause-reserved
variable-requires-clause-reserved c =
    let all = (goal.at.variable-requires-clause-reserved c).After-make_parts in
    let r = c.requires.pattern in
    let is = rw c.in-Variable.is at (c.in_ok-word.ensures.made r.0 (whole all r.0 r.1)) in
    below-next all c.in-Variable.place r.0 is (c.make_parts.ensures.few r.0 (whole all r.0 r.1))

pub variable-requires-clause-free : goal.variable-requires-clause-free
variable-requires-clause-free c =
    let all = (goal.at.variable-requires-clause-free c).After-make_parts in
    let r = c.requires.pattern in
    let is = rw c.in-Variable.is at (c.in_ok-word.ensures.made r.0 (whole all r.0 r.1)) in
    bare all c.in-Variable.place r.0 is (c.make_parts.ensures.few r.0 (whole all r.0 r.1))

pub returns-clause-made : goal.returns-clause-made
returns-clause-made c t pattern =
    let all = (goal.at.returns-clause-made c).After-make_parts in
    let old = c.args.heap.now in
    let is = rw c.in-Variable.is at (c.in_ok-word.ensures.made t (whole all t pattern)) in
    let few = c.make_parts.ensures.few t (whole all t pattern) in
    made-after (as_present c.variable.new.self) (Variable (c.reserve-first.result + c.in-Variable.place)) (renamed old.next t) c.variable.result (words-after all c.in-Variable.place t is few) (is.substitution ∙ bindings all)
    (is.term ∙ ap (λ n. apply (numbered n) t) c.reserve-first.ensures.number) c.variable.ensures.made

pub returns-clause-numbers : goal.returns-clause-numbers
returns-clause-numbers c =
    let all = (goal.at.returns-clause-numbers c).After-make_parts in
    let first = c.reserve-first.ensures.number in
    moved-then (as_present c.variable.new.self) (c.reserve-first.result + c.in-Variable.place) c.variable.result (omega arith) (moved all) c.variable.ensures.numbers

pub returns-clause-cells : goal.returns-clause-cells
returns-clause-cells c t pattern =
    let all = (goal.at.returns-clause-cells c).After-make_parts in
    let is = rw c.in-Variable.is at (c.in_ok-word.ensures.made t (whole all t pattern)) in
    let few = c.make_parts.ensures.few t (whole all t pattern) in
    let one = alone all c.in-Variable.place t is few in
    let variables = one.0 in
    let size = one.1 in
    grows-both _ _ (still all c.in-Variable.place t is few) c.variable.ensures.cells (omega arith) (omega arith)

pub returns-clause-marks : goal.returns-clause-marks
returns-clause-marks c m p h = c.variable.ensures.marks m p (goes-marks c.make_parts.ensures.goes_on m p (c.know_names.ensures.marks m p (c.reserve-first.ensures.marks m p h)))
