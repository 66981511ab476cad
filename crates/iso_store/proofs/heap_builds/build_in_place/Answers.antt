use Rattle.std.proofs.Common.{◌≡◌, ℕ, ◌+◌, ◌≤◌, [], None, length, take, false, ap, sym, ◌∙◌, subst, arith, true}
use Rattle.std.specs.List.{list_any}
use Rattle.std.proofs.lemmas.List.{length-replicate}
use Rattle.iso_model.specs.Terms.Trees.{Tree, Variable}
use Rattle.iso_model.specs.Terms.TermOf.{term_of}
use Rattle.iso_model.specs.Terms.Sorts.{is_term}
use Rattle.iso_model.specs.Terms.Sizes.{size}
use Rattle.iso_model.specs.Terms.Variables.{distinct_from, variable_count}
use Rattle.iso_model.specs.Terms.Substitutions.{apply}
use Rattle.iso_model.specs.Terms.Copies.{place_of, copy_from}
use Rattle.iso_model.specs.Terms.Unification.Listed.{Covers, distinct_covers}
use Rattle.iso_model.proofs.OnTerms.MeaningLemmas.{meaning_is_term}
use Rattle.iso_store_core.specs.Presents.{KeepsWords, Grows}
use Rattle.iso_store_core.specs.Copying.{cells_of}
use Rattle.iso_store_core.specs.Patterns.{HasPlaces, IsPattern}
use Rattle.iso_store.specs.HeapTerms.{variable_cells}
use Rattle.iso_store.specs.HeapStores.{has_cell_number}
use Rattle.iso_store.specs.HeapBuilds.{numbered}
use Rattle.iso_store.proofs.Gathering.{keeps-then}
use Rattle.iso_store.proofs.Renaming.{arities-renamed, cells-renamed, places-covered}
use Rattle.iso_store.proofs.HeapBuilt.{as_present, cells-within, copied-numbers, each-counted, goes-grows, goes-makes, goes-marks, goes-variables, have-none, no-variable}
use Rattle.iso_store.proofs.heap_builds.build_in_place.Goals.{After-know_names, After-as_slice, After-make_parts}
use Rattle.iso_store.proofs.heap_builds.build_in_place.Goals as goal

pub returns-in_err-pattern-clause-marks : goal.returns-in_err-pattern-clause-marks
returns-in_err-pattern-clause-marks c m p h = c.written.ensures.marks m p (c.reserve-first.ensures.marks m p h)

pub returns-in_err-places-clause-marks : goal.returns-in_err-places-clause-marks
returns-in_err-places-clause-marks c m p h = c.know_names.ensures.marks m p (c.written.ensures.marks m p (c.reserve-first.ensures.marks m p h))

pub returns-in_err-word-clause-marks : goal.returns-in_err-word-clause-marks
returns-in_err-word-clause-marks c m p h = goes-marks c.make_parts.ensures.goes_on m p (c.know_names.ensures.marks m p (c.written.ensures.marks m p (c.reserve-first.ensures.marks m p h)))

pub returns-clause-marks : goal.returns-clause-marks
returns-clause-marks c m p h = goes-marks c.make_parts.ensures.goes_on m p (c.know_names.ensures.marks m p (c.written.ensures.marks m p (c.reserve-first.ensures.marks m p h)))

-- the pattern of the term, among all names
whole : (c : After-know_names) → IsPattern (take c.know_names.new.self.named c.know_names.new.self.atoms) c.in_ok-pattern.pattern.parts.items (apply (λ x. Variable (place_of x c.note_all.new.self)) (term_of c.args.term.now))
whole c = rw c.know_names.ensures.every c.in_ok-pattern.ensures.pattern

sliced : (c : After-as_slice) → IsPattern (take c.know_names.new.self.named c.know_names.new.self.atoms) c.as_slice.result.now (apply (λ x. Variable (place_of x c.note_all.new.self)) (term_of c.args.term.now))
sliced c = rw (c.as_slice.ensures.value, c.know_names.ensures.every) c.in_ok-pattern.ensures.pattern

pub make_parts-requires-clause-pattern : goal.make_parts-requires-clause-pattern
make_parts-requires-clause-pattern c =
    let t = term_of c.args.term.now in
    let vs = c.note_all.new.self in
    let list = c.in-Ok.ensures.numbers ∙ ap (λ us. distinct_from us t) c.new-variables.ensures in
    let u : Tree = apply (λ x. Variable (place_of x vs)) t in
    let covered : Covers vs t = rw list (distinct_covers [] t) in
    let size = ap length c.in_ok-places.ensures ∙ length-replicate c.len-2.result None ∙ c.len-2.ensures.len in
    (u, sliced (goal.at.make_parts-requires-clause-pattern c).After-as_slice, arities-renamed (λ x. place_of x vs) t ∙ c.requires.fits, subst (λ n. HasPlaces n u) (sym size) (places-covered vs t covered))

pub make_parts-requires-clause-cells : goal.make_parts-requires-clause-cells
make_parts-requires-clause-cells c =
    let known = c.know_names.new.self in
    let free : (m : ℕ) → c.reserve-first.result ≤ m → list_any (has_cell_number m) known.area.low ≡ false = λ m above.
    ap (λ a. list_any (has_cell_number m) a.low) c.know_names.ensures.area ∙ ap (λ p. p.taken m) c.written.ensures.present ∙ c.reserve-first.ensures.free m above in
    rw c.in_ok-places.ensures (have-none known.area.low c.reserve-first.result c.len-2.result free)

cells : (c : After-make_parts) → Grows (as_present c.args.heap.now) (as_present c.make_parts.new.heap) (size (term_of c.args.term.now)) (variable_count (term_of c.args.term.now))
cells c =
    let t = term_of c.args.term.now in
    let vs = c.note_all.new.self in
    let u : Tree = apply (λ x. Variable (place_of x vs)) t in
    let same = cells-renamed (λ x. place_of x vs) 0 (λ n. n + 1) t in
    let less = cells-within t (meaning_is_term c.args.term.now ∙ c.requires.fits) in
    let within : cells_of 0 (λ n. n + 1) u ≤ size t = omega arith in
    let cells = sym (ap (λ a. length a.low) c.know_names.ensures.area ∙ ap (λ p. p.cells) c.written.ensures.present) in
    let variables = sym (ap (λ a. variable_cells a.low) c.know_names.ensures.area ∙ ap (λ p. p.variables) c.written.ensures.present) in
    let list = c.in-Ok.ensures.numbers ∙ ap (λ us. distinct_from us t) c.new-variables.ensures in
    let count = c.len.ensures.len ∙ ap length list in
    let next = c.know_names.ensures.next ∙ ap (λ p. p.next) c.written.ensures.present ∙ c.reserve-first.ensures.numbers.next in
    let number = c.reserve-first.ensures.number in
    let fewer = goes-variables c.make_parts.ensures.goes_on (variable_count t) (omega arith) in
    let room = sym (ap (λ a. a.capacity) c.know_names.ensures.area ∙ ap (λ p. p.limit) c.written.ensures.present) in
    goes-grows c.make_parts.ensures.goes_on (as_present c.args.heap.now) (as_present c.reserve-first.new.self) (cells_of 0 (λ n. n + 1) u) (size t) (variable_count t) c.reserve-first.ensures.cells cells variables room (c.make_parts.ensures.few u (rw (c.as_slice.ensures.value, c.know_names.ensures.every) c.in_ok-pattern.ensures.pattern)) within fewer

pub returns-in_err-word-clause-cells : goal.returns-in_err-word-clause-cells
returns-in_err-word-clause-cells c = cells (goal.at.returns-in_err-word-clause-cells c).After-make_parts

pub returns-clause-cells : goal.returns-clause-cells
returns-clause-cells c = cells (goal.at.returns-clause-cells c).After-make_parts

pub unreachable-requires : goal.unreachable-requires
unreachable-requires c =
    let t = term_of c.args.term.now in
    let vs = c.note_all.new.self in
    let u : Tree = apply (λ x. Variable (place_of x vs)) t in
    let made = rw c.in-Variable.is at (c.in_ok-word.ensures.made u (sliced (goal.at.unreachable-requires c).After-as_slice)) in
    no-variable (numbered c.reserve-first.result) u (c.reserve-first.result + c.in-Variable.field-0) (λ m. no-variable (λ x. Variable (place_of x vs)) t m c.requires.other) (sym made.term)

pub returns-clause-made : goal.returns-clause-made
returns-clause-made c =
    let t = term_of c.args.term.now in
    let vs = c.note_all.new.self in
    let list = c.in-Ok.ensures.numbers ∙ ap (λ us. distinct_from us t) c.new-variables.ensures in
    let u : Tree = apply (λ x. Variable (place_of x vs)) t in
    let old = c.args.heap.now in
    let known = c.know_names.new.self in
    let words : KeepsWords (as_present old) (as_present known) = keeps-then c.reserve-first.ensures.words (subst (λ p. KeepsWords p (as_present known)) c.written.ensures.present c.know_names.ensures.words) in
    let same = c.know_names.ensures.substitution ∙ ap (λ p. p.substitution) c.written.ensures.present ∙ c.reserve-first.ensures.substitution in
    let is = copied-numbers t c.reserve-first.result old.next vs c.reserve-first.ensures.number list in
    let made = rw c.in-Word.is at (c.in_ok-word.ensures.made u (sliced (goal.at.returns-clause-made c).After-as_slice)) in
    goes-makes c.make_parts.ensures.goes_on (as_present old) (length c.in_ok-places.places.items) c.in-Word.word (apply (numbered c.reserve-first.result) u) (copy_from t old.next) words same is made

pub returns-clause-numbers : goal.returns-clause-numbers
returns-clause-numbers c =
    let t = term_of c.args.term.now in
    let old = c.args.heap.now in
    let list = c.in-Ok.ensures.numbers ∙ ap (λ us. distinct_from us t) c.new-variables.ensures in
    let count = c.len.ensures.len ∙ ap length list in
    let first = c.reserve-first.ensures.number in
    let goes = c.make_parts.ensures.goes_on in
    record {
      next = goes.next ∙ c.know_names.ensures.next ∙ ap (λ p. p.next) c.written.ensures.present ∙ c.reserve-first.ensures.numbers.next ∙ ap (λ n. old.next + n) count;
      taken = λ n below.
          goes.numbers n (omega arith) ∙ ap (λ a. list_any (has_cell_number n) a.low) c.know_names.ensures.area ∙ ap (λ p. p.taken n) c.written.ensures.present ∙ c.reserve-first.ensures.numbers.taken n below;
    }

pub returns-clause-counted : goal.returns-clause-counted
returns-clause-counted c =
    let t = term_of c.args.term.now in
    let vs = c.note_all.new.self in
    let old = c.args.heap.now in
    let list = c.in-Ok.ensures.numbers ∙ ap (λ us. distinct_from us t) c.new-variables.ensures in
    let count = c.len.ensures.len ∙ ap length list in
    let is : is_term t ≡ true = meaning_is_term c.args.term.now ∙ c.requires.fits in
    let u : Tree = apply (λ x. Variable (place_of x vs)) t in
    let next = c.make_parts.ensures.goes_on.next ∙ c.know_names.ensures.next ∙ ap (λ p. p.next) c.written.ensures.present ∙ c.reserve-first.ensures.numbers.next in
    let cells = ap (λ a. length a.low) c.know_names.ensures.area ∙ ap (λ p. p.cells) c.written.ensures.present in
    let kept = c.reserve-first.ensures.cells.keeps in
    let same = cells-renamed (λ x. place_of x vs) 0 (λ n. n + 1) t in
    let each = each-counted t is c.requires.other in
    let all = c.in_ok-word.ensures.size u (sliced (goal.at.returns-clause-counted c).After-as_slice) in
    omega arith
