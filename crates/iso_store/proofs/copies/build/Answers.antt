use Rattle.std.proofs.Common.{[], length, ap, ◌∙◌, arith}
use Rattle.iso_model.specs.Terms.TermOf.{term_of}
use Rattle.iso_model.specs.Terms.Variables.{distinct_from}
use Rattle.iso_model.specs.Terms.Unification.Listed.{distinct_covers}
use Rattle.iso_store.proofs.CellCounts.{built-counted}
use Rattle.iso_store.proofs.Gathering.{built-made, variables-count}
use Rattle.iso_store.proofs.copies.build.Goals as goal

pub make-requires-clause-covered : goal.make-requires-clause-covered
make-requires-clause-covered g c =
    let list = c.in-Ok.ensures.numbers ∙ ap (λ vs. distinct_from vs (term_of c.args.term.now)) c.new-variables.ensures in
    rw list (distinct_covers [] (term_of c.args.term.now))

pub make-requires-clause-count : goal.make-requires-clause-count
make-requires-clause-count g c =
    let count = variables-count _ _ c.in_ok-words.ensures.made in
    ap length c.as_slice.ensures.value ∙ count ∙ c.len-2.ensures.len

pub returns-clause-made : goal.returns-clause-made
returns-clause-made g c =
    let list = c.in-Ok.ensures.numbers ∙ ap (λ vs. distinct_from vs (term_of c.args.term.now)) c.new-variables.ensures in
    let made = rw c.as_slice.ensures.value at c.make.ensures.made in
    built-made _ c.reserve-first.result c.len-2.result c.note_all.new.self (term_of c.args.term.now) c.reserve-first.ensures.words c.reserve-first.ensures.substitution c.reserve-first.ensures.number
    c.in_ok-words.ensures.made list (c.len-2.ensures.len) c.make.result made

pub returns-clause-counted : goal.returns-clause-counted
returns-clause-counted g c =
    let count = c.len.ensures.len in
    let again = c.len-2.ensures.len in
    let made = c.in_ok-words.ensures.each_cell in
    built-counted _ c.make.result c.reserve-first.ensures.numbers c.reserve-first.ensures.cells c.in_ok-words.ensures.numbers (omega arith) c.make.ensures.cells c.make.ensures.numbers
