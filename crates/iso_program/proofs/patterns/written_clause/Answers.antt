use Rattle.std.proofs.Common.{◌≡◌, codes, arith, length, take, sym, ap, ◌∙◌, subst}
use Rattle.iso_model.specs.Terms.TermOf.{term_of}
use Rattle.iso_model.specs.Search.Bodies.{two}
use Rattle.iso_store_core.specs.Patterns.{IsPattern}
use Rattle.iso_program.proofs.WrittenLemmas.{written_kept, clause_written}
use Rattle.iso_program.proofs.patterns.written_clause.Goals as goal

pub returns-clause-clause : goal.returns-clause-clause
returns-clause-clause g c = λ k is.
    (let checked = c.args.checked.now in
    let first = g.S.Store.names c.pattern.new.self in
    let mid = g.S.Store.names c.written_whole.new.store in
    let new = g.S.Store.names c.keep.new.store in
    let head_term = term_of c.head.result.now in
    let body_term = term_of c.body.result.now in
    let head = written_kept mid new c.in_ok-own.ensures.rest.names c.in_ok-head.head head_term
    (written_kept first mid c.in_ok-whole.ensures.rest.names c.in_ok-head.head head_term c.in_ok-head.ensures.pattern) in
    let many : c.len.result ≡ length c.in_ok-head.head.parts.items = omega (arith, c.len.ensures, c.in_ok-head.head.parts.ok.0) in
    let same = ap (λ n. take n c.in_ok-whole.whole.parts.items) many ∙ c.in_ok-whole.ensures.begins in
    let begins = subst (λ ks. IsPattern new ks head_term) (sym same) head in
    let whole = written_kept mid new c.in_ok-own.ensures.rest.names c.in_ok-whole.whole (two (codes ":-") head_term body_term) (c.in_ok-whole.ensures.whole head_term c.in_ok-head.ensures.pattern) in
    clause_written new checked (record { head = c.len.result; whole = c.in_ok-whole.whole; variables = c.variables.result; own = c.in_ok-own.own }) k head_term body_term
    c.head.ensures c.body.ensures begins whole c.variables.ensures.count (c.in_ok-own.ensures.kept k is) is)
