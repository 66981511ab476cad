use Rattle.std.proofs.Common.{subst, codes}
use Rattle.std.proofs.lemmas.Option.{slice_get_within}
use Rattle.iso_model.specs.Terms.TermOf.{term_of}
use Rattle.iso_model.specs.Search.Bodies.{two}
use Rattle.iso_store_core.specs.Patterns.{IsPattern}
use Rattle.iso_store_core.proofs.AtomLemmas.{text-is}
use Rattle.iso_store_core.proofs.PatternLemmas.{pattern-kept}
use Rattle.iso_program.proofs.patterns.written_whole.Goals as goal

pub returns-clause-whole : goal.returns-clause-whole
returns-clause-whole g c = λ t is.
    (let old = g.S.Store.names c.args.store.now in
    let mid = g.S.Store.names c.pattern.new.self in
    let new = g.S.Store.names c.intern.new.self in
    let name = c.in_ok-name.name in
    let head = pattern-kept mid new c.in_ok-name.ensures.names c.args.head.now.parts.items t (pattern-kept old mid c.in_ok-body.ensures.names c.args.head.now.parts.items t is) in
    let body = pattern-kept mid new c.in_ok-name.ensures.names c.in_ok-body.body.parts.items (term_of c.args.body.now) c.in_ok-body.ensures.pattern in
    let named = slice_get_within new name (codes ":-") c.in_ok-name.ensures.place in
    subst (λ f. IsPattern new c.in_ok-pair.field-0.parts.items (two f t (term_of c.args.body.now))) (text-is new name (codes ":-") c.in_ok-name.ensures.place)
    (c.in_ok-pair.ensures.pattern new t (term_of c.args.body.now) named head body))
