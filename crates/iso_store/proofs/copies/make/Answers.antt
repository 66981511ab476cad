use Rattle.std.proofs.Common.{map, sym, ◌∙◌, subst, IfOk}
use Rattle.iso_model.specs.Terms.Trees.{Variable}
use Rattle.iso_model.specs.Terms.TermOf.{term_of}
use Rattle.iso_model.specs.Terms.Substitutions.{apply}
use Rattle.iso_model.specs.Terms.Copies.{place_of}
use Rattle.iso_model.specs.Terms.Unification.Applied.{apply_apply}
use Rattle.iso_store_core.specs.Presents.{Makes}
use Rattle.iso_store_core.specs.Patterns.{HasPlaces, at_places}
use Rattle.iso_store.proofs.Renaming.{arities-renamed, cells-renamed, places-covered}
use Rattle.iso_store.proofs.copies.make.Goals as goal

pub instantiate-requires-clause-pattern : goal.instantiate-requires-clause-pattern
instantiate-requires-clause-pattern g c =
    let vs = c.args.variables.now in
    let t = term_of c.args.term.now in
    let fits = arities-renamed (λ x. place_of x vs) t ∙ c.requires.fits in
    let places = subst (λ n. HasPlaces n (apply (λ x. Variable (place_of x vs)) t)) (sym c.requires.count) (places-covered vs t c.requires.covered) in
    (apply (λ x. Variable (place_of x vs)) t, c.in_ok-pattern.ensures.pattern, fits, places)

pub returns-clause-made : goal.returns-clause-made
returns-clause-made g c =
    let p = g.S.Primitives.present c.args.store.now in
    let vs = c.args.variables.now in
    let t = term_of c.args.term.now in
    let whole = apply_apply (λ x. Variable (place_of x vs)) (at_places (map p.term c.args.words.now)) t in
    let made = rw c.written.ensures.present at (c.instantiate.ensures.made _ c.in_ok-pattern.ensures.pattern) in
    subst (λ u. IfOk c.instantiate.result (λ w. Makes p (g.S.Primitives.present c.instantiate.new.store) w u)) whole made

pub returns-clause-cells : goal.returns-clause-cells
returns-clause-cells g c =
    let vs = c.args.variables.now in
    let t = term_of c.args.term.now in
    let grows = rw c.written.ensures.present at (c.instantiate.ensures.cells _ c.in_ok-pattern.ensures.pattern) in
    rw (sym (cells-renamed (λ x. place_of x vs) g.S.Primitives.atomic g.S.Primitives.width t)) grows
