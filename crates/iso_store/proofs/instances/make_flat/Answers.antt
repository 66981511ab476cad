use Rattle.std.proofs.Common.{◌≤◌, ◌-◌, IfOk, length, take, map, ap, ◌∙◌, subst}
use Rattle.iso_model.specs.Terms.Substitutions.{apply}
use Rattle.iso_store_core.specs.Copying.{cells_of}
use Rattle.iso_store_core.proofs.PatternLemmas.{pattern-one}
use Rattle.iso_store_core.specs.Patterns.{at_places}
use Rattle.iso_store_core.specs.Presents.{Makes}
use Rattle.iso_store.proofs.Gathering.{grows-within}
use Rattle.iso_store.proofs.Picked.{flat-places, flat-few, flat-made, flat-cells}
use Rattle.iso_store.proofs.instances.make_flat.Goals as goal

pub compound_of-requires-clause-few : goal.compound_of-requires-clause-few
compound_of-requires-clause-few g c =
    let r = c.requires.pattern in
    flat-few (g.S.Primitives.names c.args.store.now) c.args.parts.now r.0 r.1 c.args.name c.requires.flat (g.S.Primitives.present c.args.store.now) c.args.variables.now c.requires.variables r.2 r.3

pub compound_of-requires-clause-places : goal.compound_of-requires-clause-places
compound_of-requires-clause-places g c =
    let r = c.requires.pattern in
    flat-places (g.S.Primitives.names c.args.store.now) c.args.parts.now r.0 r.1 c.args.name c.requires.flat (length c.args.variables.now) r.2 r.3

pub returns-clause-made : goal.returns-clause-made
returns-clause-made g c t pattern =
    let p = g.S.Primitives.present c.args.store.now in
    let s = at_places (map p.term c.args.variables.now) in
    let r = c.requires.pattern in
    let names = g.S.Primitives.names c.args.store.now in
    let one = flat-made names c.args.parts.now r.0 r.1 c.args.name c.requires.flat p c.args.variables.now c.requires.variables r.2 r.3 in
    subst (λ u. IfOk c.compound_of.result (λ w. Makes p (g.S.Primitives.present c.compound_of.new.self) w u)) (one ∙ ap (apply s) (pattern-one names c.args.parts.now r.0 t r.1 pattern)) c.compound_of.ensures.made

pub returns-clause-cells : goal.returns-clause-cells
returns-clause-cells g c t pattern =
    let p = g.S.Primitives.present c.args.store.now in
    let r = c.requires.pattern in
    let names = g.S.Primitives.names c.args.store.now in
    let few = flat-cells names c.args.parts.now r.0 r.1 c.args.name c.requires.flat p c.args.variables.now c.requires.variables r.2 r.3 g.S.Primitives.atomic g.S.Primitives.width in
    grows-within _ c.compound_of.ensures.cells (subst (λ u. g.S.Primitives.width (length (take (length c.args.parts.now - 1) c.args.parts.now)) ≤ cells_of g.S.Primitives.atomic g.S.Primitives.width u) (pattern-one names c.args.parts.now r.0 t r.1 pattern) few)
