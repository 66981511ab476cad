use Rattle.std.proofs.Common.{sym, ap, ◌∙◌, ◌<◌, is_some, slice_get, arith}
use Rattle.std.proofs.lemmas.Bool.{false≢true}
use Rattle.std.proofs.lemmas.List.{length-map}
use Rattle.iso_store_core.specs.Presents.{meaning}
use Rattle.iso_store.specs.Listing.{number_of}
use Rattle.iso_store.specs.Planning.{numbers_of}
use Rattle.iso_store.proofs.PlanningLemmas.{variable-at, number-found, places-sound, places-known}
use Rattle.iso_store.proofs.plans.place_variables.Goals as goal

pub unreachable-requires : goal.unreachable-requires
unreachable-requires g c =
    let p = g.S.Primitives.present c.args.store.now in
    let variable = variable-at p c.args.variables.now c.loop-index.index c.index-variables-index.result c.requires.variables c.loop-index-test.true c.index-variables-index.is in
    false≢true (ap is_some (sym c.in_default.is ∙ c.place.ensures.variable (number_of (meaning p c.index-variables-index.result)) variable))

pub loop-index-preserved : goal.loop-index-preserved
loop-index-preserved g c =
    let p = g.S.Primitives.present c.args.store.now in
    let at = g.S.Primitives.at_place c.args.store.now in
    let place = g.S.Primitives.variable_place c.args.store.now in
    let w = c.index-variables-index.result in
    let i = c.loop-index.index in
    let below = c.loop-index-test.true in
    let is = c.index-variables-index.is in
    record {
      sound = places-sound p at place c.args.variables.now c.note.new.self i w below is c.in-Some.place c.loop-index.places c.in-Some.ensures.value c.in_ok-note.ensures c.loop-index.invariant.sound;
      known = places-known p at place c.args.variables.now c.note.new.self i w below is c.in-Some.place c.loop-index.places c.in-Some.ensures.value c.in_ok-note.ensures
          (λ n variable. sym c.in-Some.is ∙ c.place.ensures.variable n variable) c.loop-index.invariant.known;
    }

pub returns-clause-known : goal.returns-clause-known
returns-clause-known g c n inside =
    let p = g.S.Primitives.present c.args.store.now in
    let ws = c.args.variables.now in
    let found = number-found (numbers_of p ws) n inside in
    let many = length-map ws (λ w. number_of (meaning p w)) in
    let past = c.loop-index-test.false in
    let low : found.0 < c.loop-index.index = let below = found.1 in omega arith in
    c.loop-index.invariant.known found.0 n low (ap (λ ts. slice_get ts found.0) c.requires.variables ∙ found.2)
