use Rattle.std.proofs.Common.{◌≤◌, map, ap, sym, ◌∙◌, subst}
use Rattle.std.proofs.lemmas.List.{length-map, map-id}
use Rattle.std.proofs.lemmas.Iterator.Adapters.{YieldsList-from_vec}
use Rattle.std.proofs.lemmas.Iterator.Consumers.{YieldsList-end}
use Rattle.iso_model.specs.declared.terms.Term.{Term}
use Rattle.iso_model.specs.Search.Groups.{groups_of}
use Rattle.iso_lib_core.specs.Groupings.{solution_of, solutions_of}
use Rattle.iso_lib_core.proofs.ClassLemmas.{groups_are}
use Rattle.iso_lib_core.proofs.KeyLemmas.{keys_next, groups_next, place_within}
use Rattle.iso_lib_core.proofs.groups.groups.Goals as goal

pub loop-witness-preserved : goal.loop-witness-preserved
loop-witness-preserved c =
    let ks = c.loop-witness.classes.keys in
    let key = c.in_ok-class_of.field-0 in
    let xs = c.loop-witness.yielded in
    let x : Term × Term = (c.in-Some.witness, c.in-Some.item) in
    let gs = map solutions_of c.loop-witness.groups.items in
    let i = c.loop-witness.invariant in
    record {
      classes = keys_next ks key xs x gs i.classes i.groups c.in_ok-class_of.ensures c.insert_full.new.self.keys c.in_ok-place.ensures.keys;
      groups = groups_next ks key xs x gs i.classes i.groups c.in_ok-class_of.ensures c.in_ok-place.place (map solutions_of c.put.new.groups.items) c.in_ok-place.ensures.index c.in_ok-put.ensures.solutions;
      whole = c.in_ok-put.ensures.whole;
    }

pub put-requires-clause-place : goal.put-requires-clause-place
put-requires-clause-place c =
    let gs = map solutions_of c.loop-witness.groups.items in
    let x : Term × Term = (c.in-Some.witness, c.in-Some.item) in
    let i = c.loop-witness.invariant in
    let many = length-map c.loop-witness.groups.items solutions_of in
    subst (λ n. c.in_ok-place.place ≤ n) many
    (place_within c.loop-witness.classes.keys c.in_ok-class_of.field-0 c.loop-witness.yielded x gs i.classes i.groups c.in_ok-class_of.ensures c.in_ok-place.place c.in_ok-place.ensures.index)

pub returns-clause-groups : goal.returns-clause-groups
returns-clause-groups c =
    let given = c.into_iter-witness-iterator.ensures.into_iter_gives in
    let all = YieldsList-end (YieldsList-from_vec c.args.solutions.items given.0 (given.1 ∙ c.args.solutions.ok.0)) c.loop-witness.yielded c.loop-witness.witness-iterator c.loop-witness.yielded_by c.next.result c.next.new.self c.in-None.is c.next.ensures.steps in
    c.loop-witness.invariant.groups ∙ groups_are c.loop-witness.yielded ∙ ap (λ xs. groups_of (map solution_of xs)) (sym (map-id c.loop-witness.yielded) ∙ all.0)
