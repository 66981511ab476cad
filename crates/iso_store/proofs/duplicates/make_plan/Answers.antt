use Rattle.std.proofs.Common.{◌≡◌, ◌+◌, suc, length, map, ap, sym, ◌∙◌, subst, arith, add-one}
use Rattle.iso_store_core.specs.Patterns.{IsNamed}
use Rattle.iso_store.specs.Writing.{IsReady, part_cells}
use Rattle.iso_store.specs.Plans.{start}
use Rattle.iso_store.proofs.Gathering.{gathers-length, numbers-then, grows-on}
use Rattle.iso_store.proofs.InstanceLemmas.{gathers-one}
use Rattle.iso_store.proofs.PlanLemmas.{sketch_at, ready-at, next-sketch, all-sketched, costs-more, part-costs}
use Rattle.iso_store.proofs.PlanMade.{words-more, known-more}
use Rattle.iso_store.proofs.duplicates.make_plan.Goals as goal

pub make_planned-requires-clause-named : goal.make_planned-requires-clause-named
make_planned-requires-clause-named g c =
    let names = g.S.Primitives.names c.args.store.now in
    let s = start (map (g.S.Primitives.present c.args.store.now).term c.args.known.items) in
    let ready = ready-at names c.args.parts.now s c.loop-part.part-index c.part-item.result c.requires.plan.1.ready c.loop-part-test.true c.part-item.is in
    subst (λ ns. IsNamed ns c.part-item.result) (sym c.loop-part.invariant.names) ready.0

pub make_planned-requires-clause-ready : goal.make_planned-requires-clause-ready
make_planned-requires-clause-ready g c =
    let names = g.S.Primitives.names c.args.store.now in
    let s = start (map (g.S.Primitives.present c.args.store.now).term c.args.known.items) in
    let now = sketch_at names c.args.parts.now s c.loop-part.part-index in
    let ready = ready-at names c.args.parts.now s c.loop-part.part-index c.part-item.result c.requires.plan.1.ready c.loop-part-test.true c.part-item.is in
    let known = sym (gathers-length c.loop-part.invariant.known) in
    let words = sym (gathers-length c.loop-part.invariant.words) in
    subst (λ n. IsReady n (length c.loop-part.words.items) c.part-item.result) known (subst (λ n. IsReady (length now.known) n c.part-item.result) words ready.1)

pub returns-in_err-make_planned-clause-cells : goal.returns-in_err-make_planned-clause-cells
returns-in_err-make_planned-clause-cells g c t plan =
    let names = g.S.Primitives.names c.args.store.now in
    let known = map (g.S.Primitives.present c.args.store.now).term c.args.known.items in
    let within = costs-more names g.S.Primitives.atomic g.S.Primitives.width c.args.parts.now known c.loop-part.part-index c.part-item.result t plan c.loop-part-test.true c.part-item.is in
    let same = ap (λ n. part_cells g.S.Primitives.atomic g.S.Primitives.width n c.part-item.result) (gathers-length c.loop-part.invariant.words) in
    grows-on _ c.loop-part.invariant.cells c.make_planned.ensures.cells (omega arith)

pub loop-part-preserved : goal.loop-part-preserved
loop-part-preserved g c =
    let names = g.S.Primitives.names c.args.store.now in
    let s = start (map (g.S.Primitives.present c.args.store.now).term c.args.known.items) in
    let ks = c.args.parts.now in
    let i = c.loop-part.part-index in
    let part = c.part-item.result in
    let so = c.loop-part.invariant in
    let index : i + 1 ≡ suc i = add-one i in
    let now = sketch_at names ks s i in
    let next = next-sketch names ks s i part c.loop-part-test.true c.part-item.is in
    let words = rw so.names at c.in_ok-make_planned.ensures.words in
    let known = rw so.names at c.in_ok-make_planned.ensures.known in
    let one = part-costs names g.S.Primitives.atomic g.S.Primitives.width part now in
    let same = ap (λ n. part_cells g.S.Primitives.atomic g.S.Primitives.width n part) (gathers-length so.words) in
    record {
      words = rw (index, next) (words-more names now c.loop-part.words.items c.loop-part.known.items c.make_planned.new.words.items so.words so.known part words);
      known = rw (index, next) (known-more names now c.loop-part.words.items c.loop-part.known.items c.make_planned.new.known.items so.words so.known part known);
      numbers = numbers-then so.numbers c.in_ok-make_planned.ensures.numbers;
      cells = rw (index, next) (grows-on _ so.cells c.make_planned.ensures.cells (omega arith));
      names = c.make_planned.ensures.names ∙ so.names;
      marks = λ m q h. c.make_planned.ensures.marks m q (so.marks m q h);
    }

pub returns-clause-made : goal.returns-clause-made
returns-clause-made g c t plan =
    let p = g.S.Primitives.present c.args.store.now in
    let names = g.S.Primitives.names c.args.store.now in
    let s = start (map p.term c.args.known.items) in
    let all = ap (λ x. x.terms) (all-sketched names c.args.parts.now s c.loop-part.part-index c.loop-part-test.false) ∙ plan.term in
    let gathered = rw (c.in-Some.ensures.items, all) at c.loop-part.invariant.words in
    gathers-one c.pop.new.self.items c.in-Some.word t gathered
