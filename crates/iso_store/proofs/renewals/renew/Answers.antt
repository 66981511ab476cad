use Rattle.std.proofs.Common.{◌≡◌, ◌+◌, suc, length, ap, sym, ◌∙◌, subst, arith, add-one}
use Rattle.iso_model.specs.Terms.Trees.{row}
use Rattle.iso_model.specs.Terms.Variables.{variables}
use Rattle.iso_model.specs.Terms.Substitutions.{apply}
use Rattle.iso_store_core.specs.Copying.{cells_of}
use Rattle.iso_store_core.specs.Patterns.{IsPattern}
use Rattle.iso_store.specs.Writing.{IsReady, part_cells}
use Rattle.iso_store.specs.HeapBuilds.{numbered}
use Rattle.iso_store.proofs.Gathering.{grows-both, keeps-then}
use Rattle.iso_store.proofs.HeapBuilding.{gathers-step}
use Rattle.iso_store.proofs.InstanceLemmas.{so_far, next-part, part-grows, part-is-ready, cells-more, cells-so-far, all-parts, gathers-count, gathers-one}
use Rattle.iso_store.proofs.Renewed.{takes-then, step-seen, step-absent, seen-so-far}
use Rattle.iso_store.proofs.renewals.renew.Goals as goal

pub renew_part-requires-clause-ready : goal.renew_part-requires-clause-ready
renew_part-requires-clause-ready g c =
    let names = g.S.Primitives.names c.reserve-first.new.self in
    let ks = c.args.parts.now in
    let i = c.loop-part.part-index in
    let part = c.part-item.result in
    let so = c.loop-part.invariant in
    let r = c.requires.pattern in
    let whole = subst (λ ns. IsPattern ns c.args.parts.now r.0) (sym c.reserve-first.ensures.names) r.1 in
    let count = gathers-count (numbered c.reserve-first.result) (so_far names ks i) so.gathers in
    subst (λ n. IsReady n (length c.loop-part.words.items) part) (sym so.count)
    (subst (λ n. IsReady c.args.count n part) (sym count) (part-is-ready names ks r.0 whole i part c.args.count c.loop-part-test.true c.part-item.is r.2 r.3))

pub returns-in_err-renew_part-clause-cells : goal.returns-in_err-renew_part-clause-cells
returns-in_err-renew_part-clause-cells g c t pattern =
    let names = g.S.Primitives.names c.reserve-first.new.self in
    let atomic = g.S.Primitives.atomic in
    let width = g.S.Primitives.width in
    let ks = c.args.parts.now in
    let i = c.loop-part.part-index in
    let part = c.part-item.result in
    let so = c.loop-part.invariant in
    let whole = subst (λ ns. IsPattern ns c.args.parts.now t) (sym c.reserve-first.ensures.names) pattern in
    let same = ap (λ n. part_cells atomic width n part) (gathers-count (numbered c.reserve-first.result) (so_far names ks i) so.gathers) in
    let within = cells-more names ks t whole atomic width i part c.loop-part-test.true c.part-item.is in
    let seen = step-seen names c.loop-part.known.items part (so_far names ks i) so.left in
    let next = ap (λ ts. length (variables (row ts))) (next-part names ks i part c.loop-part-test.true c.part-item.is) in
    let all = seen-so-far names ks t whole (suc i) in
    let vs = length (variables (row (so_far names ks i))) in
    let before = grows-both (vs + cells_of atomic width (row (so_far names ks i))) vs c.reserve-first.ensures.cells so.cells (omega arith) (omega arith) in
    grows-both _ _ before c.renew_part.ensures.cells (omega (arith, same, within, seen, next, all)) (omega (arith, seen, next, all))

pub returns-in_err-renew_part-clause-marks : goal.returns-in_err-renew_part-clause-marks
returns-in_err-renew_part-clause-marks g c m p h = c.renew_part.ensures.marks m p (c.loop-part.invariant.marks m p (c.reserve-first.ensures.marks m p h))

pub loop-part-preserved : goal.loop-part-preserved
loop-part-preserved g c =
    let names = g.S.Primitives.names c.reserve-first.new.self in
    let atomic = g.S.Primitives.atomic in
    let width = g.S.Primitives.width in
    let ks = c.args.parts.now in
    let i = c.loop-part.part-index in
    let part = c.part-item.result in
    let so = c.loop-part.invariant in
    let first = c.reserve-first.result in
    let index : i + 1 ≡ suc i = add-one i in
    let next = next-part names ks i part c.loop-part-test.true c.part-item.is in
    let same = ap (λ n. part_cells atomic width n part) (gathers-count (numbered first) (so_far names ks i) so.gathers) in
    let seen = step-seen names c.loop-part.known.items part (so_far names ks i) so.left in
    let grown = part-grows names atomic width part (so_far names ks i) in
    record {
      gathers = rw (index, next) (gathers-step names (g.S.Primitives.names c.loop-part.store) (numbered first) part (so_far names ks i) so.names so.gathers c.in_ok-renew_part.ensures.gathers);
      known = c.in_ok-renew_part.ensures.known;
      left = λ k none. let was = c.in_ok-renew_part.ensures.left k none in rw (index, next) (step-absent names part (so_far names ks i) k (so.left k was.0) was.1);
      count = c.renew_part.ensures.count ∙ so.count;
      numbers = takes-then first so.numbers c.in_ok-renew_part.ensures.numbers;
      cells = rw (index, next) (grows-both _ _ so.cells c.renew_part.ensures.cells (omega (arith, same, seen, grown)) (omega (arith, seen)));
      names = c.renew_part.ensures.names ∙ so.names;
      marks = λ m p h. c.renew_part.ensures.marks m p (so.marks m p h);
    }

pub returns-clause-made : goal.returns-clause-made
returns-clause-made g c t pattern =
    let names = g.S.Primitives.names c.reserve-first.new.self in
    let ks = c.args.parts.now in
    let so = c.loop-part.invariant in
    let whole = subst (λ ns. IsPattern ns c.args.parts.now t) (sym c.reserve-first.ensures.names) pattern in
    let all = all-parts names ks t whole c.loop-part.part-index c.loop-part-test.false in
    let gathered = rw (c.in-Some.ensures.items, all) at so.gathers in
    let made = gathers-one c.pop.new.self.items c.in-Some.word (apply (numbered c.reserve-first.result) t) gathered in
    record {
      words = keeps-then c.reserve-first.ensures.words made.words;
      substitution = made.substitution ∙ c.reserve-first.ensures.substitution;
      holds = made.holds;
      term = made.term ∙ ap (λ n. apply (numbered n) t) c.reserve-first.ensures.number;
    }

pub returns-clause-numbers : goal.returns-clause-numbers
returns-clause-numbers g c =
    let so = c.loop-part.invariant in
    let first = c.reserve-first.ensures.number in
    record {
      next = so.numbers.next ∙ c.reserve-first.ensures.numbers.next;
      taken = λ n below. so.numbers.others n (omega arith) ∙ c.reserve-first.ensures.numbers.taken n below;
    }

pub returns-clause-cells : goal.returns-clause-cells
returns-clause-cells g c t pattern =
    let names = g.S.Primitives.names c.reserve-first.new.self in
    let atomic = g.S.Primitives.atomic in
    let width = g.S.Primitives.width in
    let ks = c.args.parts.now in
    let i = c.loop-part.part-index in
    let so = c.loop-part.invariant in
    let whole = subst (λ ns. IsPattern ns c.args.parts.now t) (sym c.reserve-first.ensures.names) pattern in
    let cells = cells-so-far names ks t whole atomic width i in
    let all = seen-so-far names ks t whole i in
    grows-both _ _ c.reserve-first.ensures.cells so.cells (omega (arith, cells, all)) (omega (arith, all))
