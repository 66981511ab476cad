use Rattle.std.proofs.Common.{◌≡◌, ◌+◌, suc, length, map, take, ap, ap₂, sym, ◌∙◌, subst, arith, add-one}
use Rattle.iso_model.specs.Terms.Substitutions.{apply}
use Rattle.iso_store_core.specs.Presents.{Gathers}
use Rattle.iso_store_core.specs.Patterns.{part_step}
use Rattle.iso_model.specs.Terms.Building.{with_step}
use Rattle.iso_store.specs.Writing.{IsReady, part_cells}
use Rattle.iso_store.specs.HeapBuilds.{built, numbered}
use Rattle.iso_store.proofs.HeapBuilding.{gathers-step, goes-then}
use Rattle.iso_store.proofs.HeapRenewed.{no-piece}
use Rattle.iso_store.proofs.InstanceLemmas.{not-so-far, so_far, next-part, part-grows, part-is-ready, cells-more, all-parts, gathers-count, gathers-one}
use Rattle.iso_store.proofs.heap_builds.make_parts.Goals as goal

pub make_part-requires-clause-ready : goal.make_part-requires-clause-ready
make_part-requires-clause-ready c =
    let names = take c.args.heap.now.named c.args.heap.now.atoms in
    let s = numbered c.args.first in
    let ks = c.args.parts.now in
    let i = c.loop-part.part-index in
    let part = c.part-item.result in
    let whole = c.requires.pattern.1 in
    let count = gathers-count s (so_far names ks i) c.loop-part.invariant.gathers in
    rw (c.loop-part.invariant.count)
    (subst (λ n. IsReady (length c.args.places.now.items) n part) (sym count)
    (part-is-ready names ks c.requires.pattern.0 whole i part (length c.args.places.now.items) c.loop-part-test.true c.part-item.is c.requires.pattern.2 c.requires.pattern.3))

pub returns-in_err-make_part-clause-few : goal.returns-in_err-make_part-clause-few
returns-in_err-make_part-clause-few c t pattern =
    let names = take c.args.heap.now.named c.args.heap.now.atoms in
    let ks = c.args.parts.now in
    let i = c.loop-part.part-index in
    let part = c.part-item.result in
    let whole = pattern in
    let count = gathers-count (numbered c.args.first) (so_far names ks i) c.loop-part.invariant.gathers in
    let same = ap (λ n. part_cells 0 (λ m. m + 1) n part) count in
    let within = cells-more names ks t whole 0 (λ n. n + 1) i part c.loop-part-test.true c.part-item.is in
    let before = c.loop-part.invariant.size in
    let more = c.make_part.ensures.few in
    omega arith

pub returns-in_err-make_part-clause-goes_on : goal.returns-in_err-make_part-clause-goes_on
returns-in_err-make_part-clause-goes_on c = goes-then c.loop-part.invariant.goes_on c.make_part.ensures.goes_on

pub returns-in_err-make_part-clause-others : goal.returns-in_err-make_part-clause-others
returns-in_err-make_part-clause-others c t pattern k none =
    let names = take c.args.heap.now.named c.args.heap.now.atoms in
    let ks = c.args.parts.now in
    let i = c.loop-part.part-index in
    let so = c.loop-part.invariant in
    let now = c.loop-part.heap in
    let whole = pattern in
    c.make_part.ensures.others k (no-piece (take now.named now.atoms) c.args.first now.area.low c.loop-part.pieces.items (so_far names ks i) k so.gathers.terms (not-so-far names ks t whole i k none)) ∙ so.others t whole k none

pub returns-clause-others : goal.returns-clause-others
returns-clause-others c t pattern k none =
    let names = take c.args.heap.now.named c.args.heap.now.atoms in
    let whole = pattern in
    c.loop-part.invariant.others t whole k none

pub loop-part-preserved : goal.loop-part-preserved
loop-part-preserved c =
    let old = c.args.heap.now in
    let names = take old.named old.atoms in
    let s = numbered c.args.first in
    let ks = c.args.parts.now in
    let i = c.loop-part.part-index in
    let part = c.part-item.result in
    let so = c.loop-part.invariant in
    let index : i + 1 ≡ suc i = add-one i in
    let next = next-part names ks i part c.loop-part-test.true c.part-item.is in
    let count = gathers-count s (so_far names ks i) so.gathers in
    let now = c.loop-part.heap in
    let same-names : take now.named now.atoms ≡ names = ap₂ take so.goes_on.named so.goes_on.atoms in
    let made = subst (λ n. Gathers (built now c.args.first n) (built c.make_part.new.heap c.args.first n) c.make_part.new.pieces.items (with_step (part_step (take now.named now.atoms) s part) (map (built now c.args.first n).term c.loop-part.pieces.items))) so.count c.in_ok-make_part.ensures.gathers in
    let one = part-grows names 0 (λ n. n + 1) part (so_far names ks i) in
    let same = ap (λ n. part_cells 0 (λ m. m + 1) n part) count in
    let before = so.size in
    let more = c.in_ok-make_part.ensures.size in
    record {
      gathers = rw (index, next) (gathers-step names (take now.named now.atoms) s part (so_far names ks i) same-names so.gathers made);
      size = rw (index, next) (omega arith);
      cells = c.make_part.ensures.cells;
      count = c.make_part.ensures.count ∙ so.count;
      goes_on = goes-then so.goes_on c.make_part.ensures.goes_on;
      others = λ t pattern k none. c.make_part.ensures.others k (no-piece (take now.named now.atoms) c.args.first now.area.low c.loop-part.pieces.items (so_far names ks i) k so.gathers.terms (not-so-far names ks t pattern i k none)) ∙ so.others t pattern k none;
    }

pub returns-clause-made : goal.returns-clause-made
returns-clause-made c t pattern =
    let names = take c.args.heap.now.named c.args.heap.now.atoms in
    let s = numbered c.args.first in
    let ks = c.args.parts.now in
    let whole = pattern in
    let all = all-parts names ks t whole c.loop-part.part-index c.loop-part-test.false in
    let gathered = rw (c.in-Some.ensures.items, all) at c.loop-part.invariant.gathers in
    gathers-one c.pop.new.self.items c.in-Some.piece (apply s t) gathered
