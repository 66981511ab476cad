use Rattle.std.proofs.Common.{◌≡◌, ◌+◌, suc, length, map, take, append-nil, refl, ap, ap₂, sym, ◌∙◌, subst, arith, add-one}
use Rattle.iso_store_core.specs.Presents.{Gathers}
use Rattle.iso_store.specs.Writing.{IsReady, part_cells}
use Rattle.iso_store.specs.Plans.{start, sketch_of, with_part}
use Rattle.iso_store.specs.HeapBuilds.{built, known_pieces}
use Rattle.iso_model.specs.Terms.Copies.{numbers_from}
use Rattle.iso_store.specs.declared.heap_cells.Piece.TheVariants.{Variable as Place}
use Rattle.iso_store.proofs.HeapCopied.{known-length, places-hold}
use Rattle.iso_store.proofs.Gathering.{gathers-length, keeps-none}
use Rattle.iso_store.proofs.HeapBuilding.{goes-none, goes-then}
use Rattle.iso_store.proofs.InstanceLemmas.{gathers-one}
use Rattle.iso_store.proofs.PlanLemmas.{sketch_at, ready-at, next-sketch, all-sketched, costs-more, part-costs}
use Rattle.iso_store.proofs.PlanMade.{gathers-kept, words-more, known-more}
use Rattle.iso_store.proofs.heap_copies.make_plan.Goals as goal

pub loop-part-init : goal.loop-part-init
loop-part-init c =
    let now = c.args.heap.now in
    let many = length c.args.places.now.items in
    let p = built now c.args.first many in
    let variables = map Place (numbers_from 0 many) in
    record {
      pieces = rw c.new-pieces.ensures.items (record { words = keeps-none p; substitution = refl; hold = λ k d below. absurd (omega arith); terms = refl });
      known = rw c.new-compounds.ensures.items (subst (λ ps. Gathers p p ps (map p.term variables)) (sym (append-nil variables)) (gathers-kept variables (keeps-none p) refl (places-hold (take now.named now.atoms) now.area.low many 0 many (omega arith))));
      few = omega arith;
      cells = c.requires.cells;
      count = refl;
      goes_on = goes-none c.args.first now;
    }

pub make_planned-requires-clause-named : goal.make_planned-requires-clause-named
make_planned-requires-clause-named c =
    let old = c.args.heap.now in
    let names = take old.named old.atoms in
    let so = c.loop-part.invariant in
    let s = start (map (built old c.args.first (length c.args.places.now.items)).term (map Place (numbers_from 0 (length c.args.places.now.items)))) in
    let ready = ready-at names c.args.parts.now s c.loop-part.part-index c.part-item.result c.requires.plan.1.ready c.loop-part-test.true c.part-item.is in
    rw (so.goes_on.named, so.goes_on.atoms) ready.0

pub make_planned-requires-clause-ready : goal.make_planned-requires-clause-ready
make_planned-requires-clause-ready c =
    let old = c.args.heap.now in
    let names = take old.named old.atoms in
    let so = c.loop-part.invariant in
    let s = start (map (built old c.args.first (length c.args.places.now.items)).term (map Place (numbers_from 0 (length c.args.places.now.items)))) in
    let now = sketch_at names c.args.parts.now s c.loop-part.part-index in
    let ready = ready-at names c.args.parts.now s c.loop-part.part-index c.part-item.result c.requires.plan.1.ready c.loop-part-test.true c.part-item.is in
    let known = sym (gathers-length so.known) ∙ known-length (length c.args.places.now.items) c.loop-part.compounds.items ∙ ap (λ n. n + length c.loop-part.compounds.items) (sym so.count) in
    let pieces = sym (gathers-length so.pieces) in
    subst (λ n. IsReady n (length c.loop-part.pieces.items) c.part-item.result) known (subst (λ n. IsReady (length now.known) n c.part-item.result) pieces ready.1)

pub returns-in_err-make_planned-clause-few : goal.returns-in_err-make_planned-clause-few
returns-in_err-make_planned-clause-few c t plan =
    let old = c.args.heap.now in
    let names = take old.named old.atoms in
    let known = map (built old c.args.first (length c.args.places.now.items)).term (map Place (numbers_from 0 (length c.args.places.now.items))) in
    let within = costs-more names 0 (λ n. n + 1) c.args.parts.now known c.loop-part.part-index c.part-item.result t plan c.loop-part-test.true c.part-item.is in
    let same = ap (λ n. part_cells 0 (λ m. m + 1) n c.part-item.result) (gathers-length c.loop-part.invariant.pieces) in
    let before = c.loop-part.invariant.few in
    let more = c.make_planned.ensures.few in
    omega arith

pub returns-in_err-make_planned-clause-goes_on : goal.returns-in_err-make_planned-clause-goes_on
returns-in_err-make_planned-clause-goes_on c = goes-then c.loop-part.invariant.goes_on c.make_planned.ensures.goes_on

pub loop-part-preserved : goal.loop-part-preserved
loop-part-preserved c =
    let old = c.args.heap.now in
    let first = c.args.first in
    let many = length c.args.places.now.items in
    let names = take old.named old.atoms in
    let s = start (map (built old first many).term (map Place (numbers_from 0 many))) in
    let ks = c.args.parts.now in
    let i = c.loop-part.part-index in
    let part = c.part-item.result in
    let so = c.loop-part.invariant in
    let index : i + 1 ≡ suc i = add-one i in
    let now = sketch_at names ks s i in
    let mid = c.loop-part.heap in
    let next = next-sketch names ks s i part c.loop-part-test.true c.part-item.is in
    let same-names : take mid.named mid.atoms ≡ names = ap₂ take so.goes_on.named so.goes_on.atoms in
    let new = c.make_planned.new.heap in
    let ws = c.loop-part.pieces.items in
    let us = known_pieces many c.loop-part.compounds.items in
    let pieces =
    subst (λ ns. Gathers (built mid first many) (built new first many) c.make_planned.new.pieces.items (with_part ns part (sketch_of (built mid first many) ws us)).terms) same-names
    (subst (λ n. Gathers (built mid first n) (built new first n) c.make_planned.new.pieces.items (with_part (take mid.named mid.atoms) part (sketch_of (built mid first n) ws (known_pieces n c.loop-part.compounds.items))).terms) so.count c.in_ok-make_planned.ensures.pieces) in
    let known =
    subst (λ ns. Gathers (built mid first many) (built new first many) (known_pieces many c.make_planned.new.compounds.items) (with_part ns part (sketch_of (built mid first many) ws us)).known) same-names
    (subst (λ n. Gathers (built mid first n) (built new first n) (known_pieces n c.make_planned.new.compounds.items) (with_part (take mid.named mid.atoms) part (sketch_of (built mid first n) ws (known_pieces n c.loop-part.compounds.items))).known) so.count c.in_ok-make_planned.ensures.known) in
    let one = part-costs names 0 (λ n. n + 1) part now in
    let same = ap (λ n. part_cells 0 (λ m. m + 1) n part) (gathers-length so.pieces) in
    let before = so.few in
    let more = c.make_planned.ensures.few in
    record {
      pieces = rw (index, next) (words-more names now ws us c.make_planned.new.pieces.items so.pieces so.known part pieces);
      known = rw (index, next) (known-more names now ws us (known_pieces many c.make_planned.new.compounds.items) so.pieces so.known part known);
      few = rw (index, next) (omega arith);
      cells = c.make_planned.ensures.cells;
      count = c.make_planned.ensures.count ∙ so.count;
      goes_on = goes-then so.goes_on c.make_planned.ensures.goes_on;
    }

pub returns-clause-made : goal.returns-clause-made
returns-clause-made c t plan =
    let old = c.args.heap.now in
    let names = take old.named old.atoms in
    let s = start (map (built old c.args.first (length c.args.places.now.items)).term (map Place (numbers_from 0 (length c.args.places.now.items)))) in
    let all = ap (λ x. x.terms) (all-sketched names c.args.parts.now s c.loop-part.part-index c.loop-part-test.false) ∙ plan.term in
    let gathered = rw (c.in-Some.ensures.items, all) at c.loop-part.invariant.pieces in
    gathers-one c.pop.new.self.items c.in-Some.piece t gathered
