use Rattle.std.proofs.Common.{◌+◌, refl, ◌∙◌, arith}
use Rattle.iso_store.proofs.Gathering.{grows-none, grows-on, grows-within}
use Rattle.iso_store.proofs.HeadCells.{later-next, later-fewer}
use Rattle.iso_store.proofs.UnifiedThese.{these-none, these-next, these-fail}
use Rattle.iso_store_core.specs.Presents.{Grows}
use Rattle.iso_store.specs.Reading.{later_cells}
use Rattle.iso_store.proofs.heads.unify_later.Given.{Over}
use Rattle.iso_store.proofs.heads.unify_later.Goals.{After-unify_part}
use Rattle.iso_store.proofs.heads.unify_later.Goals as goal

pub loop-part-init : goal.loop-part-init
loop-part-init g c = record {
  unified = these-none (g.S.Primitives.present c.args.store.now) (g.S.Primitives.names c.args.store.now) c.args.head.now c.args.words.now;
  cells = grows-none (g.S.Primitives.present c.args.store.now);
  names = refl;
  marks = λ m p h. h;
}

pub returns-then-not-branch-clause-unified : goal.returns-then-not-branch-clause-unified
returns-then-not-branch-clause-unified g c =
    let so = c.loop-part.invariant in
    these-fail (g.S.Primitives.names c.args.store.now) c.args.head.now c.args.words.now c.requires.words c.args.later.now c.requires.later c.loop-part.part-index c.part-item.result
    c.loop-part-test.true c.part-item.is so.unified (g.S.Primitives.present c.unify_part.new.store) _ c.if-not-branch.true (rw so.names at c.in_ok-unify_part.ensures.unified)

pub loop-part-preserved : goal.loop-part-preserved
loop-part-preserved g c =
    let so = c.loop-part.invariant in
    let names = g.S.Primitives.names c.args.store.now in
    let ks = c.args.head.now in
    let later = c.args.later.now in
    let i = c.loop-part.part-index in
    let next = later-next names ks g.S.Primitives.atomic g.S.Primitives.width later i c.part-item.result c.loop-part-test.true c.part-item.is in
    record {
      unified = these-next names ks c.args.words.now c.requires.words later c.requires.later i c.part-item.result c.loop-part-test.true c.part-item.is so.unified (g.S.Primitives.present c.unify_part.new.store) _ c.if-not-branch.false (rw so.names at c.in_ok-unify_part.ensures.unified);
      cells = grows-on _ so.cells (rw so.names at c.unify_part.ensures.cells) (omega (arith, next));
      names = c.unify_part.ensures.names ∙ so.names;
      marks = λ m p h. c.unify_part.ensures.marks m p (so.marks m p h);
    }

cells : (g : Over) (c : After-unify_part g) → Grows (g.S.Primitives.present c.args.store.now) (g.S.Primitives.present c.unify_part.new.store) (later_cells (g.S.Primitives.names c.args.store.now) c.args.head.now g.S.Primitives.atomic g.S.Primitives.width c.args.later.now) 0
cells g c =
    let so = c.loop-part.invariant in
    let names = g.S.Primitives.names c.args.store.now in
    let ks = c.args.head.now in
    let later = c.args.later.now in
    let i = c.loop-part.part-index in
    let next = later-next names ks g.S.Primitives.atomic g.S.Primitives.width later i c.part-item.result c.loop-part-test.true c.part-item.is in
    let fewer = later-fewer names ks g.S.Primitives.atomic g.S.Primitives.width later (i + 1) in
    grows-on _ so.cells (rw so.names at c.unify_part.ensures.cells) (omega (arith, next, fewer))

pub returns-in_err-unify_part-clause-cells : goal.returns-in_err-unify_part-clause-cells
returns-in_err-unify_part-clause-cells g c = cells g (goal.at.returns-in_err-unify_part-clause-cells g c).After-unify_part

pub returns-then-not-branch-clause-cells : goal.returns-then-not-branch-clause-cells
returns-then-not-branch-clause-cells g c = cells g (goal.at.returns-then-not-branch-clause-cells g c).After-unify_part

pub returns-clause-cells : goal.returns-clause-cells
returns-clause-cells g c =
    let fewer = later-fewer (g.S.Primitives.names c.args.store.now) c.args.head.now g.S.Primitives.atomic g.S.Primitives.width c.args.later.now c.loop-part.part-index in
    grows-within _ c.loop-part.invariant.cells fewer
