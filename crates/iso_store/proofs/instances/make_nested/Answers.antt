use Rattle.std.proofs.Common.{◌≡◌, ◌+◌, ◌<◌, ◌++◌, ◌∷◌, [], suc, length, map, ap, ◌∙◌, subst, arith, add-one}
use Rattle.iso_model.specs.Terms.Trees.{Tree}
use Rattle.iso_model.specs.Terms.Substitutions.{apply}
use Rattle.iso_store_core.specs.Patterns.{IsPattern, at_places}
use Rattle.iso_store.specs.Writing.{IsReady, MakesOne, part_cells}
use Rattle.iso_store.proofs.Gathering.{numbers-then, grows-on, grows-within}
use Rattle.iso_store.proofs.InstanceLemmas.{so_far, next-part, part-grows, part-is-ready, cells-so-far, cells-more, before-last, at-last, last-step, gathers-part, gathers-place, gathers-count, last-makes, made-behind}
use Rattle.iso_store.proofs.instances.make_nested.Goals as goal
use Rattle.iso_store.proofs.instances.make_nested.Given.{Over}
use Rattle.iso_store.proofs.instances.make_nested.Goals.{in-Variable+in_ok-push, in_default+in_ok-make_part, After-index-parts-last, In-Variable}

below : (g : Over) (c : In-Variable g) → c.in-Variable.place < length c.args.variables.now
below g c =
    let here = before-last _ _ _ c.loop-part-test.true c.part-item.is in
    let pattern = c.requires.pattern in
    subst (IsReady (length c.args.variables.now) _) c.in-Variable.is (part-is-ready _ _ _ pattern.1 _ _ (length c.args.variables.now) here.0 here.1 pattern.2 pattern.3)

pub bounds-variables-place : goal.bounds-variables-place
bounds-variables-place g c = below g (goal.at.bounds-variables-place g c).In-Variable

pub offset_bounds-variables-place : goal.offset_bounds-variables-place
offset_bounds-variables-place g c = omega (arith, below g (goal.at.offset_bounds-variables-place g c).In-Variable)

pub returns-in_err-push-clause-cells : goal.returns-in_err-push-clause-cells
returns-in_err-push-clause-cells g c t pattern =
    grows-within _ c.loop-part.invariant.cells (cells-so-far (g.S.Primitives.names c.args.store.now) c.args.parts.now t pattern g.S.Primitives.atomic g.S.Primitives.width c.loop-part.part-index)

pub make_part-requires-clause-ready : goal.make_part-requires-clause-ready
make_part-requires-clause-ready g c =
    let here = before-last _ _ _ c.loop-part-test.true c.part-item.is in
    let pattern = c.requires.pattern in
    rw (gathers-count _ _ c.loop-part.invariant.gathers) (part-is-ready _ _ _ pattern.1 _ _ (length c.args.variables.now) here.0 here.1 pattern.2 pattern.3)

pub returns-in_err-make_part-clause-cells : goal.returns-in_err-make_part-clause-cells
returns-in_err-make_part-clause-cells g c t pattern =
    let so = c.loop-part.invariant in
    let here = before-last _ _ _ c.loop-part-test.true c.part-item.is in
    let same = ap (λ n. part_cells g.S.Primitives.atomic g.S.Primitives.width n c.part-item.result) (gathers-count _ _ so.gathers) in
    let within = cells-more _ _ t pattern g.S.Primitives.atomic g.S.Primitives.width _ _ here.0 here.1 in
    grows-on _ so.cells c.make_part.ensures.cells (omega (arith, same, within))

pub loop-part-preserved : goal.loop-part-preserved
loop-part-preserved g c =
    let p = g.S.Primitives.present c.args.store.now in
    let names = g.S.Primitives.names c.args.store.now in
    let variables = c.args.variables.now in
    let s = at_places (map p.term variables) in
    let ks = c.args.parts.now in
    let i = c.loop-part.part-index in
    let part = c.part-item.result in
    let so = c.loop-part.invariant in
    let here = before-last ks i part c.loop-part-test.true c.part-item.is in
    let index : i + 1 ≡ suc i = add-one i in
    let next = next-part names ks i part here.0 here.1 in
    let count = gathers-count s (so_far names ks i) so.gathers in
    let one = part-grows names g.S.Primitives.atomic g.S.Primitives.width part (so_far names ks i) in
    elim c.match-part.branch [
      | in-Variable+in_ok-push w ↦
          let pattern = c.requires.pattern in
          let below : w.in-Variable.place < length variables =
          subst (IsReady (length variables) (length (so_far names ks i))) w.in-Variable.is
          (part-is-ready names ks pattern.0 pattern.1 i part (length variables) here.0 here.1 pattern.2 pattern.3) in
          rw (w.store-is, w.words-is) record {
            gathers = rw (index, next) (gathers-place names variables c.requires.variables (so_far names ks i) part w.in-Variable.place _ w.in-Variable.is below (w.in_ok-push.ensures.items ∙ ap (λ v. c.loop-part.words.items ++ v ∷ []) w.index-variables-place.is) so.gathers);
            numbers = so.numbers;
            cells = rw (index, next) (grows-within _ so.cells (omega (arith, one)));
            names = so.names;
            marks = so.marks;
          }
      | in_default+in_ok-make_part w ↦
          let made = rw so.names at w.in_ok-make_part.ensures.gathers in
          let same = ap (λ n. part_cells g.S.Primitives.atomic g.S.Primitives.width n part) count in
          rw (w.store-is, w.words-is) record {
            gathers = rw (index, next) (gathers-part names variables c.requires.variables (so_far names ks i) part so.gathers made);
            numbers = numbers-then so.numbers w.in_ok-make_part.ensures.numbers;
            cells = rw (index, next) (grows-on _ so.cells w.make_part.ensures.cells (omega (arith, one, same)));
            names = w.make_part.ensures.names ∙ so.names;
            marks = λ m q h. w.make_part.ensures.marks m q (so.marks m q h);
          }
    ]

pub make_last-requires-clause-ready : goal.make_last-requires-clause-ready
make_last-requires-clause-ready g c =
    let pattern = c.requires.pattern in
    let last = at-last _ _ _ pattern.1 _ _ c.loop-part-test.false c.loop-part.auto.part-index-end c.index-parts-last.is in
    rw (c.as_slice.ensures.value, gathers-count _ _ c.loop-part.invariant.gathers) (part-is-ready _ _ _ pattern.1 _ _ (length c.args.variables.now) (omega (arith, last.0)) last.1 pattern.2 pattern.3)

-- the last part makes the term of all parts
one : (g : Over) (c : After-index-parts-last g) (t : Tree) → IsPattern (g.S.Primitives.names c.args.store.now) c.args.parts.now t → MakesOne (g.S.Primitives.names c.args.store.now) (at_places (map (g.S.Primitives.present c.loop-part.store).term c.args.variables.now))
    c.index-parts-last.result (map (g.S.Primitives.present c.loop-part.store).term c.loop-part.words.items) (apply (at_places (map (g.S.Primitives.present c.args.store.now).term c.args.variables.now)) t)
one g c t pattern =
    let last = at-last _ _ t pattern _ _ c.loop-part-test.false c.loop-part.auto.part-index-end c.index-parts-last.is in
    last-makes _ c.args.variables.now c.requires.variables _ _ t (last-step _ _ t pattern _ _ last.0 last.1) c.loop-part.invariant.gathers

pub make_last-requires-clause-one : goal.make_last-requires-clause-one
make_last-requires-clause-one g c =
    let pattern = c.requires.pattern in
    rw (c.as_slice.ensures.value, c.loop-part.invariant.names) (_, one g (goal.at.make_last-requires-clause-one g c).After-index-parts-last pattern.0 pattern.1)

pub returns-clause-made : goal.returns-clause-made
returns-clause-made g c t pattern =
    let so = c.loop-part.invariant in
    let u = apply (at_places (map (g.S.Primitives.present c.args.store.now).term c.args.variables.now)) t in
    made-behind _ u c.make_last.result so.gathers (rw (c.as_slice.ensures.value, so.names) at c.make_last.ensures.made u (one g (goal.at.returns-clause-made g c).After-index-parts-last t pattern))

pub returns-clause-cells : goal.returns-clause-cells
returns-clause-cells g c t pattern =
    let so = c.loop-part.invariant in
    let last = at-last _ _ t pattern _ _ c.loop-part-test.false c.loop-part.auto.part-index-end c.index-parts-last.is in
    let same = ap (λ n. part_cells g.S.Primitives.atomic g.S.Primitives.width n c.index-parts-last.result) (gathers-count _ _ so.gathers) in
    let within = cells-more _ _ t pattern g.S.Primitives.atomic g.S.Primitives.width _ _ (omega (arith, last.0)) last.1 in
    let made = rw c.as_slice.ensures.value at c.make_last.ensures.cells in
    grows-on _ so.cells made (omega (arith, same, within))
