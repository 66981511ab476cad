use Rattle.std.proofs.Common.{◌≡◌, ◌+◌, length, refl, ap, ◌∙◌, subst, arith}
use Rattle.iso_model.specs.Terms.Substitutions.{Subst}
use Rattle.iso_store_core.specs.Patterns.{at_places}
use Rattle.iso_plain_core.specs.Entering.{CopiesPart}
use Rattle.iso_search_core.specs.Words.{word_terms}
use Rattle.iso_store_core.proofs.RetainLemmas.{grows_on, grows_most, grows_same}
use Rattle.iso_plain_core.proofs.CellLemmas.{next_part, first_parts}
use Rattle.iso_search_core.proofs.WordLemmas.{words_hold, words_kept, extends_none, extends_on}
use Rattle.iso_plain_core.proofs.EnteringLemmas.{copies_none, copies_push, adds_none, adds_push, fits_next}
use Rattle.iso_plain_core.proofs.entries.copy_parts.Goals as goal

pub loop-part-init : goal.loop-part-init
loop-part-init g c = record { names = refl; fits = c.requires.fits; copies = copies_none _ _ _; extends = extends_none _; nodes = adds_none _; cells = λ counts. grows_same 0 0 refl; marks = λ m p h. h }

pub copied_part-requires-clause-fits : goal.copied_part-requires-clause-fits
copied_part-requires-clause-fits g c =
    rw c.loop-part.invariant.names (fits_next (g.S.Store.names c.args.store.now) (length c.args.variables.now) c.args.parts.now c.loop-part.part-index c.part-item.result c.loop-part-test.true c.part-item.is c.loop-part.invariant.fits).0

pub copied_part-requires-clause-variables : goal.copied_part-requires-clause-variables
copied_part-requires-clause-variables g c = words_hold c.args.variables.now c.loop-part.invariant.extends.words c.requires.variables

pub loop-part-preserved : goal.loop-part-preserved
loop-part-preserved g c =
    let before = c.loop-part.invariant in
    let p = g.S.Store.present c.args.store.now in
    let q = g.S.Store.present c.loop-part.store in
    let ws = c.args.variables.now in
    let same : word_terms q ws ≡ word_terms p ws = ap at_places (words_kept ws before.extends.words c.requires.variables) in
    let made = subst (λ (s : Subst). CopiesPart (g.S.Store.names c.args.store.now) q (g.S.Store.present c.copied_part.new.store) s c.part-item.result c.in_ok-node.node) same (rw before.names at c.in_ok-node.ensures.copies) in
    record {
      names = c.in_ok-node.ensures.rest.names ∙ before.names;
      fits = (fits_next (g.S.Store.names c.args.store.now) (length ws) c.args.parts.now c.loop-part.part-index c.part-item.result c.loop-part-test.true c.part-item.is before.fits).1;
      copies = rw c.in_ok-push.ensures.items (copies_push _ _ c.args.parts.now c.loop-part.part-index c.part-item.result c.in_ok-node.node c.loop-part-test.true c.part-item.is before.copies made);
      extends = extends_on before.extends made.extends;
      nodes = rw c.in_ok-push.ensures.items (adds_push _ _ _ before.nodes);
      cells = λ counts.
          let one = next_part (g.S.Store.names c.args.store.now) c.args.parts.now c.loop-part.part-index c.part-item.result c.loop-part-test.true c.part-item.is in
          grows_most _ 0 (omega (arith, one)) (omega arith) (grows_on (before.cells counts) ((rw before.names at c.in_ok-node.ensures.cells) counts));
      marks = λ m p h. c.in_ok-node.ensures.rest.marks m p (before.marks m p h);
    }

pub returns-in_err-node-clause-cells : goal.returns-in_err-node-clause-cells
returns-in_err-node-clause-cells g c = λ counts.
    let one = next_part (g.S.Store.names c.args.store.now) c.args.parts.now c.loop-part.part-index c.part-item.result c.loop-part-test.true c.part-item.is in
    let most = first_parts (g.S.Store.names c.args.store.now) c.args.parts.now (c.loop-part.part-index + 1) in
    grows_most _ 0 (omega (arith, one, most)) (omega arith) (grows_on (c.loop-part.invariant.cells counts) ((rw c.loop-part.invariant.names at c.in_err-node.ensures.cells) counts))

pub returns-in_err-push-clause-cells : goal.returns-in_err-push-clause-cells
returns-in_err-push-clause-cells g c = λ counts.
    let one = next_part (g.S.Store.names c.args.store.now) c.args.parts.now c.loop-part.part-index c.part-item.result c.loop-part-test.true c.part-item.is in
    let most = first_parts (g.S.Store.names c.args.store.now) c.args.parts.now (c.loop-part.part-index + 1) in
    grows_most _ 0 (omega (arith, one, most)) (omega arith) (grows_on (c.loop-part.invariant.cells counts) ((rw c.loop-part.invariant.names at c.in_ok-node.ensures.cells) counts))
