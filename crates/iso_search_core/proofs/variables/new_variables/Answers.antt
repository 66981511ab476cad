use Rattle.std.proofs.Common.{◌≡◌, ◌+◌, refl, ap, ◌∙◌, arith}
use Rattle.iso_model.specs.Terms.Trees.{Variable}
use Rattle.iso_store_core.proofs.RetainLemmas.{takes_on, takes_same, takes_some}
use Rattle.iso_search_core.specs.Words.{no_word}
use Rattle.iso_search_core.proofs.WordLemmas.{extends_none, extends_new, variables_push, variables_more}
use Rattle.iso_search_core.proofs.variables.new_variables.Goals as goal

pub loop-made-init : goal.loop-made-init
loop-made-init g c = record { names = refl; variables = rw c.new-variables.ensures.items no_word; extends = extends_none _; cells = takes_same 0 refl; marks = λ m p h. h }

pub loop-made-preserved : goal.loop-made-preserved
loop-made-preserved g c =
    let before = c.loop-made.invariant in
    let made = c.in_ok-word.ensures.made in
    let next = c.in_ok-word.ensures.numbers in
    let number : (g.S.Store.present c.loop-made.store).next ≡ (g.S.Store.present c.args.store.now).next + c.loop-made._made = before.extends.next in
    record {
      names = c.in_ok-word.ensures.names ∙ before.names;
      variables = rw c.in_ok-push.ensures.items (variables_push _ _ _ _ (variables_more made.words before.variables) made.holds (made.term ∙ ap Variable number));
      extends = extends_new before.extends made next;
      cells = takes_on before.cells (takes_some 1 (omega arith) (omega arith) c.in_ok-word.ensures.cells);
      marks = λ m p h. c.in_ok-word.ensures.marks m p (before.marks m p h);
    }
