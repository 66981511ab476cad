use Rattle.std.proofs.Common.{◌≡◌, ◌-◌, ◌+◌, sym, subst, ◌∙◌, arith}
use Rattle.iso_model.specs.Terms.Trees.{Name}
use Rattle.iso_model.specs.Terms.Lists.{nil}
use Rattle.iso_store_core.specs.Presents.{KeepsNumbers}
use Rattle.iso_store_core.proofs.AtomLemmas.{keeps-then}
use Rattle.iso_store_core.proofs.RetainLemmas.{takes_on, takes_most, takes_same}
use Rattle.iso_lib_core.specs.Lists.{Comes}
use Rattle.iso_lib_core.proofs.ListLemmas.{list_begins, list_grows, numbers_then}
use Rattle.iso_lib_core.proofs.lists.make_list.Goals as goal

pub loop-index-init : goal.loop-index-init
loop-index-init g c =
    let p = g.S.Store.present c.args.store.now in
    let same : g.S.Store.present c.intern.new.self ≡ g.S.Store.present c.empty_list.new.store = c.intern.ensures.present in
    let came : Comes p (g.S.Store.present c.intern.new.self) c.in_ok-list.list (Name nil) = subst (λ q. Comes p q c.in_ok-list.list (Name nil)) (sym same) c.in_ok-list.ensures.made in
    record {
      within = omega arith;
      words = came.words;
      substitution = came.substitution;
      holds = came.holds;
      value = came.value ∙ sym (list_begins p c.args.words.now);
      numbers = subst (λ q. KeepsNumbers p q) (sym same) c.in_ok-list.ensures.numbers;
      cells = takes_most _ (omega arith) (takes_on c.empty_list.ensures.cells (takes_same 0 same));
      names = keeps-then _ _ _ c.empty_list.ensures.rest.names c.intern.ensures.names;
      dot = c.in_ok-dot.ensures.place;
      marks = λ m p h. c.intern.ensures.marks m p (c.empty_list.ensures.rest.marks m p h);
    }

pub loop-index-preserved : goal.loop-index-preserved
loop-index-preserved g c =
    let p = g.S.Store.present c.args.store.now in
    let i = c.loop-index.invariant in
    let within = i.within in
    let test = c.loop-index-test.true in
    let before : c.loop-index.index - 1 + 1 ≡ c.loop-index.index = omega (arith, test) in
    let grown = list_grows p c.args.words.now (g.S.Store.present c.loop-index.store) (g.S.Store.present c.put_before.new.store) (c.loop-index.index - 1) c.loop-index.index c.index-words-index.result c.loop-index.list c.in_ok-list-2.list
    before within c.requires.words c.index-words-index.is (record { words = i.words; substitution = i.substitution; holds = i.holds; value = i.value }) c.in_ok-list-2.ensures.made in
    record {
      within = omega (arith, within);
      words = grown.words;
      substitution = grown.substitution;
      holds = grown.holds;
      value = grown.value;
      numbers = numbers_then _ _ _ i.numbers c.in_ok-list-2.ensures.numbers;
      cells = takes_most _ (omega (arith, within, test)) (takes_on i.cells c.put_before.ensures.cells);
      names = keeps-then _ _ _ i.names (λ place text h. rw c.put_before.ensures.rest.names h);
      dot = rw c.put_before.ensures.rest.names i.dot;
      marks = λ m p h. c.put_before.ensures.rest.marks m p (i.marks m p h);
    }

pub returns-in_err-list-2-clause-cells : goal.returns-in_err-list-2-clause-cells
returns-in_err-list-2-clause-cells g c =
    let within = c.loop-index.invariant.within in
    let test = c.loop-index-test.true in
    takes_most _ (omega (arith, within, test)) (takes_on c.loop-index.invariant.cells c.put_before.ensures.cells)

pub returns-clause-cells : goal.returns-clause-cells
returns-clause-cells g c = takes_most _ (omega arith) c.loop-index.invariant.cells
