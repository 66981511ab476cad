use Rattle.iso_model.specs.Search.AtomTexts.{element}
use Rattle.iso_store_core.proofs.AtomLemmas.{keeps-then}
use Rattle.iso_store_core.proofs.RetainLemmas.{takes_on}
use Rattle.iso_lib_core.proofs.ListLemmas.{numbers_then}
use Rattle.iso_text.specs.Forms.{form_of}
use Rattle.iso_text.proofs.SpellingLemmas.{spelling_goes_on, spelling_ends}
use Rattle.iso_text.proofs.spelling.spelled.Goals as goal

pub loop-character-preserved : goal.loop-character-preserved
loop-character-preserved g c =
    let p = g.S.Store.present c.args.store.now in
    let m = g.S.Store.present c.loop-character.store in
    let q = g.S.Store.present c.make_element.new.store in
    let i = c.loop-character.invariant in
    record {
      spelled = spelling_goes_on p m q (element (form_of c.args.form)) c.args.text.now c.loop-character.character-iterator.rest.now c.next.new.self.rest.now c.loop-character.words.items c.push.new.self.items c.in_ok-made.made c.in-Some.character i.spelled c.in-Some.ensures.steps.0 c.in_ok-made.ensures.made c.in_ok-push.ensures.items;
      numbers = numbers_then p m q i.numbers c.in_ok-made.ensures.numbers;
      cells = takes_on i.cells c.make_element.ensures.cells;
      names = keeps-then _ _ _ i.names c.make_element.ensures.rest.names;
      marks = λ m p h. c.make_element.ensures.rest.marks m p (i.marks m p h);
    }

pub returns-clause-values : goal.returns-clause-values
returns-clause-values g c =
    spelling_ends (g.S.Store.present c.args.store.now) (g.S.Store.present c.loop-character.store) (element (form_of c.args.form)) c.args.text.now c.loop-character.character-iterator.rest.now c.loop-character.words.items c.loop-character.invariant.spelled c.in-None.ensures.steps.0.0
