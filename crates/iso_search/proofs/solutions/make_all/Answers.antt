use Rattle.std.proofs.Common.{◌+◌, ◌++◌, ◌∷◌, [], map, take, sym, ap, ◌∙◌, arith}
use Rattle.std.proofs.lemmas.List.{get_or-map, length-map, take_more, take_all}
use Rattle.iso_model.specs.Terms.TermOf.{term_of}
use Rattle.iso_store_core.proofs.AtomLemmas.{keeps-then}
use Rattle.iso_store_core.proofs.RetainLemmas.{takes_on}
use Rattle.iso_lib_core.proofs.ListLemmas.{numbers_then}
use Rattle.iso_search.proofs.SolutionLists.{made_more}
use Rattle.iso_search.proofs.solutions.make_all.Goals as goal

pub loop-constant-preserved : goal.loop-constant-preserved
loop-constant-preserved g c =
    let p = g.S.Store.present c.args.store.now in
    let m = g.S.Store.present c.loop-constant.store in
    let q = g.S.Store.present c.make.new.store in
    let xs = c.args.constants.now in
    let k = c.loop-constant.constant-index in
    let x = c.constant-item.result in
    let test = c.loop-constant-test.true in
    let long = length-map xs term_of in
    let i = c.loop-constant.invariant in
    let at = ap term_of c.constant-item.is ∙ sym (get_or-map term_of xs k x (term_of x) test) in
    record {
      made = made_more p m q (take k (map term_of xs)) (take (k + 1) (map term_of xs)) c.loop-constant.words.items c.push.new.self.items c.in_ok-word.word (term_of x) i.made c.in_ok-word.ensures.made c.in_ok-push.ensures.items
          (take_more (map term_of xs) k (term_of x) (omega (arith, long, test)) ∙ ap (λ t. take k (map term_of xs) ++ t ∷ []) (sym at));
      numbers = numbers_then p m q i.numbers c.in_ok-word.ensures.numbers;
      cells = takes_on i.cells c.make.ensures.cells;
      names = keeps-then _ _ _ i.names c.make.ensures.rest.names;
      marks = λ m p h. c.make.ensures.rest.marks m p (i.marks m p h);
    }

pub returns-clause-values : goal.returns-clause-values
returns-clause-values g c =
    let xs = c.args.constants.now in
    let over = c.loop-constant-test.false in
    let long = length-map xs term_of in
    c.loop-constant.invariant.made.values ∙ take_all c.loop-constant.constant-index (map term_of xs) (omega (arith, long, over))
