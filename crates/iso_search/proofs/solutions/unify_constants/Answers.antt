use Rattle.std.proofs.Common.{ap, map, length, arith}
use Rattle.std.proofs.lemmas.List.{length-map}
use Rattle.std.proofs.lemmas.Result.{IfOk-weaker}
use Rattle.iso_model.specs.Terms.TermOf.{term_of}
use Rattle.iso_model.specs.Terms.Lists.{list_of}
use Rattle.iso_store_core.specs.Presents.{meaning}
use Rattle.iso_lib_core.specs.Lists.{Comes}
use Rattle.iso_store_core.proofs.RetainLemmas.{takes_then, takes_on, takes_most}
use Rattle.iso_search.proofs.SolutionLists.{list_met, constants_size, constants_are}
use Rattle.iso_search.proofs.solutions.unify_constants.Goals as goal

pub returns-clause-unified : goal.returns-clause-unified
returns-clause-unified g c =
    let p = g.S.Store.present c.args.store.now in
    let q = g.S.Store.present c.make_all.new.store in
    let r = g.S.Store.present c.make_list.new.store in
    let v = g.S.Store.present c.unify.new.self in
    let xs = c.args.constants.now in
    let made = c.in_ok-words.ensures in
    let list : Comes q r c.in_ok-list.list (list_of (map (meaning q) c.in_ok-words.words.items)) = rw c.as_slice.ensures.value at c.in_ok-list.ensures.made in
    IfOk-weaker c.unify.result _ _
    (λ answer h. list_met p q r v c.args.word c.in_ok-list.list c.in_ok-words.words.items (map term_of xs) (constants_are term_of xs c.requires.constants) made.values made.words made.substitution made.numbers c.requires.word list
    c.in_ok-list.ensures.numbers answer h)
    c.unify.ensures.unified

pub returns-in_err-list-clause-cells : goal.returns-in_err-list-clause-cells
returns-in_err-list-clause-cells g c =
    let xs = c.args.constants.now in
    let most = constants_size (map term_of xs) (constants_are term_of xs c.requires.constants) in
    let long = ap length c.in_ok-words.ensures.values in
    let words = length-map c.in_ok-words.words.items (meaning (g.S.Store.present c.make_all.new.store)) in
    let slice = ap length c.as_slice.ensures.value in
    takes_most _ (omega (arith, most, long, words, slice)) (takes_on c.make_all.ensures.cells c.make_list.ensures.cells)

pub returns-clause-cells : goal.returns-clause-cells
returns-clause-cells g c =
    let xs = c.args.constants.now in
    let most = constants_size (map term_of xs) (constants_are term_of xs c.requires.constants) in
    let long = ap length c.in_ok-words.ensures.values in
    let words = length-map c.in_ok-words.words.items (meaning (g.S.Store.present c.make_all.new.store)) in
    let slice = ap length c.as_slice.ensures.value in
    takes_then (takes_most _ (omega (arith, most, long, words, slice)) (takes_on c.make_all.ensures.cells c.make_list.ensures.cells)) c.unify.ensures.cells
