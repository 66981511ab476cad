use Rattle.std.proofs.Common.{◌≡◌, true, not, codes, is_some, map, refl, sym, ap, ap₂, ◌∙◌, arith}
use Rattle.iso_atoms.specs.Texts.{text_at}
use Rattle.iso_model.specs.Terms.Trees.{Apply, arities_fit, row}
use Rattle.iso_model.specs.Terms.TermOf.{term_of}
use Rattle.iso_model.specs.Search.Bodies.{two}
use Rattle.iso_model.specs.Search.Errors.{key}
use Rattle.iso_store_core.specs.Presents.{meaning}
use Rattle.iso_store_core.proofs.AtomLemmas.{text-is}
use Rattle.iso_prep.specs.Connectives.{connective_of}
use Rattle.iso_search_core.specs.Constructs.{compound_of}
use Rattle.iso_search_core.proofs.CallableWords.{compound_callable, two_words, words_callable}
use Rattle.iso_search_core.proofs.GoalLemmas.{row_length}
use Rattle.iso_search_core.proofs.ReplyLemmas.{type_refused}
use Rattle.iso_search_core.proofs.goals.compound_error.Goals as goal

pub returns-then-words-ne2 : goal.returns-then-words-ne2
returns-then-words-ne2 g c =
    let m = meaning (g.S.Store.present c.args.store.now) in
    let f = text_at (g.S.Store.names c.args.store.now) c.args.name in
    let many = row_length m c.args.words.now in
    (tt, compound_callable f (row (map m c.args.words.now)) (λ both. absurd (omega (arith, many, both, c.if-words-ne2.true))))

pub returns-then-branch : goal.returns-then-branch
returns-then-branch g c =
    let names = g.S.Store.names c.args.store.now in
    let m = meaning (g.S.Store.present c.args.store.now) in
    let f = text_at names c.args.name in
    let named : is_some (connective_of f) ≡ true = ap is_some (sym (c.connective.ensures names c.requires.controls c.requires.names c.requires.name)) ∙ (c.is_none.ensures ∙ ap not c.if-is_none.false) in
    (tt, words_callable m c.args.words.now c.index-words-0.result c.index-words-1.result c.if-words-ne2.false c.index-words-0.is c.index-words-1.is f named ∙ (sym c.in_ok-both_can_be_called.ensures ∙ c.if-branch.true))

pub returns : goal.returns
returns g c =
    let names = g.S.Store.names c.args.store.now in
    let p = g.S.Store.present c.args.store.now in
    let m = meaning p in
    let f = text_at names c.args.name in
    let first = c.index-words-0 in
    let second = c.index-words-1 in
    let named : is_some (connective_of f) ≡ true = ap is_some (sym (c.connective.ensures names c.requires.controls c.requires.names c.requires.name)) ∙ (c.is_none.ensures ∙ ap not c.if-is_none.false) in
    let none = words_callable m c.args.words.now first.result second.result c.if-words-ne2.false first.is second.is f named ∙ (sym c.in_ok-both_can_be_called.ensures ∙ c.if-branch.false) in
    let parts : two f (m first.result) (m second.result) ≡ compound_of p names c.args.name c.args.words.now = ap (Apply f) (sym (two_words m c.args.words.now first.result second.result c.if-words-ne2.false first.is second.is)) in
    let name = text-is names c.args.name c.text.result.now c.text.ensures in
    let culprit = c.in_ok-culprit.ensures in
    let is : term_of c.in_ok-culprit.culprit ≡ compound_of p names c.args.name c.args.words.now
    = culprit ∙ ap (λ n. two n (term_of c.in_ok-first.first) (term_of c.in_ok-second.second)) (sym name) ∙ ap₂ (two f) c.in_ok-first.ensures.value c.in_ok-second.ensures.value ∙ parts in
    let fits : arities_fit (term_of c.in_ok-culprit.culprit) ≡ true = ap arities_fit culprit ∙ rw (c.in_ok-first.ensures.well_formed, c.in_ok-second.ensures.well_formed) refl in
    type_refused (compound_of p names c.args.name c.args.words.now) (key (codes "call") c.args.arity) c.in_ok-not_callable.field-0 (term_of c.in_ok-culprit.culprit) tt none is fits c.in_ok-not_callable.ensures
