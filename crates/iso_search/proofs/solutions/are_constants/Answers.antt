use Rattle.std.proofs.Common.{◌≡◌, true, sym, ap, ◌∙◌, arith}
use Rattle.std.proofs.lemmas.List.{take_all}
use Rattle.std.proofs.lemmas.List.Elements.{All-more, All-same}
use Rattle.iso_model.specs.Terms.TermOf.{term_of}
use Rattle.iso_search.specs.Constants.{is_constant}
use Rattle.iso_search.proofs.solutions.are_constants.Goals as goal

pub loop-term-preserved : goal.loop-term-preserved
loop-term-preserved c =
    All-more (λ t. is_constant (term_of t) ≡ true) c.args.terms.now c.loop-term.term-index c.term-item.result c.loop-term-test.true c.loop-term.invariant (ap (λ t. is_constant (term_of t)) (sym c.term-item.is) ∙ sym c.is_constant.ensures ∙ c.if-not-is_constant.false)

pub returns : goal.returns
returns c = λ on.
    All-same (λ t. is_constant (term_of t) ≡ true) c.args.terms.now _ (sym (take_all c.loop-term.term-index c.args.terms.now (let over = c.loop-term-test.false in omega (arith, over)))) c.loop-term.invariant
