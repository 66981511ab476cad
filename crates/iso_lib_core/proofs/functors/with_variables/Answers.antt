use Rattle.std.proofs.Common.{◌≡◌, ◌∷◌, [], ◌++◌, ◌+◌, ◌-◌, map, sym, ap, ap₂, ◌∙◌, arith}
use Rattle.std.proofs.lemmas.List.{map-append}
use Rattle.iso_model.specs.Terms.Trees.{Apply, Variable, row}
use Rattle.iso_model.specs.Terms.TermOf.{term_of}
use Rattle.iso_model.specs.Terms.Arguments.{joined, variables_from}
use Rattle.iso_model.proofs.OnTerms.LeafLemmas.{term_of_variable}
use Rattle.iso_model.proofs.OnTerms.RowLemmas.{term_of_compound}
use Rattle.iso_lib_core.proofs.PartLemmas.{joined_end, joined_pushed, variables_next}
use Rattle.iso_lib_core.proofs.functors.with_variables.Goals as goal

pub loop-number-preserved : goal.loop-number-preserved
loop-number-preserved c =
    let i = c.loop-number.number in
    let so_far = map term_of c.loop-number.arguments.items in
    let left = variables_from (i + 1) (c.args.count - (i + 1)) in
    let pushed = ap (map term_of) c.in_ok-push.ensures.items ∙ map-append term_of c.loop-number.arguments.items _ ∙ ap (λ t. so_far ++ t ∷ []) (term_of_variable i) in
    ap (λ ts. joined (row ts) left) pushed ∙ joined_pushed so_far (Variable i) left ∙ ap (joined (row so_far)) (sym (variables_next i c.args.count c.loop-number-test.true)) ∙ c.loop-number.invariant

pub returns : goal.returns
returns c =
    let i = c.loop-number.number in
    let n = c.args.count in
    let within = c.loop-number.auto.number-end in
    let over = c.loop-number-test.false in
    let none : n - i ≡ 0 = omega (arith, within, over) in
    let so_far = map term_of c.loop-number.arguments.items in
    term_of_compound c.in_ok-from_str.field-0 c.loop-number.arguments
    ∙ ap₂ Apply c.in_ok-from_str.ensures.ok (sym (joined_end so_far) ∙ ap (λ k. joined (row so_far) (variables_from i k)) (sym none) ∙ c.loop-number.invariant)
