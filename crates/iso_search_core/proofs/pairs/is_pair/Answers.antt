use Rattle.std.proofs.Common.{◌≡◌, ◌∙◌, ◌++◌, [], ◌∷◌, List, codes, length, ap, sym, subst, arith}
use Rattle.std.specs.Str.{bytes_eq}
use Rattle.std.specs.String.{string_bytes}
use Rattle.iso_model.specs.declared.terms.Term.{Term}
use Rattle.iso_model.specs.Terms.TermOf.{term_of, row_of}
use Rattle.iso_model.specs.Search.Groups.{is_solution}
use Rattle.iso_model.proofs.OnTerms.RowLemmas.{term_of_compound}
use Rattle.iso_search_core.proofs.PairTerms.{pair_two, pair_other}
use Rattle.iso_search_core.proofs.pairs.is_pair.Goals as goal

pub returns-in-len2 : goal.returns-in-len2
returns-in-len2 c =
    let least = c.in-len2.len_at_least in
    let below = c.in-len2.len_below in
    let same = ap length c.as_slice.ensures.value in
    let two : length c.in-Compound.arguments.items ≡ 2 = omega (arith, least, below, same) in
    c.eq.ensures ∙ ap (λ f. bytes_eq f (codes "-")) c.as_str.ensures.value
    ∙ sym (ap (λ t. is_solution (term_of t)) c.in-Compound.is
    ∙ ap is_solution (term_of_compound c.in-Compound.name c.in-Compound.arguments) ∙ pair_two (string_bytes c.in-Compound.name) c.in-Compound.arguments.items two)

pub returns-in_default-as_slice : goal.returns-in_default-as_slice
returns-in_default-as_slice c =
    let below = c.in_default-as_slice.len_below in
    let same = ap length c.as_slice.ensures.value in
    sym (ap (λ t. is_solution (term_of t)) c.in-Compound.is
    ∙ ap is_solution (term_of_compound c.in-Compound.name c.in-Compound.arguments)
    ∙ pair_other (string_bytes c.in-Compound.name) c.in-Compound.arguments.items (λ two. omega (arith, below, same, two)))

pub returns-in_default-as_slice-2 : goal.returns-in_default-as_slice-2
returns-in_default-as_slice-2 c =
    let least = c.in_default-as_slice.len_at_least in
    let same = ap length c.as_slice.ensures.value in
    sym (ap (λ t. is_solution (term_of t)) c.in-Compound.is
    ∙ ap is_solution (term_of_compound c.in-Compound.name c.in-Compound.arguments)
    ∙ pair_other (string_bytes c.in-Compound.name) c.in-Compound.arguments.items (λ two. omega (arith, least, same, two)))
