use Rattle.std.proofs.Common.{◌≡◌, ◌∙◌, ◌++◌, [], ◌∷◌, List, true, ap, sym, subst}
use Rattle.std.specs.String.{string_bytes}
use Rattle.iso_model.specs.declared.terms.Term.{Term}
use Rattle.iso_model.specs.Terms.Trees.{Tree, Apply}
use Rattle.iso_model.specs.Terms.TermOf.{term_of, row_of}
use Rattle.iso_model.specs.Search.Groups.{is_solution}
use Rattle.iso_model.proofs.OnTerms.RowLemmas.{term_of_compound}
use Rattle.iso_search_core.proofs.PairTerms.{pair_parts}
use Rattle.iso_search_core.proofs.pairs.parts_of.Goals as goal

pub returns : goal.returns
returns c =
    let first = c.in-Some.ensures.items in
    let second = c.in-Some-pop.ensures.items in
    let split = sym (ap (λ v. v.items) c.in-Compound.arguments-is) ∙ first ∙ ap (λ (xs : List Term). xs ++ c.in-Some.item ∷ []) second in
    let whole = ap term_of c.in-Compound.is ∙ term_of_compound c.in-Compound.field-0 c.in-Compound.arguments
    ∙ ap (λ (xs : List Term). Apply (string_bytes c.in-Compound.field-0) (row_of xs)) split in
    let is = ap is_solution (sym whole) ∙ c.requires in
    pair_parts (string_bytes c.in-Compound.field-0) c.pop-2.new.self.items c.in-Some-pop.witness c.in-Some.item is ∙ sym whole
