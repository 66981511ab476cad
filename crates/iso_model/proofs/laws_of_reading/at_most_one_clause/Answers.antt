use Rattle.std.proofs.Common.{◌≡◌, sym, ◌∙◌, Some}
use Rattle.iso_model.proofs.Syntax.ClauseLaws.{clause_complete}
use Rattle.iso_model.proofs.laws_of_reading.at_most_one_clause.Goals as goal

pub returns : goal.returns
returns c = λ table flags good ts a b first second.
    let both : Some a ≡ Some b = sym (clause_complete table flags good ts a first) ∙ clause_complete table flags good ts b second in cc
