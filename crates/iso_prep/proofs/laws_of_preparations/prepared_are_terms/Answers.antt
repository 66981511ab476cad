use Rattle.iso_prep.proofs.PreparedTerms.{prepared_are_terms}
use Rattle.iso_prep.proofs.laws_of_preparations.prepared_are_terms.Goals as goal

pub returns : goal.returns
returns c = prepared_are_terms
