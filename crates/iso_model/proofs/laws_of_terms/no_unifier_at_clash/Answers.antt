use Rattle.iso_model.proofs.OnTerms.SortLemmas.{clash_never}
use Rattle.iso_model.proofs.laws_of_terms.no_unifier_at_clash.Goals as goal

pub returns : goal.returns
returns c = clash_never
