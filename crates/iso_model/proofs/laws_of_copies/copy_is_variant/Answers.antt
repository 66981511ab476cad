use Rattle.iso_model.proofs.OnTerms.CopyLemmas.{copy_is_variant}
use Rattle.iso_model.proofs.laws_of_copies.copy_is_variant.Goals as goal

pub returns : goal.returns
returns c = copy_is_variant
