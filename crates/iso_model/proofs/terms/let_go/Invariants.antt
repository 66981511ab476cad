-- The terms that are left get lighter.
use Rattle.iso_model.specs.Terms.TermOf.{row_of}
use Rattle.iso_model.specs.Terms.Sizes.{light_size}
use Rattle.iso_model.proofs.terms.let_go.Given as goal

abbrev pub decreases-loop-rest : goal.decreases-loop-rest
decreases-loop-rest l = light_size (row_of l.rest.items)
