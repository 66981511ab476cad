use Rattle.std.proofs.Common.{refl}
use Rattle.iso_model.specs.Search.Additions.{consulted}
use Rattle.iso_model.specs.Terms.TermOf.{term_of}
use Rattle.session_tests.proofs.Additions.{none_added}
use Rattle.session_tests.proofs.quitter.QuitterEngine.consult.Goals as goal

pub returns-clause-consults : goal.returns-clause-consults
returns-clause-consults c = λ s stands. none_added (consulted (term_of c.args._clause.now) s.world.database) s _ (refl, stands.1, stands.2)
