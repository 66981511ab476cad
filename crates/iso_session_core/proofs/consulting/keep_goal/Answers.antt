use Rattle.iso_model.specs.Terms.TermOf.{term_of}
use Rattle.iso_session_core.proofs.DirectiveLemmas.{kept_more}
use Rattle.iso_session_core.proofs.consulting.keep_goal.Goals as goal

pub returns-clause-ok : goal.returns-clause-ok
returns-clause-ok c = λ goals are k counts.
    rw c.in_ok-push.ensures.items (kept_more c.args.kept.now.items goals _ k (term_of c.args.goal.now) are counts c.in_ok-goal.ensures c.requires.fits c.requires.numbered)
