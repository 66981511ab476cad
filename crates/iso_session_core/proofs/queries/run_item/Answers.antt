use Rattle.std.proofs.Common.{codes, refl}
use Rattle.iso_session_core.proofs.ProgressLemmas.{puts_on}
use Rattle.iso_session_core.proofs.queries.run_item.Goals as goal

pub returns-in-Readable-clause-does : goal.returns-in-Readable-clause-does
returns-in-Readable-clause-does g c = λ s stands next. rw c.in-Readable.is (c.run_query.ensures.does s stands next)

pub returns-in-Unreadable-clause-does : goal.returns-in-Unreadable-clause-does
returns-in-Unreadable-clause-does g c = λ s stands next.
    rw c.in-Unreadable.is (puts_on _ _ _ _ _ _ (codes "end: syntax error") s next c.put_fixed.result (c.put_fixed.ensures.puts (codes "end: syntax error") refl) stands c.requires.ready)
