use Rattle.std.proofs.Common.{codes, false}
use Rattle.iso_toplevel_core.specs.Dialogues.{end_shown}
use Rattle.iso_toplevel_core.proofs.PartLemmas.{puts_on}
use Rattle.iso_toplevel_core.proofs.QueryLemmas.{still_at}
use Rattle.iso_toplevel_core.proofs.queries.run_item.Goals as goal

pub returns-in-Readable-clause-does : goal.returns-in-Readable-clause-does
returns-in-Readable-clause-does g c = λ s stands xs is next. rw c.in-Readable.is (c.run_query.ensures.does s stands xs is next)

pub returns-in-Unreadable-clause-does : goal.returns-in-Unreadable-clause-does
returns-in-Unreadable-clause-does g c = λ s stands xs is next.
    rw c.in-Unreadable.is (puts_on _ _ _ _ _ _ _ xs _ (end_shown c.args.manner.waits false (codes "syntax error")) s next c.put.result (c.put.ensures.puts false (codes "syntax error") 10 c.text-piece.ensures) stands c.requires.ready is)

pub returns-in-Unreadable-clause-still : goal.returns-in-Unreadable-clause-still
returns-in-Unreadable-clause-still g c = still_at _ _ c.requires.stands.0 c.put.result c.requires.stands.1 c.requires.ready
