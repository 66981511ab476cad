use Rattle.iso_model.specs.Session.Lines.{syntax_error_line}
use Rattle.iso_session_core.proofs.ConsultLemmas.{unreadable}
use Rattle.iso_session_core.proofs.consulting.consult_item.Goals as goal

pub returns-in-Readable-clause-does : goal.returns-in-Readable-clause-does
returns-in-Readable-clause-does g c = λ s stands k counts goals are next.
    rw c.in-Readable.is (c.consult_read.ensures.does s stands k counts goals are next)

pub returns-in-Unreadable-clause-does : goal.returns-in-Unreadable-clause-does
returns-in-Unreadable-clause-does g c = λ s stands k counts goals are next.
    record {
      goals = goals;
      are = are;
      does = rw c.in-Unreadable.is (unreadable _ _ _ _ _ _ c.args.number k s (next goals) c.put_line.result stands c.requires.ready counts
          (c.put_line.ensures.puts (syntax_error_line c.args.number) c.syntax_error_line-line.ensures));
    }
