use Rattle.std.proofs.Common.{codes, refl}
use Rattle.iso_model.specs.Terms.TermOf.{term_of}
use Rattle.iso_model.specs.Session.Lines.{error_line, halt_line}
use Rattle.iso_session_core.proofs.queries.end_query.Goals as goal

pub returns-in-NoMore-clause-ends : goal.returns-in-NoMore-clause-ends
returns-in-NoMore-clause-ends g c = rw c.in-NoMore.is (c.put_fixed.ensures.puts (codes "end: no more") refl)

pub returns-in-Budget-clause-ends : goal.returns-in-Budget-clause-ends
returns-in-Budget-clause-ends g c = rw c.in-Budget.is (c.put_fixed-in-Budget.ensures.puts (codes "end: budget") refl)

pub returns-in-Uncaught-clause-ends : goal.returns-in-Uncaught-clause-ends
returns-in-Uncaught-clause-ends g c = rw c.in-Uncaught.is (c.put_line.ensures.puts (error_line c.args.ops.now (term_of c.in-Uncaught.ball.term.value)) (rw c.deref.ensures at c.error_line-line.ensures))

pub returns-in-Halt-clause-ends : goal.returns-in-Halt-clause-ends
returns-in-Halt-clause-ends g c = rw c.in-Halt.is (c.put_line-in-Halt.ensures.puts (halt_line c.in-Halt.status) c.halt_line-line.ensures)
