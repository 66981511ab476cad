use Rattle.iso_model.specs.Terms.TermOf.{term_of}
use Rattle.iso_model.specs.Session.Lines.{directive_failed_line, directive_stopped_line, directive_refused_line, halt_line}
use Rattle.iso_session_core.proofs.directives.end_directive.Goals as goal

pub returns-in-NoMore-clause-ends : goal.returns-in-NoMore-clause-ends
returns-in-NoMore-clause-ends g c = rw c.in-NoMore.is (c.put_line.ensures.puts (directive_failed_line c.args.number) c.directive_failed_line-line.ensures)

pub returns-in-Budget-clause-ends : goal.returns-in-Budget-clause-ends
returns-in-Budget-clause-ends g c = rw c.in-Budget.is (c.put_line-in-Budget.ensures.puts (directive_stopped_line c.args.number) c.directive_stopped_line-line.ensures)

pub returns-in-Uncaught-clause-ends : goal.returns-in-Uncaught-clause-ends
returns-in-Uncaught-clause-ends g c = rw c.in-Uncaught.is (c.put_line-in-Uncaught.ensures.puts (directive_refused_line c.args.ops.now c.args.number (term_of c.in-Uncaught.ball.term.value)) (rw c.deref.ensures at c.directive_refused_line-line.ensures))

pub returns-in-Halt-clause-ends : goal.returns-in-Halt-clause-ends
returns-in-Halt-clause-ends g c = rw c.in-Halt.is (c.put_line-in-Halt.ensures.puts (halt_line c.in-Halt.status) c.halt_line-line.ensures)
