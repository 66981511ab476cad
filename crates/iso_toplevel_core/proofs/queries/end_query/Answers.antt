use Rattle.std.proofs.Common.{◌++◌, codes}
use Rattle.std.specs.Fmt.{decimal}
use Rattle.iso_model.specs.Terms.TermOf.{term_of}
use Rattle.iso_model.specs.Session.Lines.{text_of}
use Rattle.iso_toplevel_core.specs.Dialogues.{no_more}
use Rattle.iso_toplevel_core.proofs.queries.end_query.Goals as goal

pub returns-in-NoMore-clause-ends : goal.returns-in-NoMore-clause-ends
returns-in-NoMore-clause-ends g c = rw c.in-NoMore.is (c.put.ensures.puts c.args.screen.within (no_more c.args.answered) 10 c.no_more-piece.ensures)

pub returns-in-Budget-clause-ends : goal.returns-in-Budget-clause-ends
returns-in-Budget-clause-ends g c = rw c.in-Budget.is (c.put-in-Budget.ensures.puts c.args.screen.within (codes "budget") 10 c.text-piece.ensures)

pub returns-in-Uncaught-clause-ends : goal.returns-in-Uncaught-clause-ends
returns-in-Uncaught-clause-ends g c =
    rw c.in-Uncaught.is (c.put-in-Uncaught.ensures.puts c.args.screen.within (codes "error " ++ text_of c.args.ops.now (term_of c.in-Uncaught.ball.term.value)) 10 (rw c.deref.ensures at c.error-piece.ensures))

pub returns-in-Halt-clause-ends : goal.returns-in-Halt-clause-ends
returns-in-Halt-clause-ends g c = rw c.in-Halt.is (c.put-in-Halt.ensures.puts c.args.screen.within (codes "halt " ++ decimal c.in-Halt.status) 10 c.halt-piece.ensures)
