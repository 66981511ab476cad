use Rattle.iso_toplevel_core.proofs.LineLemmas.{newline_shown, leads_output, leads_broken}
use Rattle.iso_toplevel_core.proofs.questions.end_line.Goals as goal

pub returns-in_err-write_output-clause-leads : goal.returns-in_err-write_output-clause-leads
returns-in_err-write_output-clause-leads g c = λ rest.
    leads_broken _ rest _ _ _ rest c.from_residual.result (newline_shown c.args.waits rest c.if-waits.true) c.from_residual.ensures.1 c.in_err-write_output.ensures.err

pub returns-in_ok-write_output-clause-leads : goal.returns-in_ok-write_output-clause-leads
returns-in_ok-write_output-clause-leads g c = λ rest.
    leads_output _ _ _ _ rest (newline_shown c.args.waits rest c.if-waits.true) c.in_ok-write_output.ensures.ok c.in_ok-write_output.ensures.within
