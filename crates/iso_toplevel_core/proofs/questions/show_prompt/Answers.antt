use Rattle.iso_toplevel_core.proofs.LineLemmas.{prompt_shown, leads_output, leads_broken}
use Rattle.iso_toplevel_core.proofs.questions.show_prompt.Goals as goal

pub returns-in_err-write_output-clause-leads : goal.returns-in_err-write_output-clause-leads
returns-in_err-write_output-clause-leads g c = λ rest.
    leads_broken _ rest _ _ _ rest c.from_residual.result (prompt_shown c.args.waits c.args.text.now rest c.if-waits.true) c.from_residual.ensures.1 (rw c.prompt.ensures at c.in_err-write_output.ensures.err)

pub returns-in_ok-write_output-clause-leads : goal.returns-in_ok-write_output-clause-leads
returns-in_ok-write_output-clause-leads g c = λ rest.
    leads_output _ _ _ _ rest (prompt_shown c.args.waits c.args.text.now rest c.if-waits.true)
    (rw c.prompt.ensures at c.in_ok-write_output.ensures.ok) (rw c.prompt.ensures at c.in_ok-write_output.ensures.within)
