use Rattle.iso_toplevel_core.proofs.LineLemmas.{finish_broken}
use Rattle.iso_toplevel_core.proofs.questions.finish.Goals as goal

pub returns-in_err-end_line-clause-finishes : goal.returns-in_err-end_line-clause-finishes
returns-in_err-end_line-clause-finishes g c = λ behind.
    finish_broken _ _ c.args.waits _ behind c.in_err-end_line.field-0.0 c.from_residual.result c.from_residual.ensures.1 c.in_err-end_line.ensures.leads
