use Rattle.iso_toplevel_core.specs.Dialogues.{greeting}
use Rattle.std.proofs.Common.{refl}
use Rattle.iso_toplevel_core.proofs.EndLemmas.{greets_line, greets_broken}
use Rattle.iso_toplevel_core.proofs.toplevels.greet.Goals as goal

pub returns-in_err-put_fixed-clause-leads : goal.returns-in_err-put_fixed-clause-leads
returns-in_err-put_fixed-clause-leads g c = λ rest.
    greets_broken c.args.waits _ _ rest c.from_residual.result c.if-waits.true c.from_residual.ensures.1 (c.in_err-put_fixed.ensures.puts greeting refl)

pub returns-in_ok-put_fixed-clause-leads : goal.returns-in_ok-put_fixed-clause-leads
returns-in_ok-put_fixed-clause-leads g c = λ rest.
    greets_line c.args.waits _ _ rest c.in_ok-put_fixed.field-0 c.if-waits.true (rw c.in_ok-put_fixed.was at (c.put_fixed.ensures.puts greeting refl))
