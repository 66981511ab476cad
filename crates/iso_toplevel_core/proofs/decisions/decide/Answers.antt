use Rattle.std.proofs.Common.{◌∙◌}
use Rattle.iso_toplevel_core.proofs.LineLemmas.{says_next, says_stop, decided_memory, decided_unheard, says_nothing, nothing_broken}
use Rattle.iso_toplevel_core.proofs.decisions.decide.Goals as goal

pub returns-in_err-hear-clause-decides : goal.returns-in_err-hear-clause-decides
returns-in_err-hear-clause-decides g c = λ xs is on stop.
    decided_unheard _ _ on stop c.args.waits xs c.from_residual.result c.in_err-hear.field-0.0 c.from_residual.ensures.1 c.in_err-hear.ensures.broken

pub returns-then-asks_next-clause-decides : goal.returns-then-asks_next-clause-decides
returns-then-asks_next-clause-decides g c = λ xs is on stop.
    let heard = rw (c.in-Line.is, is, c.new-line.ensures.bytes) at c.in_ok-hear.ensures.heard in
    says_next _ _ on stop c.args.waits xs _ c.if-not-waits.false heard.0 (c.as_str.ensures.value ∙ heard.1) heard.2 (rw c.asks_next.ensures at c.if-asks_next.true)

pub returns-in-Line-clause-decides : goal.returns-in-Line-clause-decides
returns-in-Line-clause-decides g c = λ xs is on stop.
    let heard = rw (c.in-Line.is, is, c.new-line.ensures.bytes) at c.in_ok-hear.ensures.heard in
    says_stop _ _ on stop c.args.waits xs _ c.if-not-waits.false heard.0 (c.as_str.ensures.value ∙ heard.1) heard.2 (rw c.asks_next.ensures at c.if-asks_next.false)

pub returns-in_err-write_output-in-End-clause-decides : goal.returns-in_err-write_output-in-End-clause-decides
returns-in_err-write_output-in-End-clause-decides g c = λ xs is on stop.
    let heard = rw (c.in-End.is, is) at c.in_ok-hear.ensures.heard in
    nothing_broken _ _ on stop c.args.waits _ xs _ c.from_residual-in_err-write_output-in-End.ensures.1 c.if-not-waits.false heard.0 c.in_err-write_output-in-End.ensures.err

pub returns-in-End-clause-decides : goal.returns-in-End-clause-decides
returns-in-End-clause-decides g c = λ xs is on stop.
    let heard = rw (c.in-End.is, is) at c.in_ok-hear.ensures.heard in
    says_nothing _ _ on stop c.args.waits _ xs c.if-not-waits.false heard.0 heard.2 c.in_ok-write_output-in-End.ensures.ok c.in_ok-write_output-in-End.ensures.within

pub returns-clause-decides : goal.returns-clause-decides
returns-clause-decides g c = λ xs is on stop. decided_memory _ (g.R.Read.remaining c.args.input.now) on stop c.args.waits xs
