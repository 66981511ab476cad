use Rattle.std.proofs.Common.{◌∙◌, ℕ, ap, subst}
use Rattle.std.proofs.lemmas.Result.{IfOk-weaker}
use Rattle.iso_model.specs.Search.Runs.{ComesAbove}
use Rattle.iso_model.specs.Search.RunLaws.Spans.{ComesBeyond}
use Rattle.iso_session.proofs.PieceLemmas.{made_limits}
use Rattle.iso_session.proofs.machine_sessions.machine_engine.Goals as goal

pub returns-clause-limits : goal.returns-clause-limits
returns-clause-limits c =
    let limits = c.args.limits.now in
    made_limits (ComesAbove limits.cells) (ComesBeyond limits.frames) _ _ c.new-2.result
    (IfOk-weaker c.new-2.result _ _
    (λ e is s above. subst (λ (n : ℕ). ComesAbove n s)
    (ap (λ p. p.limit) is ∙ ap (λ p. p.limit) c.in_ok-store.ensures.empty) (above c.in_ok-store.ensures.counted))
    c.new-2.ensures.store)
    (IfOk-weaker c.new-2.result _ _ (λ e is s beyond. subst (λ (n : ℕ). ComesBeyond n s) is beyond)
    c.new-2.ensures.limit)
