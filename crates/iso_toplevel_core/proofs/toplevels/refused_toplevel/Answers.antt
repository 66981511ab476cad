use Rattle.std.proofs.Common.{◌≡◌, Ok, rules, ap}
use Rattle.iso_model.specs.declared.limit.Limit.TheVariants as limit
use Rattle.iso_toplevel_core.specs.Dialogues.{toplevel_script}
use Rattle.iso_toplevel_core.proofs.EndLemmas.{refused, refused_broken, written_to}
use Rattle.iso_toplevel_core.proofs.toplevels.refused_toplevel.Goals as goal

pub returns-in_err-close : goal.returns-in_err-close
returns-in_err-close g c waits text input budget =
    let script = toplevel_script waits text input budget in
    written_to script (λ l rest. l ≡ limit.Memory) _ _ _ c.from_residual.result
    (refused_broken waits budget script _ _ _ c.from_residual.result c.new-console.ensures.place c.from_residual.ensures.1 c.in_err-close.ensures.err)
    (ap g.W.Write.contents (search rules))

pub returns : goal.returns
returns g c waits text input budget =
    let script = toplevel_script waits text input budget in
    written_to script (λ l rest. l ≡ limit.Memory) _ _ _ (Ok c.in_ok-close.field-0)
    (refused waits budget script _ _ _ c.in_ok-close.field-0 c.new-console.ensures.place c.in_ok-close.ensures.ended c.in_ok-close.ensures.ok)
    (ap g.W.Write.contents (search rules))
