use Rattle.iso_model.specs.Search.Runs.{ComesAbove}
use Rattle.iso_model.specs.Search.RunLaws.Spans.{ComesBeyond}
use Rattle.iso_toplevel_core.specs.Dialogues.{toplevel_script}
use Rattle.iso_toplevel_core.proofs.EndLemmas.{does_refused, does_walk}
use Rattle.iso_toplevel.proofs.toplevels.machine_toplevel.Goals as goal

pub returns : goal.returns
returns g c = λ xs is.
    let limits = c.args.limits.now in
    let script = toplevel_script c.args.waits c.args.text.now xs limits.budget in
    does_walk c.args.waits limits.budget (ComesAbove limits.cells) (ComesBeyond limits.frames) _ _ _ script _ _
    c.toplevel_on.result c.in-Ok.ensures.limits (c.toplevel_on.ensures xs is)

pub returns-in_default : goal.returns-in_default
returns-in_default g c = λ xs is.
    let limits = c.args.limits.now in
    does_refused c.args.waits limits.budget (ComesAbove limits.cells) (ComesBeyond limits.frames)
    (toplevel_script c.args.waits c.args.text.now xs limits.budget) _ _
    c.refused_toplevel.result (c.refused_toplevel.ensures c.args.waits c.args.text.now xs limits.budget)
