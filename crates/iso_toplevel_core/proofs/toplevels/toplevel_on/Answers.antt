use Rattle.std.proofs.Common.{Ok, rules, ap}
use Rattle.iso_model.specs.Search.Engines.{MayMeet}
use Rattle.iso_toplevel_core.specs.Dialogues.{toplevel_script}
use Rattle.iso_toplevel_core.specs.Progress.{ToplevelStops}
use Rattle.iso_toplevel_core.proofs.EndLemmas.{closes, closing_breaks, failed, written_to, does_kept}
use Rattle.iso_toplevel_core.proofs.toplevels.toplevel_on.Goals as goal

pub returns-in_err-flow : goal.returns-in_err-flow
returns-in_err-flow g c = λ xs is.
    let waits = c.args.manner.waits in
    let budget = c.args.manner.budget in
    let script = toplevel_script waits c.args.text.now xs budget in
    let stands = g.E.Engine.stands_for c.run_parts.new.engine in
    let now = g.E.Engine.phase c.run_parts.new.engine in
    let before = MayMeet (g.E.Engine.heap_pieces c.args.engine.now) (g.E.Engine.frames_pieces c.args.engine.now) in
    let after = MayMeet (g.E.Engine.heap_pieces c.run_parts.new.engine) (g.E.Engine.frames_pieces c.run_parts.new.engine) in
    written_to script (ToplevelStops waits budget stands before now script) _ _ _ c.from_residual.result
    (does_kept waits budget stands before after now script _ _ c.from_residual.result c.in_err-flow.ensures.limits
    (failed waits budget stands after now script _ _ _ c.in_err-flow.field-0.0 c.from_residual.result c.new-console.ensures.place c.from_residual.ensures.1 (c.in_err-flow.ensures.does xs is)))
    (ap g.W.Write.contents (search rules))

pub returns-in_err-close : goal.returns-in_err-close
returns-in_err-close g c = λ xs is.
    let waits = c.args.manner.waits in
    let budget = c.args.manner.budget in
    let script = toplevel_script waits c.args.text.now xs budget in
    let stands = g.E.Engine.stands_for c.run_parts.new.engine in
    let now = g.E.Engine.phase c.run_parts.new.engine in
    let before = MayMeet (g.E.Engine.heap_pieces c.args.engine.now) (g.E.Engine.frames_pieces c.args.engine.now) in
    let after = MayMeet (g.E.Engine.heap_pieces c.run_parts.new.engine) (g.E.Engine.frames_pieces c.run_parts.new.engine) in
    let does = rw c.in_ok-flow.was at (c.run_parts.ensures.does xs is) in
    written_to script (ToplevelStops waits budget stands before now script) _ _ _ c.from_residual-in_err-close.result
    (does_kept waits budget stands before after now script _ _ c.from_residual-in_err-close.result c.run_parts.ensures.limits
    (closing_breaks waits budget stands after now script _ _ _ _ xs _ c.in_ok-flow.flow c.from_residual-in_err-close.result c.new-console.ensures.place does c.from_residual-in_err-close.ensures.1 c.in_err-close.ensures.err))
    (ap g.W.Write.contents (search rules))

pub returns : goal.returns
returns g c = λ xs is.
    let waits = c.args.manner.waits in
    let budget = c.args.manner.budget in
    let script = toplevel_script waits c.args.text.now xs budget in
    let stands = g.E.Engine.stands_for c.run_parts.new.engine in
    let now = g.E.Engine.phase c.run_parts.new.engine in
    let before = MayMeet (g.E.Engine.heap_pieces c.args.engine.now) (g.E.Engine.frames_pieces c.args.engine.now) in
    let after = MayMeet (g.E.Engine.heap_pieces c.run_parts.new.engine) (g.E.Engine.frames_pieces c.run_parts.new.engine) in
    let does = rw c.in_ok-flow.was at (c.run_parts.ensures.does xs is) in
    written_to script (ToplevelStops waits budget stands before now script) _ _ _ (Ok c.in_ok-close.field-0)
    (does_kept waits budget stands before after now script _ _ (Ok c.in_ok-close.field-0) c.run_parts.ensures.limits
    (closes waits budget stands after now script _ _ _ _ xs _ c.in_ok-flow.flow c.in_ok-close.field-0 c.new-console.ensures.place does c.in_ok-close.ensures.ended c.in_ok-close.ensures.ok))
    (ap g.W.Write.contents (search rules))
