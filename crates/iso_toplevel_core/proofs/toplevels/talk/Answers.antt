use Rattle.std.proofs.Common.{◌≡◌, ◌<◌, List, ℕ, suc, length, Some, ◌∙◌, refl, string_bytes}
use Rattle.iso_session_core.proofs.ProgressLemmas.{keeps_limits-both}
use Rattle.iso_model.specs.Search.Engines.{MayMeet}
use Rattle.iso_model.specs.Search.Walker.{State}
use Rattle.iso_model.specs.Session.Sessions.{Closes, Done}
use Rattle.iso_session_core.specs.Consoles.{place}
use Rattle.iso_toplevel_core.specs.Dialogues.{text_shown, dialogue}
use Rattle.iso_toplevel_core.proofs.PartLemmas.{stops_after, failed_after}
use Rattle.iso_toplevel_core.proofs.TalkLemmas.{talk_on, talk_begins, talk_fails, talk_memory, talk_ends, talk_asked, talk_goes, one_more}
use Rattle.iso_toplevel_core.proofs.toplevels.talk.Goals as goal

pub loop-init : goal.loop-init
loop-init g c = record {
  ready = c.requires.ready;
  stands = c.requires.stands;
  limits = λ l s m. m;
  place = λ s stands xs is turns enough. talk_begins (g.E.Engine.stands_for c.args.engine.now) c.args.manner.waits c.args.manner.budget s xs _ (place g.W.Write.contents c.args.console.now) turns stands is enough;
  writer = refl;
}

pub returns-in_err-text-clause-does : goal.returns-in_err-text-clause-does
returns-in_err-text-clause-does g c = λ s stands xs is turns enough.
    let p = c.loop.invariant.place s stands xs is turns enough in
    let asks = rw c.in_err-text.was at (c.ask.ensures.asks p.left p.known_left (suc (length p.left)) (one_more p.left) (talk_on c.args.manner.waits c.args.manner.budget p.turns p.at.world)) in
    talk_fails _ _ _ xs _ _ _ _ _ _ p _ _ _ c.in_err-text.field-0.0 c.from_residual.result c.from_residual.ensures.1 asks

pub returns-in_err-flow-in-Text-clause-does : goal.returns-in_err-flow-in-Text-clause-does
returns-in_err-flow-in-Text-clause-does g c = λ s stands xs is turns enough.
    let p = c.loop.invariant.place s stands xs is turns enough in
    let asked = rw (c.in_ok-text.was, c.in-Text.is) at (c.ask.ensures.asks p.left p.known_left (suc (length p.left)) (one_more p.left) (talk_on c.args.manner.waits c.args.manner.budget p.turns p.at.world)) in
    let does = rw (c.in_err-flow-in-Text.was, c.as_str.ensures.value) at (c.run_queries.ensures.does p.at p.stands asked.left asked.known_left (λ v l. dialogue c.args.manner.waits c.args.manner.budget p.turns v l)) in
    failed_after _ _ _ _ _ _ _ _ xs _ _ _ _ c.in_err-flow-in-Text.field-0.0 c.from_residual-in_err-flow-in-Text.result (talk_asked _ _ _ xs _ _ _ _ _ _ p (string_bytes c.in-Text.text) asked) c.from_residual-in_err-flow-in-Text.ensures.1 does

pub returns-in_default-clause-does : goal.returns-in_default-clause-does
returns-in_default-clause-does g c = λ s stands xs is turns enough.
    let p = c.loop.invariant.place s stands xs is turns enough in
    let was_asked = rw (c.in_ok-text.was, c.in-Text.is) at (c.ask.ensures.asks p.left p.known_left (suc (length p.left)) (one_more p.left) (talk_on c.args.manner.waits c.args.manner.budget p.turns p.at.world)) in
    let asked = rw (← c.as_str.ensures.value) at was_asked in
    let does = rw c.in_ok-flow-in-Text.was at (c.run_queries.ensures.does p.at p.stands asked.left asked.known_left (λ v l. dialogue c.args.manner.waits c.args.manner.budget p.turns v l)) in
    stops_after c.args.manner.waits c.args.manner.budget (g.E.Engine.stands_for c.run_queries.new.engine) (MayMeet (g.E.Engine.heap_pieces c.run_queries.new.engine) (g.E.Engine.frames_pieces c.run_queries.new.engine)) (g.E.Engine.phase c.run_queries.new.engine)
    (place g.W.Write.contents c.args.console.now) (place g.W.Write.contents c.ask.new.console) (place g.W.Write.contents c.run_queries.new.console) xs asked.left (g.R.Read.remaining c.run_queries.new.input) (g.R.Read.remaining c.run_queries.new.input)
    _ (text_shown c.args.manner.waits c.args.manner.budget c.as_str.result.now p.at.world asked.left (λ v l. dialogue c.args.manner.waits c.args.manner.budget p.turns v l)) (λ v l. dialogue c.args.manner.waits c.args.manner.budget p.turns v l) (λ _ _. Closes Done)
    c.in_ok-flow-in-Text.flow (talk_asked _ _ _ xs _ _ _ _ _ _ p c.as_str.result.now asked) c.in_default.not-On does

pub returns-in-End-clause-does : goal.returns-in-End-clause-does
returns-in-End-clause-does g c = λ s stands xs is turns enough.
    let p = c.loop.invariant.place s stands xs is turns enough in
    let ends = rw (c.in_ok-text.was, c.in-End.is) at (c.ask.ensures.asks p.left p.known_left (suc (length p.left)) (one_more p.left) (talk_on c.args.manner.waits c.args.manner.budget p.turns p.at.world)) in
    talk_ends _ _ _ xs _ _ _ _ _ _ p _ ends c.loop.invariant.ready

pub returns-in-NoMemory-clause-does : goal.returns-in-NoMemory-clause-does
returns-in-NoMemory-clause-does g c = λ s stands xs is turns enough.
    let p = c.loop.invariant.place s stands xs is turns enough in
    let unheard = rw (c.in_ok-text.was, c.in-NoMemory.is) at (c.ask.ensures.asks p.left p.known_left (suc (length p.left)) (one_more p.left) (talk_on c.args.manner.waits c.args.manner.budget p.turns p.at.world)) in
    talk_memory _ _ _ xs _ (g.R.Read.remaining c.ask.new.input) _ _ _ _ p _ _ unheard c.loop.invariant.ready

pub loop-preserved : goal.loop-preserved
loop-preserved g c =
    let goes = λ (s : State) (stands : g.E.Engine.stands_for c.args.engine.now s) (xs : List ℕ) (is : g.R.Read.remaining c.args.input.now ≡ Some xs) (turns : ℕ) (enough : length xs < turns).
    let p = c.loop.invariant.place s stands xs is turns enough in
    let asked = rw (c.in_ok-text.was, c.in-Text.is) at (c.ask.ensures.asks p.left p.known_left (suc (length p.left)) (one_more p.left) (talk_on c.args.manner.waits c.args.manner.budget p.turns p.at.world)) in
    let does = rw (c.in_ok-flow-in-Text.was, c.in-On.is, c.as_str.ensures.value) at (c.run_queries.ensures.does p.at p.stands asked.left asked.known_left (λ v l. dialogue c.args.manner.waits c.args.manner.budget p.turns v l)) in
    talk_goes _ _ _ xs _ _ _ _ _ _ p (string_bytes c.in-Text.text) _ _ _ _ asked does in
    let still = rw (c.in_ok-flow-in-Text.was, c.in-On.is) at c.run_queries.ensures.still in
    record {
      ready = still.ready;
      stands = (still.at, still.stands);
      limits = keeps_limits-both _ _ _ c.loop.invariant.limits c.run_queries.ensures.limits;
      place = goes;
      writer = c.run_queries.ensures.writer ∙ c.ask.ensures.writer ∙ c.loop.invariant.writer;
    }
