use Rattle.std.proofs.Common.{◌∙◌, refl, [], string_bytes}
use Rattle.iso_toplevel_core.proofs.LineLemmas.{ask_begins, ask_prompted, ask_unprompted, ask_memory, ask_unheard, ask_whole, ask_goes, ask_finishes, hearing}
use Rattle.iso_toplevel_core.proofs.questions.ask.Goals as goal

pub loop-init : goal.loop-init
loop-init g c = record {
  place = λ xs is turns enough behind. rw c.new-text.ensures.bytes (ask_begins c.args.waits xs _ _ turns behind is enough);
  writer = refl;
}

pub returns-in_err-show_prompt-clause-asks : goal.returns-in_err-show_prompt-clause-asks
returns-in_err-show_prompt-clause-asks g c = λ xs is turns enough behind.
    let p = c.loop.invariant.place xs is turns enough behind in
    ask_unprompted _ _ _ _ _ _ _ _ behind p _ c.in_err-show_prompt.field-0.0 c.from_residual.result c.from_residual.ensures.1
    (rw c.as_str.ensures.value at (c.in_err-show_prompt.ensures.leads (hearing c.args.waits (string_bytes c.loop.text) p.left p.turns behind)))

pub returns-in_err-hear-clause-asks : goal.returns-in_err-hear-clause-asks
returns-in_err-hear-clause-asks g c = λ xs is turns enough behind.
    let p = c.loop.invariant.place xs is turns enough behind in
    let shown = rw c.as_str.ensures.value at (c.in_ok-show_prompt.ensures.leads (hearing c.args.waits (string_bytes c.loop.text) p.left p.turns behind)) in
    ask_unheard _ _ _ _ _ _ _ _ behind p _ c.in_err-hear.field-0.0 c.from_residual-in_err-hear.result shown c.from_residual-in_err-hear.ensures.1 c.in_err-hear.ensures.broken

pub returns-then-is_whole-clause-asks : goal.returns-then-is_whole-clause-asks
returns-then-is_whole-clause-asks g c = λ xs is turns enough behind.
    let p = c.loop.invariant.place xs is turns enough behind in
    let shown = rw c.as_str.ensures.value at (c.in_ok-show_prompt.ensures.leads (hearing c.args.waits (string_bytes c.loop.text) p.left p.turns behind)) in
    let heard = rw (c.in-Line.is, p.known_left) at c.in_ok-hear.ensures.heard in
    ask_whole _ _ _ _ _ _ _ _ _ _ behind p (ask_prompted _ _ _ _ _ _ _ _ behind p shown) heard.0 heard.1 heard.2 (rw (c.is_whole.ensures, c.as_str-in-Line.ensures.value) at c.if-is_whole.true)

pub returns-in-End-clause-asks : goal.returns-in-End-clause-asks
returns-in-End-clause-asks g c = λ xs is turns enough behind.
    let p = c.loop.invariant.place xs is turns enough behind in
    let shown = rw c.as_str.ensures.value at (c.in_ok-show_prompt.ensures.leads (hearing c.args.waits (string_bytes c.loop.text) p.left p.turns behind)) in
    let heard = rw (c.in-End.is, p.known_left) at c.in_ok-hear.ensures.heard in
    ask_finishes _ _ [] _ _ _ _ _ _ _ behind p _ (ask_prompted _ _ _ _ _ _ _ _ behind p shown) heard.0 heard.2 _ (rw heard.1 at (c.finish.ensures.finishes behind))

pub returns-in-NoMemory-clause-asks : goal.returns-in-NoMemory-clause-asks
returns-in-NoMemory-clause-asks g c = λ xs is turns enough behind.
    let p = c.loop.invariant.place xs is turns enough behind in
    let shown = rw c.as_str.ensures.value at (c.in_ok-show_prompt.ensures.leads (hearing c.args.waits (string_bytes c.loop.text) p.left p.turns behind)) in
    ask_memory _ _ _ _ _ _ _ _ behind p shown

pub loop-preserved : goal.loop-preserved
loop-preserved g c = record {
  place = λ xs is turns enough behind.
      let p = c.loop.invariant.place xs is turns enough behind in
      let shown = rw c.as_str.ensures.value at (c.in_ok-show_prompt.ensures.leads (hearing c.args.waits (string_bytes c.loop.text) p.left p.turns behind)) in
      let heard = rw (c.in-Line.is, p.known_left) at c.in_ok-hear.ensures.heard in
      ask_goes _ _ _ _ _ _ _ _ _ _ behind p (ask_prompted _ _ _ _ _ _ _ _ behind p shown) heard.0 heard.1 heard.2 (rw (c.is_whole.ensures, c.as_str-in-Line.ensures.value) at c.if-is_whole.false);
  writer = c.show_prompt.ensures.writer ∙ c.loop.invariant.writer;
}
