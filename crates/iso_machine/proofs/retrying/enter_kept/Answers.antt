use Rattle.std.proofs.Common.{◌∙◌, ℕ, Ok, Err, refl, ap, arith}
use Rattle.iso_model.specs.Search.Walker.{with_others}
use Rattle.iso_search_core.specs.Bodies.{body_cost, most}
use Rattle.iso_search.specs.EngineStates.{went_back}
use Rattle.iso_search.proofs.LimitLemmas.{stays_on}
use Rattle.iso_search.proofs.Moves.Retry.{tries_on, stops_on}
use Rattle.iso_search.proofs.WeightLemmas.{falls_less}
use Rattle.iso_machine.specs.Engines.{Engine, framed}
use Rattle.iso_machine.specs.LastCalls.{with_frame}
use Rattle.iso_machine.specs.Unpushed.{with_choices}
use Rattle.iso_machine.proofs.Moves.Unpushed.{stays_over}
use Rattle.iso_machine.proofs.CameLemmas.{came_error, last_error}
use Rattle.iso_machine.proofs.FrameLemmas.{stacked_same}
use Rattle.iso_machine.proofs.Moves.Kept.{calls_again, kept_behind, kept_costs}
use Rattle.iso_machine.proofs.Moves.Last.{stays_framed}
use Rattle.iso_machine.proofs.retrying.enter_kept.Goals as goal

pub enter_clause-requires : goal.enter_clause-requires
enter_clause-requires g c =
    let mid = with_choices c.args.search.now c.requires.back.0 in
    let r = c.requires.back.4 in
    let again = c.requires.back.5.again c.requires.back.3 r in
    let t = again.retries in
    let a = again.alternative in (
      c.requires.back.0,
      (
        with_others t.call t.others a.list (went_back a again.below r.own),
        t.call,
        t.clause,
        t.others,
        a.list,
        c.requires.back.1,
        calls_again g.S.Store g.S.Cells.atom_word mid c.args.search.now.lists refl refl (stacked_same refl) c.args.clause
            c.requires.back.1 c.args.behind (with_others t.call t.others a.list (went_back a again.below r.own)) t.call
            t.clause t.others a.list c.args.call t.calls c.requires.arguments,
      ),
    )

pub returns-in-Went-clause-came : goal.returns-in-Went-clause-came
returns-in-Went-clause-came g c = λ choices later old s0 r0 b asked. record {
  next = λ s r.
      let l = framed g.S.Cells.atom_word in
      let mid = with_choices c.args.search.now choices in
      let rest = c.args.behind in
      let again = b.again s r in
      let t = again.retries in
      let a = again.alternative in
      let on = c.in_ok-enter_clause.ensures in
      let there = with_others t.call t.others a.list (went_back a again.below r.own) in
      let calls = calls_again g.S.Store g.S.Cells.atom_word mid c.args.search.now.lists refl refl (stacked_same refl)
      c.args.clause later rest there t.call t.clause t.others a.list c.args.call t.calls
      c.requires.arguments in
      tries_on g.S.Store l old (with_choices c.enter_clause.new.search choices)
      (record { clause = c.args.clause; later = later; call = c.args.call }) rest s r a again.below mid c.args.below
      b.failing again.stack t again.height
      ((on.over choices).tried there t.call t.clause t.others a.list later calls (ap Ok c.in-Went.is))
      (on.awake (ap Ok c.in-Went.is));
  stopped = λ s r. tt;
  falls =
      let l = framed g.S.Cells.atom_word in
      let mid = with_choices c.args.search.now choices in
      let rest = c.args.behind in
      let again = b.again s0 r0 in
      let t = again.retries in
      let a = again.alternative in
      let lists = c.args.search.now.lists in
      let on = c.in_ok-enter_clause.ensures in
      let there = with_others t.call t.others a.list (went_back a again.below r0.own) in
      let calls = calls_again g.S.Store g.S.Cells.atom_word mid lists refl refl (stacked_same refl) c.args.clause later
      rest there t.call t.clause t.others a.list c.args.call t.calls c.requires.arguments in
      let entered = (on.over choices).costs there t.call t.clause t.others a.list later calls (ap Ok c.in-Went.is) in
      let kept = kept_costs g.S.Store g.S.Cells.atom_word mid lists refl refl (stacked_same refl) in
      let behind = ap (λ (n : ℕ). body_cost most n)
      (kept_behind g.S.Store g.S.Cells.atom_word mid lists refl refl (stacked_same refl) rest) in
      let less = b.less in
      let steps = ap (λ (x : Engine g.row.S.Denot g.row.S-Word.Denot g.row.S-Mark.Denot). x.steps) on.same in
      falls_less l old (with_choices c.enter_clause.new.search choices) (steps ∙ b.steps)
      (omega (arith, entered, kept, behind, less));
  full = λ none. absurd (cc);
  stays =
      stays_on g.S.Store b.stays (stays_over g.S.Store choices c.in_ok-enter_clause.ensures.stays);
}

pub returns-in-Last-clause-came : goal.returns-in-Last-clause-came
returns-in-Last-clause-came g c = λ choices later old s0 r0 b.
    let mid = with_choices c.args.search.now choices in
    let rest = c.args.behind in
    let first = b.again s0 r0 in
    let u = first.retries in
    let k = first.alternative in
    let here = with_others u.call u.others k.list (went_back k first.below r0.own) in
    let came = calls_again g.S.Store g.S.Cells.atom_word mid c.args.search.now.lists refl refl (stacked_same refl)
    c.args.clause later rest here u.call u.clause u.others k.list c.args.call u.calls c.requires.arguments in
    let entered = (c.in_ok-enter_clause.ensures.over choices).last here u.call u.clause u.others k.list later came
    (ap Ok c.in-Last.is) in
    let with = with_frame (with_choices c.enter_clause.new.search choices) entered.frames entered.rest in
    record {
      frames = entered.frames;
      rest = entered.rest;
      unframed = entered.unframed;
      says = λ asked. record {
        next = λ s r.
            let l = framed g.S.Cells.atom_word in
            let mid = with_choices c.args.search.now choices in
            let rest = c.args.behind in
            let again = b.again s r in
            let t = again.retries in
            let a = again.alternative in
            let on = c.in_ok-enter_clause.ensures in
            let there = with_others t.call t.others a.list (went_back a again.below r.own) in
            let calls = calls_again g.S.Store g.S.Cells.atom_word mid c.args.search.now.lists refl refl (stacked_same refl)
            c.args.clause later rest there t.call t.clause t.others a.list c.args.call t.calls
            c.requires.arguments in
            tries_on g.S.Store l old with (record { clause = c.args.clause; later = later; call = c.args.call }) rest s r a
            again.below mid c.args.below b.failing again.stack t again.height
            (entered.says.0 there t.call t.clause t.others a.list later calls) tt;
        stopped = λ s r. tt;
        falls =
            let l = framed g.S.Cells.atom_word in
            let mid = with_choices c.args.search.now choices in
            let rest = c.args.behind in
            let again = b.again s0 r0 in
            let t = again.retries in
            let a = again.alternative in
            let lists = c.args.search.now.lists in
            let on = c.in_ok-enter_clause.ensures in
            let there = with_others t.call t.others a.list (went_back a again.below r0.own) in
            let calls = calls_again g.S.Store g.S.Cells.atom_word mid lists refl refl (stacked_same refl) c.args.clause later
            rest there t.call t.clause t.others a.list c.args.call t.calls c.requires.arguments in
            let costs = entered.says.1 in
            let kept = kept_costs g.S.Store g.S.Cells.atom_word mid lists refl refl (stacked_same refl) in
            let behind = ap (λ (n : ℕ). body_cost most n)
            (kept_behind g.S.Store g.S.Cells.atom_word mid lists refl refl (stacked_same refl) rest) in
            let less = b.less in
            let steps = ap (λ (x : Engine g.row.S.Denot g.row.S-Word.Denot g.row.S-Mark.Denot). x.steps) on.same in
            falls_less l old with (steps ∙ b.steps)
            (omega (arith, costs, kept, behind, less));
        full = λ none. absurd (cc);
        stays =
            stays_framed g.S.Store
            (stays_on g.S.Store b.stays (stays_over g.S.Store choices c.in_ok-enter_clause.ensures.stays));
      };
    }

pub unreachable-requires : goal.unreachable-requires
unreachable-requires g c = c.in_ok-enter_clause.ensures.entered (ap Ok c.in-Full.is)

pub returns-in-Last-clause-alone : goal.returns-in-Last-clause-alone
returns-in-Last-clause-alone g c = λ done. c.in_ok-enter_clause.ensures.alone (ap Ok c.in-Last.is)

pub returns-in-Last-clause-same : goal.returns-in-Last-clause-same
returns-in-Last-clause-same g c =
    ap (λ (x : Engine g.row.S.Denot g.row.S-Word.Denot g.row.S-Mark.Denot). x.choices)
    c.in_ok-enter_clause.ensures.same

pub returns-in-Last-clause-steps : goal.returns-in-Last-clause-steps
returns-in-Last-clause-steps g c =
    ap (λ (x : Engine g.row.S.Denot g.row.S-Word.Denot g.row.S-Mark.Denot). x.steps)
    c.in_ok-enter_clause.ensures.same

pub returns-in_err-enter_clause-clause-steps : goal.returns-in_err-enter_clause-clause-steps
returns-in_err-enter_clause-clause-steps g c =
    ap (λ (x : Engine g.row.S.Denot g.row.S-Word.Denot g.row.S-Mark.Denot). x.steps)
    c.in_err-enter_clause.ensures.same

pub returns-in_err-enter_clause-clause-came : goal.returns-in_err-enter_clause-clause-came
returns-in_err-enter_clause-clause-came g c = λ choices later old s0 r0 b.
    last_error g.S.Store g.S.Cells.atom_word _ _ c.from_residual.result _
    c.from_residual.ensures.0 c.from_residual.ensures.1
    (came_error g.S.Store g.S.Cells.atom_word _
    (λ s r.
    let l = framed g.S.Cells.atom_word in
    let mid = with_choices c.args.search.now choices in
    let rest = c.args.behind in
    let again = b.again s r in
    let t = again.retries in
    let a = again.alternative in
    let there = with_others t.call t.others a.list (went_back a again.below r.own) in
    let calls = calls_again g.S.Store g.S.Cells.atom_word mid c.args.search.now.lists refl refl (stacked_same refl)
    c.args.clause later rest there t.call t.clause t.others a.list c.args.call t.calls
    c.requires.arguments in
    (stops_on g.S.Store l old (with_choices c.enter_clause.new.search choices)
    (record { clause = c.args.clause; later = later; call = c.args.call }) rest s r a again.below mid c.args.below
    b.failing again.stack t again.height
    ((c.in_err-enter_clause.ensures.over choices).kept there t.call t.clause t.others a.list later calls)))
    (λ is. c.in_err-enter_clause.ensures.heap (ap Err is))
    (stays_on g.S.Store b.stays (stays_over g.S.Store choices c.in_err-enter_clause.ensures.stays)))

pub returns-in-Went-clause-same : goal.returns-in-Went-clause-same
returns-in-Went-clause-same g c =
    ap (λ (x : Engine g.row.S.Denot g.row.S-Word.Denot g.row.S-Mark.Denot). x.choices)
    c.in_ok-enter_clause.ensures.same

pub returns-in_err-enter_clause-clause-same : goal.returns-in_err-enter_clause-clause-same
returns-in_err-enter_clause-clause-same g c =
    ap (λ (x : Engine g.row.S.Denot g.row.S-Word.Denot g.row.S-Mark.Denot). x.choices)
    c.in_err-enter_clause.ensures.same

pub returns-in-Went-clause-steps : goal.returns-in-Went-clause-steps
returns-in-Went-clause-steps g c =
    ap (λ (x : Engine g.row.S.Denot g.row.S-Word.Denot g.row.S-Mark.Denot). x.steps)
    c.in_ok-enter_clause.ensures.same
