use Rattle.std.proofs.Common.{◌≡◌, length, ap, arith}
use Rattle.iso_search_core.specs.Bodies.{body_cost, most}
use Rattle.iso_model.specs.Search.Bodies.{Run}
use Rattle.iso_program.proofs.ResultLemmas.{behind_error}
use Rattle.iso_search_core.proofs.CostLemmas.{choices_cost_on}
use Rattle.iso_search_core.proofs.FittingLemmas.{fits_paid}
use Rattle.iso_search.proofs.AheadLemmas.{keeps_ahead}
use Rattle.iso_search.proofs.BoundLemmas.{list_on}
use Rattle.iso_search.proofs.MeetLemmas.{recovery_ahead, calls_recovery}
use Rattle.iso_search.proofs.StoppedLemmas.{keeps_more, keeps_store}
use Rattle.iso_search.proofs.WorldLemmas.{same_texts}
use Rattle.iso_search.proofs.search.Search.call_recovery.Goals as goal

pub returns-in_err-call-clause-kept : goal.returns-in_err-call-clause-kept
returns-in_err-call-clause-kept g c = λ s h.
    (let e = c.args.self.now in
    behind_error c.from_residual.result (
      keeps_store g.S.Store g.L.Lists e c.call_of.new.store s.world s.stack (keeps_ahead g.S.Store g.L.Lists e s c.args.rest h.ahead) c.call_of.ensures.rest.marks (same_texts c.call_of.ensures.rest.names),
      fits_paid g.S.Store (g.S.Store.present e.store) (g.S.Store.present c.call_of.new.store) s c.call_of.ensures.grows (omega arith) h.fits,
    ))

pub returns-in_err-body-clause-kept : goal.returns-in_err-body-clause-kept
returns-in_err-body-clause-kept g c = λ s h.
    (let e = c.args.self.now in
    behind_error c.from_residual-in_err-body.result (
      keeps_more g.S.Store g.L.Lists e c.call_of.new.store c.place_run.new.self s.world s.stack
          (keeps_ahead g.S.Store g.L.Lists e s c.args.rest h.ahead) c.call_of.ensures.rest.marks (same_texts c.call_of.ensures.rest.names) c.place_run.ensures.keeps,
      fits_paid g.S.Store (g.S.Store.present e.store) (g.S.Store.present c.call_of.new.store) s c.call_of.ensures.grows (omega arith) h.fits,
    ))

pub run_here-requires : goal.run_here-requires
run_here-requires g c =
    let e = c.args.self.now in
    let s = c.requires.0 in
    let h = c.requires.1 in
    let q = g.S.Store.present c.call_of.new.store in
    let made = c.in_ok-call.ensures.made in
    let chain = list_on g.L.Lists g.met.L.Lists.all g.met.L.Lists.top g.met.L.Lists.more g.met.L.Lists.words (g.S.Store.present e.store) q e.lists c.place_run.new.self c.args.rest s.list made.words c.in_ok-body.ensures.keeps h.ahead.chain in
    let ahead = recovery_ahead g.S.Store g.L.Lists e c.args.recovery s c.args.rest h c.call_of.new.store c.in_ok-call.call c.call_of.ensures.rest made c.place_run.new.self c.in_ok-call.ensures.numbers.next c.in_ok-body.ensures.keeps c.call_of.ensures.grows (c.in_ok-body.ensures.keeps.pendings (g.S.Store.present e.store) (g.L.Lists.whole e.lists) c.args.rest s.list tt (g.met.L.Lists.all e.lists) h.ahead.chain) chain in
    (s, Run (q.term c.in_ok-call.call), ahead, c.in_ok-body.ensures.placed q made.holds)

pub returns-in_err-run_here-clause-kept : goal.returns-in_err-run_here-clause-kept
returns-in_err-run_here-clause-kept g c = λ s h.
    (let e = c.args.self.now in
    let q = g.S.Store.present c.call_of.new.store in
    let made = c.in_ok-call.ensures.made in
    let chain = list_on g.L.Lists g.met.L.Lists.all g.met.L.Lists.top g.met.L.Lists.more g.met.L.Lists.words (g.S.Store.present e.store) q e.lists c.place_run.new.self c.args.rest s.list made.words c.in_ok-body.ensures.keeps h.ahead.chain in
    let ahead = recovery_ahead g.S.Store g.L.Lists e c.args.recovery s c.args.rest h c.call_of.new.store c.in_ok-call.call c.call_of.ensures.rest made c.place_run.new.self c.in_ok-call.ensures.numbers.next c.in_ok-body.ensures.keeps c.call_of.ensures.grows (c.in_ok-body.ensures.keeps.pendings (g.S.Store.present e.store) (g.L.Lists.whole e.lists) c.args.rest s.list tt (g.met.L.Lists.all e.lists) h.ahead.chain) chain in
    behind_error c.from_residual-in_err-run_here.result (c.in_err-run_here.ensures.kept s ahead))

pub returns-clause-called : goal.returns-clause-called
returns-clause-called g c = λ s h.
    (let e = c.args.self.now in
    let q = g.S.Store.present c.call_of.new.store in
    let made = c.in_ok-call.ensures.made in
    let chain = list_on g.L.Lists g.met.L.Lists.all g.met.L.Lists.top g.met.L.Lists.more g.met.L.Lists.words (g.S.Store.present e.store) q e.lists c.place_run.new.self c.args.rest s.list made.words c.in_ok-body.ensures.keeps h.ahead.chain in
    let ahead = recovery_ahead g.S.Store g.L.Lists e c.args.recovery s c.args.rest h c.call_of.new.store c.in_ok-call.call c.call_of.ensures.rest made c.place_run.new.self c.in_ok-call.ensures.numbers.next c.in_ok-body.ensures.keeps c.call_of.ensures.grows (c.in_ok-body.ensures.keeps.pendings (g.S.Store.present e.store) (g.L.Lists.whole e.lists) c.args.rest s.list tt (g.met.L.Lists.all e.lists) h.ahead.chain) chain in
    let many : c.len-height.result ≡ length e.choices.items = cc (c.len-height.ensures, e.choices.ok.0) in
    calls_recovery g.S.Store g.L.Lists e c.args.recovery s c.args.rest h c.call_of.new.store c.in_ok-call.call c.call_of.ensures.rest made c.run_here.new.self c.len-height.result many
    (c.in_ok-run_here.ensures.runs s (Run (q.term c.in_ok-call.call)) ahead (c.in_ok-body.ensures.placed q made.holds)))

pub returns-clause-costs : goal.returns-clause-costs
returns-clause-costs g c =
    let e = c.args.self.now in
    let h = c.requires.1.ahead in
    let keeps = c.in_ok-body.ensures.keeps in
    let all = choices_cost_on g.L.Lists keeps (λ d among. tt) h.choices in
    let body = ap (body_cost most) (keeps.costs (g.S.Store.present e.store) (g.L.Lists.whole e.lists) c.args.rest c.requires.0.list tt (g.met.L.Lists.all e.lists) h.chain) in
    omega (arith, all, body, c.in_ok-run_here.ensures.costs)
