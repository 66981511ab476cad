use Rattle.std.proofs.Common.{◌≡◌, ◌∙◌, ◌≤◌, suc, length, arith, sym, ap, subst, Ok, Err, IfOk, OnErr, inl}
use Rattle.std.proofs.lemmas.Result.{on_err_weaker}
use Rattle.iso_model.specs.Search.Settings.{Settled, setting_arity}
use Rattle.iso_search.specs.EngineStates.{cost, IsEngine, WasCalled}
use Rattle.iso_store_core.specs.Presents.{meaning}
use Rattle.iso_search.specs.Limits.{ResultFull}
use Rattle.iso_model.specs.Search.Walker.{settled, State}
use Rattle.iso_search.specs.Settles.{WasStopped}
use Rattle.iso_search_core.proofs.BodyCosts.{whole_paid}
use Rattle.iso_search.proofs.AheadLemmas.{remains_ahead}
use Rattle.iso_search.proofs.Moves.Fault.{goal_throws}
use Rattle.iso_search.proofs.Moves.Offer.{comes_done, comes_offers, comes_raised, ahead_faulted, comes_full}
use Rattle.iso_search.proofs.Moves.Word.{slice_are}
use Rattle.iso_search.proofs.search.Search.setting_goal.Goals as goal

pub settle-requires-clause-arguments : goal.settle-requires-clause-arguments
settle-requires-clause-arguments g c = (slice_are c.as_slice-arguments.ensures.value c.requires.arguments).hold

pub settle-requires-clause-count : goal.settle-requires-clause-count
settle-requires-clause-count g c = (slice_are c.as_slice-arguments.ensures.value c.requires.arguments).count ∙ c.requires.asks.1.arity_is

pub coming-self-requires : goal.coming-self-requires
coming-self-requires g c = let s = c.requires.asks in (s.0.list, s.1.meets.ahead.chain)

pub returns-in-Ok-Done-clause-called : goal.returns-in-Ok-Done-clause-called
returns-in-Ok-Done-clause-called g c = λ s h.
    (let told = c.settle.ensures.settled (meaning (g.S.Store.present c.args.self.now.store) c.args.goal) (slice_are c.as_slice-arguments.ensures.value c.requires.arguments) in
    let comes = c.coming-self.ensures.behind s.list h.meets.ahead.chain in
    (comes_done g.S.Store g.L.Lists c.args.self.now c.args.row c.args.goal s c.args.place h c.settle.new.ops c.settle.new.flags c.settle.result told c.coming-self.result (c.in-Ok-Done.is ∙ ap Ok c.in-Ok-Done.field-0-is) comes, c.coming-self.ensures.awake))

pub returns-in-Ok-Done-clause-falls : goal.returns-in-Ok-Done-clause-falls
returns-in-Ok-Done-clause-falls g c = λ w less.
    (whole_paid c.args.self.now.steps w (cost g.L.Lists (record c.args.self.now { now = c.coming-self.result })) (omega (arith, less, c.coming-self.ensures.cost)))

pub returns-in-Ok-Offers-clause-called : goal.returns-in-Ok-Offers-clause-called
returns-in-Ok-Offers-clause-called g c = λ s h.
    (let told = c.settle.ensures.settled (meaning (g.S.Store.present c.args.self.now.store) c.args.goal) (slice_are c.as_slice-arguments.ensures.value c.requires.arguments) in
    let on = comes_offers g.S.Store g.L.Lists c.args.self.now c.args.row c.args.goal s c.args.place h c.settle.new.ops c.settle.new.flags c.settle.result told c.in-Ok-Offers.offers c.reverse.new.self (c.in-Ok-Offers.is ∙ ap Ok c.in-Ok-Offers.field-0-is) c.reverse.ensures.items c.settle.ensures.operators_stay c.settle.ensures.flags_stay in
    subst (λ (v : State). IfOk c.offer.result (λ m. WasCalled g.S.Store g.L.Lists m c.offer.new.self s v)) on.1 (c.offer.ensures.called s (setting_arity c.args.row) on.0))

pub returns-in-Ok-Offers-clause-kept : goal.returns-in-Ok-Offers-clause-kept
returns-in-Ok-Offers-clause-kept g c = λ s h.
    (let told = c.settle.ensures.settled (meaning (g.S.Store.present c.args.self.now.store) c.args.goal) (slice_are c.as_slice-arguments.ensures.value c.requires.arguments) in
    let on = comes_offers g.S.Store g.L.Lists c.args.self.now c.args.row c.args.goal s c.args.place h c.settle.new.ops c.settle.new.flags c.settle.result told c.in-Ok-Offers.offers c.reverse.new.self (c.in-Ok-Offers.is ∙ ap Ok c.in-Ok-Offers.field-0-is) c.reverse.ensures.items c.settle.ensures.operators_stay c.settle.ensures.flags_stay in
    subst (λ (v : State). OnErr c.offer.result (WasStopped g.S.Store g.L.Lists c.offer.new.self s v)) on.1 (c.offer.ensures.kept s (setting_arity c.args.row) on.0))

pub returns-in-Ok-Offers-clause-frames : goal.returns-in-Ok-Offers-clause-frames
returns-in-Ok-Offers-clause-frames g c = λ s h.
    (let e = c.args.self.now in
    let told = c.settle.ensures.settled (meaning (g.S.Store.present c.args.self.now.store) c.args.goal) (slice_are c.as_slice-arguments.ensures.value c.requires.arguments) in
    let on = comes_offers g.S.Store g.L.Lists c.args.self.now c.args.row c.args.goal s c.args.place h c.settle.new.ops c.settle.new.flags c.settle.result told c.in-Ok-Offers.offers c.reverse.new.self (c.in-Ok-Offers.is ∙ ap Ok c.in-Ok-Offers.field-0-is) c.reverse.ensures.items c.settle.ensures.operators_stay c.settle.ensures.flags_stay in
    subst (λ (v : State). ResultFull ((e.limit ≤ length e.choices.items) × (length v.stack ≡ suc (length s.stack))) c.offer.result) on.1 (c.offer.ensures.frames s (setting_arity c.args.row) on.0))

pub behind_fault-requires : goal.behind_fault-requires
behind_fault-requires g c = λ ball raised.
    (let s = c.requires.asks.0 in
    let h = c.requires.asks.1 in
    let told = c.settle.ensures.settled (meaning (g.S.Store.present c.args.self.now.store) c.args.goal) (slice_are c.as_slice-arguments.ensures.value c.requires.arguments) in
    (comes_raised g.S.Store g.L.Lists c.args.self.now c.args.row c.args.goal s c.args.place h c.settle.new.ops c.settle.new.flags c.settle.result told ball (c.in-Err.is ∙ ap Err raised)).1)

pub returns-in-Err-clause-called : goal.returns-in-Err-clause-called
returns-in-Err-clause-called g c = λ s h.
    (let told = c.settle.ensures.settled (meaning (g.S.Store.present c.args.self.now.store) c.args.goal) (slice_are c.as_slice-arguments.ensures.value c.requires.arguments) in
    (goal_throws g.S.Store g.L.Lists c.behind_fault.ensures.throws).goes _ (λ ball raised engine awake.
    (let is = comes_raised g.S.Store g.L.Lists c.args.self.now c.args.row c.args.goal s c.args.place h c.settle.new.ops c.settle.new.flags c.settle.result told ball (c.in-Err.is ∙ ap Err raised) in
    (subst (λ (y : Settled). IsEngine g.S.Store g.L.Lists c.behind_fault.new.self (settled y s.list s)) (sym is.0) (engine s (ahead_faulted g.S.Store g.L.Lists c.args.self.now c.args.row c.args.goal s c.args.place h c.settle.new.ops c.settle.new.flags c.settle.result told c.in-Err.fault c.in-Err.is c.settle.ensures.operators c.settle.ensures.flags)), awake))))

pub returns-in-Err-clause-kept : goal.returns-in-Err-clause-kept
returns-in-Err-clause-kept g c = λ s h.
    (let told = c.settle.ensures.settled (meaning (g.S.Store.present c.args.self.now.store) c.args.goal) (slice_are c.as_slice-arguments.ensures.value c.requires.arguments) in
    on_err_weaker c.behind_fault.result inl ((goal_throws g.S.Store g.L.Lists c.behind_fault.ensures.throws).kept s (remains_ahead g.S.Store g.L.Lists _ s c.args.place (ahead_faulted g.S.Store g.L.Lists c.args.self.now c.args.row c.args.goal s c.args.place h c.settle.new.ops c.settle.new.flags c.settle.result told c.in-Err.fault c.in-Err.is c.settle.ensures.operators c.settle.ensures.flags))))

pub returns-in-Err-clause-falls : goal.returns-in-Err-clause-falls
returns-in-Err-clause-falls g c = (goal_throws g.S.Store g.L.Lists c.behind_fault.ensures.throws).falls

pub returns-in-Err-clause-frames : goal.returns-in-Err-clause-frames
returns-in-Err-clause-frames g c = λ s h. (goal_throws g.S.Store g.L.Lists c.behind_fault.ensures.throws).frames _

pub returns-in-Err-clause-met : goal.returns-in-Err-clause-met
returns-in-Err-clause-met g c =
    let s = c.requires.asks.0 in
    let h = c.requires.asks.1 in
    let told = c.settle.ensures.settled (meaning (g.S.Store.present c.args.self.now.store) c.args.goal) (slice_are c.as_slice-arguments.ensures.value c.requires.arguments) in
    (goal_throws g.S.Store g.L.Lists c.behind_fault.ensures.throws).met (λ full. absurd (comes_full g.S.Store g.L.Lists c.args.self.now c.args.row c.args.goal s c.args.place h c.settle.new.ops c.settle.new.flags c.settle.result told (c.in-Err.is ∙ ap Err full)))
