use Rattle.std.proofs.Common.{◌≡◌, ◌∙◌, ◌≤◌, suc, length, sym, ap, subst, Err, IfOk, OnErr, inl}
use Rattle.std.proofs.lemmas.Result.{on_err_weaker}
use Rattle.iso_model.specs.Search.AtomParts.{parts_settled}
use Rattle.iso_search.specs.EngineStates.{IsEngine, WasCalled}
use Rattle.iso_store_core.specs.Presents.{meaning}
use Rattle.iso_search.specs.Limits.{ResultFull}
use Rattle.iso_model.specs.Search.Settlements.{Settled}
use Rattle.iso_model.specs.Search.Walker.{settled, State}
use Rattle.iso_search.specs.Settles.{WasStopped}
use Rattle.iso_search.proofs.AheadLemmas.{remains_ahead}
use Rattle.iso_search.proofs.Moves.Fault.{goal_throws}
use Rattle.iso_search.proofs.Moves.Part.{parts_are, parts_raise, parted_offers}
use Rattle.iso_search.proofs.Moves.Word.{slice_are}
use Rattle.iso_search.proofs.search.Search.part_goal.Goals as goal

pub parted-requires-clause-arguments : goal.parted-requires-clause-arguments
parted-requires-clause-arguments g c = (slice_are c.as_slice-arguments.ensures.value c.requires.arguments).hold

pub parted-requires-clause-count : goal.parted-requires-clause-count
parted-requires-clause-count g c = (slice_are c.as_slice-arguments.ensures.value c.requires.arguments).count ∙ c.requires.parts.1.arity_is

pub offer-requires-clause-rows : goal.offer-requires-clause-rows
offer-requires-clause-rows g c =
    let t = meaning (g.S.Store.present c.args.self.now.store) c.args.goal in
    (parts_are c.args.row t (parts_settled c.args.row t) c.parted.result (c.parted.ensures.parted t (slice_are c.as_slice-arguments.ensures.value c.requires.arguments)) c.in-Ok.parts c.in-Ok.is).each

pub returns-in-Ok-clause-called : goal.returns-in-Ok-clause-called
returns-in-Ok-clause-called g c = λ s h.
    (let t = meaning (g.S.Store.present c.args.self.now.store) c.args.goal in
    let x = parts_settled c.args.row t in
    let is = parts_are c.args.row t x c.parted.result (c.parted.ensures.parted t (slice_are c.as_slice-arguments.ensures.value c.requires.arguments)) c.in-Ok.parts c.in-Ok.is in
    subst (λ (v : State). IfOk c.offer.result (λ m. WasCalled g.S.Store g.L.Lists m c.offer.new.self s v)) (parted_offers c.args.row t x c.in-Ok.parts s is h.arity_is)
    (c.offer.ensures.called s is.made h.meets))

pub returns-in-Ok-clause-kept : goal.returns-in-Ok-clause-kept
returns-in-Ok-clause-kept g c = λ s h.
    (let t = meaning (g.S.Store.present c.args.self.now.store) c.args.goal in
    let x = parts_settled c.args.row t in
    let is = parts_are c.args.row t x c.parted.result (c.parted.ensures.parted t (slice_are c.as_slice-arguments.ensures.value c.requires.arguments)) c.in-Ok.parts c.in-Ok.is in
    subst (λ (v : State). OnErr c.offer.result (WasStopped g.S.Store g.L.Lists c.offer.new.self s v)) (parted_offers c.args.row t x c.in-Ok.parts s is h.arity_is)
    (c.offer.ensures.kept s is.made h.meets))

pub returns-in-Ok-clause-frames : goal.returns-in-Ok-clause-frames
returns-in-Ok-clause-frames g c = λ s h.
    (let e = c.args.self.now in
    let t = meaning (g.S.Store.present e.store) c.args.goal in
    let x = parts_settled c.args.row t in
    let is = parts_are c.args.row t x c.parted.result (c.parted.ensures.parted t (slice_are c.as_slice-arguments.ensures.value c.requires.arguments)) c.in-Ok.parts c.in-Ok.is in
    subst (λ (v : State). ResultFull ((e.limit ≤ length e.choices.items) × (length v.stack ≡ suc (length s.stack))) c.offer.result) (parted_offers c.args.row t x c.in-Ok.parts s is h.arity_is)
    (c.offer.ensures.frames s is.made h.meets))

pub behind_fault-requires : goal.behind_fault-requires
behind_fault-requires g c = λ ball raised.
    (let t = meaning (g.S.Store.present c.args.self.now.store) c.args.goal in
    let told = c.parted.ensures.parted t (slice_are c.as_slice-arguments.ensures.value c.requires.arguments) in
    (parts_raise c.args.row t (parts_settled c.args.row t) c.parted.result told ball (c.in-Err.is ∙ ap Err raised)).1)

pub returns-in-Err-clause-called : goal.returns-in-Err-clause-called
returns-in-Err-clause-called g c = λ s h.
    (let t = meaning (g.S.Store.present c.args.self.now.store) c.args.goal in
    let told = c.parted.ensures.parted t (slice_are c.as_slice-arguments.ensures.value c.requires.arguments) in
    (goal_throws g.S.Store g.L.Lists c.behind_fault.ensures.throws).goes _ (λ ball raised engine awake.
    (let is = parts_raise c.args.row t (parts_settled c.args.row t) c.parted.result told ball (c.in-Err.is ∙ ap Err raised) in
    (subst (λ (y : Settled). IsEngine g.S.Store g.L.Lists c.behind_fault.new.self (settled y s.list s)) (sym is.0) (engine s h.meets.ahead), awake))))

pub returns-in-Err-clause-kept : goal.returns-in-Err-clause-kept
returns-in-Err-clause-kept g c = λ s h.
    on_err_weaker c.behind_fault.result inl
    ((goal_throws g.S.Store g.L.Lists c.behind_fault.ensures.throws).kept s
    (remains_ahead g.S.Store g.L.Lists c.args.self.now s c.args.place h.meets.ahead))

pub returns-in-Err-clause-falls : goal.returns-in-Err-clause-falls
returns-in-Err-clause-falls g c =
    (goal_throws g.S.Store g.L.Lists c.behind_fault.ensures.throws).falls

pub returns-in-Err-clause-frames : goal.returns-in-Err-clause-frames
returns-in-Err-clause-frames g c = λ s h.
    (goal_throws g.S.Store g.L.Lists c.behind_fault.ensures.throws).frames _

pub returns-in-Err-clause-met : goal.returns-in-Err-clause-met
returns-in-Err-clause-met g c =
    (goal_throws g.S.Store g.L.Lists c.behind_fault.ensures.throws).met
    (λ full. absurd (c.in-Err.ensures.full (ap Err full)))
