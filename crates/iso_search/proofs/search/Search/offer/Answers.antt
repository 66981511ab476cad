use Rattle.std.proofs.Common.{◌≡◌, ◌+◌, arith, sym, ap, subst, Ok, inr, ◌∙◌}
use Rattle.iso_search.specs.EngineStates.{IsEngine, Keeps, kept_cost}
use Rattle.iso_store_core.specs.Presents.{meaning}
use Rattle.iso_model.specs.Search.Walker.{State, tried_right, with_rights, World}
use Rattle.iso_search_core.specs.Offers.{goal_arguments, row_offer, rights_of, IsRow}
use Rattle.iso_program.proofs.ResultLemmas.{behind_error}
use Rattle.iso_search_core.proofs.BodyCosts.{whole_paid}
use Rattle.iso_search_core.specs.Fitting.{FitsState}
use Rattle.iso_search.proofs.AheadLemmas.{keeps_ahead}
use Rattle.iso_search.proofs.NewestLemmas.{lists_same, choices_same, steps_same, tried_falls, called_full}
use Rattle.iso_search.proofs.Moves.Offer.{rights_count, offered_stack, rights_first, rights_keep, offered_is, offered_keeps}
use Rattle.iso_search.proofs.search.Search.offer.Goals as goal

pub returns-in_default-clause-falls : goal.returns-in_default-clause-falls
returns-in_default-clause-falls g c = λ w less.
    (let e = c.args.self.now in
    whole_paid e.steps w (kept_cost g.L.Lists e + 0) (omega (arith, less)))

pub push_offers-requires : goal.push_offers-requires
push_offers-requires g c =
    record { rows = (c.in-Some.ensures.each (meaning (g.S.Store.present c.args.self.now.store) c.args.goal) c.requires.rows).0 }

pub returns-then-not-branch-clause-called : goal.returns-then-not-branch-clause-called
returns-then-not-branch-clause-called g c = λ s made h.
    (let e = c.args.self.now in
    let over = c.in_ok-push_offers.ensures.over (ap Ok c.if-not-branch.true) in
    rw c.full_frames.ensures.is (called_full g.S.Store g.L.Lists c.full_frames.ensures.is over.0 c.full_frames.ensures.spent s s (keeps_ahead g.S.Store g.L.Lists e s c.args.place h.ahead)))

pub returns-then-not-branch-clause-frames : goal.returns-then-not-branch-clause-frames
returns-then-not-branch-clause-frames g c = λ s made h.
    (let t = meaning (g.S.Store.present c.args.self.now.store) c.args.goal in
    let others = rights_of made t c.take.new.self in
    let of = (c.in-Some.ensures.each t c.requires.rows).1 in
    let is = rights_first made t c.args.offers c.take.new.self c.in-Some.first c.in-Some.ensures.some in
    let over = c.in_ok-push_offers.ensures.over (ap Ok c.if-not-branch.true) in
    let left = over.2 in
    let many = rights_count made t c.take.new.self in
    rw c.full_frames.ensures.is (over.1, offered_stack made (goal_arguments t) t c.in-Some.first of (rights_of made t c.args.offers) others s is (omega (arith, left, many))))

pub returns-then-not-branch-clause-met : goal.returns-then-not-branch-clause-met
returns-then-not-branch-clause-met g c = rw c.full_frames.ensures.is tt

pub try_row-requires-clause-meets : goal.try_row-requires-clause-meets
try_row-requires-clause-meets g c =
    let e = c.args.self.now in
    let s = c.requires.meets.0 in
    (with_rights (goal_arguments (meaning (g.S.Store.present e.store) c.args.goal)) (rights_of 0 (meaning (g.S.Store.present e.store) c.args.goal) c.take.new.self) s.list s, c.in_ok-push_offers.ensures.meets s 0 c.requires.meets.1 (ap Ok c.if-not-branch.false))

pub try_row-requires-clause-row : goal.try_row-requires-clause-row
try_row-requires-clause-row g c =
    let e = c.args.self.now in
    subst (λ (q : _). IsRow (meaning q c.args.goal) c.in-Some.first) (sym c.in_ok-push_offers.ensures.present) (c.in-Some.ensures.each (meaning (g.S.Store.present e.store) c.args.goal) c.requires.rows).1

pub returns-in_err-try_row-clause-kept : goal.returns-in_err-try_row-clause-kept
returns-in_err-try_row-clause-kept g c = λ s made h.
    (let t = meaning (g.S.Store.present c.args.self.now.store) c.args.goal in
    let left = goal_arguments t in
    let others = rights_of made t c.take.new.self in
    let rights = rights_of made t c.args.offers in
    let of = (c.in-Some.ensures.each t c.requires.rows).1 in
    let mid = with_rights left others s.list s in
    let is = rights_first made t c.args.offers c.take.new.self c.in-Some.first c.in-Some.ensures.some in
    let keep = offered_keeps made left t c.in-Some.first of rights others s is in
    let meets = c.in_ok-push_offers.ensures.meets s made h (ap Ok c.if-not-branch.false) in
    let present = c.in_ok-push_offers.ensures.present in
    let other = goal_arguments (meaning (g.S.Store.present c.push_offers.new.self.store) c.args.goal) in
    let same : other ≡ left = ap (λ (q : _). goal_arguments (meaning q c.args.goal)) present in
    let there = offered_is made left other t c.in-Some.first rights others s same is in
    let new = c.try_row.new.self in
    let kept : Keeps g.S.Store g.L.Lists new mid.world mid.stack × FitsState g.S.Store (g.S.Store.present new.store) 0 (tried_right other (row_offer made t c.in-Some.first) mid.list mid) =
    subst (λ (q : _). Keeps g.S.Store g.L.Lists new mid.world mid.stack × FitsState g.S.Store (g.S.Store.present new.store) 0 (tried_right other (row_offer made (meaning q c.args.goal) c.in-Some.first) mid.list mid)) present (c.in_err-try_row.ensures.kept mid made meets) in
    let stays = rights_keep left others s in
    behind_error c.from_residual-in_err-try_row.result (inr (
      keep.1,
      subst (λ (xs : _). Keeps g.S.Store g.L.Lists new s.world xs) (sym keep.0)
          (subst (λ (v : World). Keeps g.S.Store g.L.Lists new v mid.stack) stays.1 kept.0),
      subst (λ (y : State). FitsState g.S.Store (g.S.Store.present new.store) 0 y) there kept.1,
    )))

pub returns-clause-called : goal.returns-clause-called
returns-clause-called g c = λ s made h.
    (let t = meaning (g.S.Store.present c.args.self.now.store) c.args.goal in
    let left = goal_arguments t in
    let others = rights_of made t c.take.new.self in
    let rights = rights_of made t c.args.offers in
    let mid = with_rights left others s.list s in
    let is = rights_first made t c.args.offers c.take.new.self c.in-Some.first c.in-Some.ensures.some in
    let meets = c.in_ok-push_offers.ensures.meets s made h (ap Ok c.if-not-branch.false) in
    let present = c.in_ok-push_offers.ensures.present in
    let other = goal_arguments (meaning (g.S.Store.present c.push_offers.new.self.store) c.args.goal) in
    let same : other ≡ left = ap (λ (q : _). goal_arguments (meaning q c.args.goal)) present in
    let there = offered_is made left other t c.in-Some.first rights others s same is in
    let tried : IsEngine g.S.Store g.L.Lists c.try_row.new.self (tried_right other (row_offer made t c.in-Some.first) mid.list mid) =
    subst (λ (q : _). IsEngine g.S.Store g.L.Lists c.try_row.new.self (tried_right other (row_offer made (meaning q c.args.goal) c.in-Some.first) mid.list mid)) present (c.in_ok-try_row.ensures.tried mid made meets) in
    (subst (λ (y : State). IsEngine g.S.Store g.L.Lists c.try_row.new.self y) there tried, c.in_ok-try_row.ensures.awake))

pub returns-clause-falls : goal.returns-clause-falls
returns-clause-falls g c =
    let pushed = c.in_ok-push_offers.ensures in
    let tried = c.in_ok-try_row.ensures in
    tried_falls g.L.Lists c.args.self.now c.push_offers.new.self c.try_row.new.self c.args.place (lists_same pushed.same) (lists_same tried.same) (choices_same tried.same) tried.cost (steps_same tried.same ∙ steps_same pushed.same) pushed.costs
