use Rattle.std.proofs.Common.{◌∙◌, subst, sym}
use Rattle.std.proofs.lemmas.Result.{on_ok_weaker, on_err_weaker}
use Rattle.iso_search_core.specs.Offers.{goal_arguments}
use Rattle.iso_search.specs.EngineStates.{IsEngine, Keeps, went_back}
use Rattle.iso_store_core.specs.Presents.{meaning}
use Rattle.iso_search.specs.Settles.{MeetsRow}
use Rattle.iso_model.specs.Search.Walker.{State, with_rights, World}
use Rattle.iso_search_core.specs.Fitting.{FitsState}
use Rattle.iso_search.proofs.NewestLemmas.{lists_same, choices_same, steps_same, tried_less}
use Rattle.iso_search.proofs.Moves.Offer.{next_is, next_keeps}
use Rattle.iso_search.proofs.search.Search.try_next.Goals as goal

pub next_offer-row-requires-clause-back : goal.next_offer-row-requires-clause-back
next_offer-row-requires-clause-back g c = let b = c.requires.back in (b.0, c.args.goal, b.1, b.2, b.3, b.4, b.5, b.7, b.8)

pub try_row-requires-clause-meets : goal.try_row-requires-clause-meets
try_row-requires-clause-meets g c =
    let b = c.requires.back in
    let n = c.next_offer-row.ensures.meets b.0 c.args.goal b.1 b.2 b.3 b.4 b.5 b.7 b.8 in
    let e = c.next_offer-row.new.self in
    let mid = with_rights (goal_arguments (meaning (g.S.Store.present e.store) c.args.goal)) n.others (b.3).list (went_back b.3 b.4 b.2) in
    (mid, subst (λ (p : _). MeetsRow g.S.Store g.L.Lists e c.args.goal mid p) b.6 n.meets)

pub try_row-requires-clause-row : goal.try_row-requires-clause-row
try_row-requires-clause-row g c =
    let b = c.requires.back in
    (c.next_offer-row.ensures.meets b.0 c.args.goal b.1 b.2 b.3 b.4 b.5 b.7 b.8).of

pub returns-clause-tried : goal.returns-clause-tried
returns-clause-tried g c = λ ch offers s a below first rights mark rest tries w is.
    (let n = c.next_offer-row.ensures.meets ch c.args.goal offers s a below mark tries w in
    let e = c.next_offer-row.new.self in
    let mid = with_rights (goal_arguments (meaning (g.S.Store.present e.store) c.args.goal)) n.others a.list (went_back a below s) in
    let same = next_is g.S.Store g.L.Lists e c.args.goal ch.rest s a below c.next_offer-row.result n first rights is in
    on_ok_weaker c.try_row.result (λ k. subst (λ (y : State). IsEngine g.S.Store g.L.Lists c.try_row.new.self y) same k) (c.try_row.ensures.tried mid n.made (subst (λ (p : _). MeetsRow g.S.Store g.L.Lists e c.args.goal mid p) rest n.meets)))

pub returns-clause-kept : goal.returns-clause-kept
returns-clause-kept g c = λ ch offers s a below first rights mark rest tries w is.
    (let n = c.next_offer-row.ensures.meets ch c.args.goal offers s a below mark tries w in
    let e = c.next_offer-row.new.self in
    let left = goal_arguments (meaning (g.S.Store.present e.store) c.args.goal) in
    let mid = with_rights left n.others a.list (went_back a below s) in
    let keep = next_keeps g.S.Store g.L.Lists e c.args.goal ch.rest s a below c.next_offer-row.result n first rights is in
    on_err_weaker c.try_row.result (λ k. (
      keep.1,
      subst (λ (xs : _). Keeps g.S.Store g.L.Lists c.try_row.new.self s.world xs) (sym keep.0) (subst (λ (v : World). Keeps g.S.Store g.L.Lists c.try_row.new.self v mid.stack) keep.2 k.0),
      subst (λ (y : State). FitsState g.S.Store (g.S.Store.present c.try_row.new.self.store) 0 y) (next_is g.S.Store g.L.Lists e c.args.goal ch.rest s a below c.next_offer-row.result n first rights is) k.1,
    ))
    (c.try_row.ensures.kept mid n.made (subst (λ (p : _). MeetsRow g.S.Store g.L.Lists e c.args.goal mid p) rest n.meets)))

pub returns-clause-steps : goal.returns-clause-steps
returns-clause-steps g c = steps_same c.try_row.ensures.same ∙ steps_same c.next_offer-row.ensures.same

pub returns-clause-costs : goal.returns-clause-costs
returns-clause-costs g c =
    let b = c.requires.back in
    let left = c.next_offer-row.ensures in
    let tried = c.try_row.ensures in
    on_ok_weaker c.try_row.result
    (λ less. tried_less g.L.Lists c.args.self.now c.next_offer-row.new.self c.try_row.new.self c.args.newest.rest (lists_same left.same) (lists_same tried.same) (choices_same tried.same) less (b.0).rest b.6 (left.costs b.0 c.args.goal b.1 b.2 b.3 b.4 b.5 b.7 b.8))
    tried.cost
