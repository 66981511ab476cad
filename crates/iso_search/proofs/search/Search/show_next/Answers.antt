use Rattle.std.proofs.Common.{◌∙◌, [], subst}
use Rattle.iso_search.specs.EngineStates.{Keeps, StandsAs, went_back}
use Rattle.iso_model.specs.Search.Walker.{State, World}
use Rattle.iso_search_core.specs.Fitting.{FitsState}
use Rattle.iso_search.specs.Shows.{ShowsNext, shown_row, offers_of}
use Rattle.iso_search.proofs.LimitLemmas.{stays_on, stays_bare}
use Rattle.iso_search.proofs.NewestLemmas.{lists_same, choices_same, steps_same, tried_less}
use Rattle.iso_search.proofs.Moves.Offer.{rights_keep}
use Rattle.iso_search.proofs.Moves.Show.{left_state, left_tried}
use Rattle.iso_search.proofs.StoppedLemmas.{keeps_bare}
use Rattle.iso_search.proofs.search.Search.show_next.Goals as goal

pub leave_shown-requires-clause-back : goal.leave_shown-requires-clause-back
leave_shown-requires-clause-back g c = let b = c.requires.back in (b.0, b.1, b.2, b.3, b.4, b.6, b.7)

pub show_clause-requires : goal.show_clause-requires
show_clause-requires g c =
    let b = c.requires.back in
    let e = c.leave_shown.new.self in
    let n = subst (λ (p : _). ShowsNext g.S.Store g.L.Lists e c.args.shown p b.1 b.2 b.3) b.5 (c.leave_shown.ensures.shows b.0 b.1 b.2 b.3 b.4 b.6 b.7) in
    (left_state g.S.Store g.L.Lists e c.args.shown c.args.newest.rest b.1 b.2 b.3 n, n.key, n.clause, n.others, n.shows)

pub returns-clause-tried : goal.returns-clause-tried
returns-clause-tried g c = λ ch s a below first rights mark rest tries w is.
    (let e = c.leave_shown.new.self in
    let n = subst (λ (p : _). ShowsNext g.S.Store g.L.Lists e c.args.shown p s a below) rest (c.leave_shown.ensures.shows ch s a below mark tries w) in
    let mid = left_state g.S.Store g.L.Lists e c.args.shown c.args.newest.rest s a below n in
    let same = left_tried g.S.Store g.L.Lists e c.args.shown c.args.newest.rest s a below n first rights is in
    subst (λ (y : State). StandsAs g.S.Store g.L.Lists c.show_clause.new.self y) same (c.in_default.ensures.tried mid n.key n.clause n.others n.shows))

pub returns-in-Err-clause-kept : goal.returns-in-Err-clause-kept
returns-in-Err-clause-kept g c = λ ch s a below first rights mark rest tries w is.
    (let e = c.leave_shown.new.self in
    let n = subst (λ (p : _). ShowsNext g.S.Store g.L.Lists e c.args.shown p s a below) rest (c.leave_shown.ensures.shows ch s a below mark tries w) in
    let mid = left_state g.S.Store g.L.Lists e c.args.shown c.args.newest.rest s a below n in
    let remains = c.in-Err.ensures.kept mid n.key n.clause n.others n.shows in
    let kept = keeps_bare g.S.Store g.L.Lists c.show_clause.new.self c.clear.new.self mid.world mid.stack c.clear.ensures.items remains.0 in
    let keep = rights_keep (shown_row (g.S.Store.present e.store) c.args.shown) (offers_of c.args.shown n.key n.others) (went_back a below s) in
    let same = left_tried g.S.Store g.L.Lists e c.args.shown c.args.newest.rest s a below n first rights is in (
      subst (λ (v : World). Keeps g.S.Store g.L.Lists (record c.show_clause.new.self { choices = c.clear.new.self }) v []) keep.1 kept,
      subst (λ (v : State). FitsState g.S.Store (g.S.Store.present c.show_clause.new.self.store) 0 v) same remains.1,
    ))

pub returns-in-Err-clause-steps : goal.returns-in-Err-clause-steps
returns-in-Err-clause-steps g c = steps_same c.show_clause.ensures.same ∙ steps_same c.leave_shown.ensures.same

pub returns-in-Err-clause-stays : goal.returns-in-Err-clause-stays
returns-in-Err-clause-stays g c = stays_bare g.S.Store c.clear.new.self c.clear.ensures.items (stays_on g.S.Store c.leave_shown.ensures.stays c.show_clause.ensures.stays)

pub returns-clause-steps : goal.returns-clause-steps
returns-clause-steps g c = steps_same c.show_clause.ensures.same ∙ steps_same c.leave_shown.ensures.same

pub returns-clause-costs : goal.returns-clause-costs
returns-clause-costs g c =
    let b = c.requires.back in
    let left = c.leave_shown.ensures in
    let shown = c.in_default.ensures in
    tried_less g.L.Lists c.args.self.now c.leave_shown.new.self c.show_clause.new.self c.args.newest.rest (lists_same left.same) (lists_same shown.same) (choices_same shown.same) shown.cost (b.0).rest b.5 (left.costs b.0 b.1 b.2 b.3 b.4 b.6 b.7)

pub returns-clause-stays : goal.returns-clause-stays
returns-clause-stays g c = stays_on g.S.Store c.leave_shown.ensures.stays c.show_clause.ensures.stays
