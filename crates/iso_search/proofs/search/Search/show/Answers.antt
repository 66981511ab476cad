use Rattle.std.proofs.Common.{◌≡◌, ◌∙◌, [], ◌∷◌, ap, arith, refl, subst, Ok, Err}
use Rattle.iso_search.specs.EngineStates.{Keeps, StandsAs}
use Rattle.iso_search.specs.Shows.{offers_of, shown_row}
use Rattle.iso_model.specs.Search.Walker.{State, offered, with_rights, World}
use Rattle.iso_model.proofs.Search.RunLaws.CountLemmas.{offered_built}
use Rattle.iso_search_core.specs.Fitting.{FitsState}
use Rattle.iso_search_core.proofs.FittingLemmas.{fits_more}
use Rattle.iso_search.proofs.AheadLemmas.{keeps_ahead}
use Rattle.iso_search.proofs.CountedLemmas.{offered_query}
use Rattle.iso_search.proofs.LimitLemmas.{stays_on, stays_bare}
use Rattle.iso_search.proofs.MovedLemmas.{met_behind}
use Rattle.iso_search.proofs.NewestLemmas.{lists_same, choices_same, steps_same, tried_falls, called_full, stays_full}
use Rattle.iso_search.proofs.Moves.Offer.{rights_keep}
use Rattle.iso_search.proofs.Moves.Show.{first_tried}
use Rattle.iso_search.proofs.StoppedLemmas.{keeps_bare}
use Rattle.iso_search.proofs.search.Search.show.Goals as goal

-- ---- no choice was made

pub returns-in-Ok-false-clause-called : goal.returns-in-Ok-false-clause-called
returns-in-Ok-false-clause-called g c = λ s k x xs t.
    (let e = c.args.self.now in
    let over = c.push_shown.ensures.over s k x xs t (c.in-Ok-false.is ∙ ap Ok c.in-Ok-false.field-0-test) in
    rw c.full_frames.ensures.is (called_full g.S.Store g.L.Lists c.full_frames.ensures.is over.0 c.full_frames.ensures.spent s s (keeps_ahead g.S.Store g.L.Lists e s c.args.place t.ahead)))

pub returns-in-Ok-false-clause-frames : goal.returns-in-Ok-false-clause-frames
returns-in-Ok-false-clause-frames g c = λ s k x xs t.
    (let over = c.push_shown.ensures.over s k x xs t (c.in-Ok-false.is ∙ ap Ok c.in-Ok-false.field-0-test) in
    rw c.full_frames.ensures.is (over.1, over.2))

pub returns-in-Ok-false-clause-met : goal.returns-in-Ok-false-clause-met
returns-in-Ok-false-clause-met g c = rw c.full_frames.ensures.is tt

pub returns-in-Ok-false-clause-stays : goal.returns-in-Ok-false-clause-stays
returns-in-Ok-false-clause-stays g c =
    let b = c.requires in
    let over = c.push_shown.ensures.over b.0 b.1 b.2 b.3 b.4 (c.in-Ok-false.is ∙ ap Ok c.in-Ok-false.field-0-test) in
    stays_full g.S.Store g.L.Lists c.full_frames.ensures.is over.0 c.full_frames.ensures.spent

pub returns-in-Err-clause-stays : goal.returns-in-Err-clause-stays
returns-in-Err-clause-stays g c = stays_bare g.S.Store c.clear.new.self c.clear.ensures.items c.push_shown.ensures.stays

pub returns-in-Err-clause-kept : goal.returns-in-Err-clause-kept
returns-in-Err-clause-kept g c = λ s k x xs t.
    (let remains = c.in-Err.ensures.kept s k x xs t in
    let row = shown_row (g.S.Store.present c.args.self.now.store) c.args.shown in
    let rights = offers_of c.args.shown k (x ∷ xs) in
    let counted = offered_built row rights s.list s in (
      keeps_bare g.S.Store g.L.Lists c.push_shown.new.self c.clear.new.self s.world s.stack c.clear.ensures.items remains.0,
      fits_more g.S.Store (g.S.Store.present c.push_shown.new.self.store) 0 s (offered row rights s.list s) (offered_query row rights s.list s) (omega (arith, counted)) remains.1,
    ))

-- ---- the first clause is shown

pub show_clause-requires : goal.show_clause-requires
show_clause-requires g c =
    let b = c.requires in (
      with_rights (shown_row (g.S.Store.present c.args.self.now.store) c.args.shown) (offers_of c.args.shown b.1 b.3) (b.0).list b.0,
      b.1,
      b.2,
      b.3,
      c.push_shown.ensures.shows b.0 b.1 b.2 b.3 b.4 (c.in-Ok-true.is ∙ ap Ok c.in-Ok-true.field-0-test),
    )

pub returns-in-Err-show_clause-clause-kept : goal.returns-in-Err-show_clause-clause-kept
returns-in-Err-show_clause-clause-kept g c = λ s k x xs t.
    (let row = shown_row (g.S.Store.present c.args.self.now.store) c.args.shown in
    let mid = with_rights row (offers_of c.args.shown k xs) s.list s in
    let meets = c.push_shown.ensures.shows s k x xs t (c.in-Ok-true.is ∙ ap Ok c.in-Ok-true.field-0-test) in
    let remains = c.in-Err-show_clause.ensures.kept mid k x xs meets in
    let kept = keeps_bare g.S.Store g.L.Lists c.show_clause.new.self c.clear-in-Err-show_clause.new.self mid.world mid.stack c.clear-in-Err-show_clause.ensures.items remains.0 in
    let other = shown_row (g.S.Store.present c.push_shown.new.self.store) c.args.shown in
    let same : other ≡ row = ap (λ (q : _). shown_row q c.args.shown) c.push_shown.ensures.present in (
      subst (λ (v : World). Keeps g.S.Store g.L.Lists (record c.show_clause.new.self { choices = c.clear-in-Err-show_clause.new.self }) v []) (rights_keep row (offers_of c.args.shown k xs) s).1 kept,
      subst (λ (v : State). FitsState g.S.Store (g.S.Store.present c.show_clause.new.self.store) 0 v) (first_tried c.args.shown row other k x xs s same) remains.1,
    ))

pub returns-in-Err-show_clause-clause-stays : goal.returns-in-Err-show_clause-clause-stays
returns-in-Err-show_clause-clause-stays g c =
    stays_bare g.S.Store c.clear-in-Err-show_clause.new.self c.clear-in-Err-show_clause.ensures.items (stays_on g.S.Store c.push_shown.ensures.stays c.show_clause.ensures.stays)

pub returns-in-Err-show_clause-clause-met : goal.returns-in-Err-show_clause-clause-met
returns-in-Err-show_clause-clause-met g c =
    met_behind g.S.Store g.L.Lists (Err c.in-Err-show_clause.fault) c.in-Err-show_clause.fault (record c.show_clause.new.self { choices = c.clear-in-Err-show_clause.new.self }) refl
    (λ full. c.show_clause.ensures.full (c.in-Err-show_clause.is ∙ ap Err full))

pub returns-clause-called : goal.returns-clause-called
returns-clause-called g c = λ s k x xs t.
    (let row = shown_row (g.S.Store.present c.args.self.now.store) c.args.shown in
    let mid = with_rights row (offers_of c.args.shown k xs) s.list s in
    let meets = c.push_shown.ensures.shows s k x xs t (c.in-Ok-true.is ∙ ap Ok c.in-Ok-true.field-0-test) in
    let other = shown_row (g.S.Store.present c.push_shown.new.self.store) c.args.shown in
    let same : other ≡ row = ap (λ (q : _). shown_row q c.args.shown) c.push_shown.ensures.present in
    let there = first_tried c.args.shown row other k x xs s same in
    (subst (λ (y : State). StandsAs g.S.Store g.L.Lists c.show_clause.new.self y) there (c.in_default.ensures.tried mid k x xs meets), c.in_default.ensures.awake))

pub returns-clause-falls : goal.returns-clause-falls
returns-clause-falls g c =
    let pushed = c.push_shown.ensures in
    let shown = c.in_default.ensures in
    tried_falls g.L.Lists c.args.self.now c.push_shown.new.self c.show_clause.new.self c.args.place (lists_same pushed.same) (lists_same shown.same) (choices_same shown.same) shown.cost (steps_same shown.same ∙ steps_same pushed.same) pushed.costs

pub returns-clause-stays : goal.returns-clause-stays
returns-clause-stays g c = stays_on g.S.Store c.push_shown.ensures.stays c.show_clause.ensures.stays
