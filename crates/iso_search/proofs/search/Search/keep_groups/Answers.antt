use Rattle.std.proofs.Common.{rules, ◌≡◌, ◌<◌, ◌≤◌, length, refl, sym, subst, arith}
use Rattle.std.proofs.lemmas.Result.{on_ok_weaker}
use Rattle.iso_model.specs.Search.Walker.{State, Groups}
use Rattle.iso_program.proofs.ResultLemmas.{behind_error}
use Rattle.iso_store_core.specs.Presents.{Present}
use Rattle.iso_search_core.specs.declared.choices.Left.TheVariants as left
use Rattle.iso_search_core.specs.Fitting.{FitsState}
use Rattle.iso_search_core.specs.Standing.{grouping_of, groups_in}
use Rattle.iso_search_core.proofs.FittingLemmas.{fits_more}
use Rattle.iso_search.specs.EngineStates.{IsAhead}
use Rattle.iso_search.proofs.AheadLemmas.{ahead_left, remains_ahead}
use Rattle.iso_search.proofs.GroupSteps.{kept_some}
use Rattle.iso_search.proofs.Moves.Grouped.{groups_count, groups_there}
use Rattle.iso_search.proofs.StoppedLemmas.{base_kept}
use Rattle.iso_search.proofs.WeightLemmas.{gained_cost}
use Rattle.iso_search.proofs.WorldLemmas.{world_on}
use Rattle.iso_search.proofs.search.Search.keep_groups.Goals as goal

pub returns-clause-meets : goal.returns-clause-meets
returns-clause-meets g c = λ s h.
    (let e = c.args.self.now in
    let how = grouping_of (g.S.Store.present e.store) c.args.by in
    let gs = groups_in c.args.others.items in
    let some : 0 < length c.args.others.items = search rules in
    let many = groups_count c.args.others.items in
    let is = kept_some how gs s.list s (omega (arith, some, many)) in
    let new = record e { store = c.keep_choice.new.store; choices = c.keep_choice.new.choices } in
    on_ok_weaker c.keep_choice.result
    (λ gains. subst (λ (y : State). IsAhead g.S.Store g.L.Lists new y c.args.rest) (sym is)
    (ahead_left g.S.Store g.L.Lists e s c.args.rest c.keep_choice.new.store c.keep_choice.new.choices
    (left.Groups c.args.by c.args.others) (Groups how gs) (g.met.L.Lists.all e.lists) (g.met.L.Lists.top e.lists) h.ahead
    (groups_there _ _ (g.S.Store.present e.store) c.args.by c.args.others _ h.witness h.result h.each some refl)
    h.space c.keep_choice.ensures.present c.keep_choice.ensures.rest.marks c.keep_choice.ensures.rest.names
    (rw c.kept-kept.ensures at gains)))
    c.keep_choice.ensures.gains)

pub returns-clause-kept : goal.returns-clause-kept
returns-clause-kept g c = λ s t h query built.
    (let e = c.args.self.now in
    let rest = c.keep_choice.ensures.rest in
    let fits = fits_more g.S.Store (g.S.Store.present e.store) 0 s t (sym query) built (remains_ahead g.S.Store g.L.Lists e s c.args.rest h.ahead).1 in
    behind_error c.keep_choice.result (record {
      world = world_on g.L.Lists rest.names h.ahead.world;
      base = base_kept g.S.Store e.store c.keep_choice.new.store e.base rest.marks h.ahead.base;
      fits = subst (λ (p : Present _). FitsState g.S.Store p 0 t) (sym c.keep_choice.ensures.present) fits;
    }))

pub returns-clause-costs : goal.returns-clause-costs
returns-clause-costs g c =
    on_ok_weaker c.keep_choice.result
    (λ gains. (let all = gained_cost (g.L.Lists.cost c.args.self.now.lists) gains in omega (arith, all)))
    c.keep_choice.ensures.gains
