use Rattle.std.proofs.Common.{◌≡◌, ◌∙◌, ◌+◌, suc, [], ◌∷◌, length, ap, sym, subst, arith}
use Rattle.std.proofs.lemmas.List.{length-append}
use Rattle.std.proofs.lemmas.Result.{on_ok_weaker, on_err_weaker}
use Rattle.iso_model.specs.Search.Walker.{State}
use Rattle.iso_program.proofs.ResultLemmas.{behind_error}
use Rattle.iso_search_core.specs.Standing.{grouping_of, groups_in}
use Rattle.iso_search.specs.EngineStates.{IsEngine}
use Rattle.iso_search.specs.declared.search.Search.{Search}
use Rattle.iso_search.specs.Groups.{met_groups}
use Rattle.iso_search.proofs.GroupSteps.{grouped_more, grouped_query}
use Rattle.iso_search.proofs.Moves.Grouped.{behind_others, first_stops, first_target, meets_one, meets_others, met_pays, ok_both}
use Rattle.iso_search.proofs.NewestLemmas.{lists_same, choices_same, steps_same}
use Rattle.iso_search.proofs.search.Search.meet_first.Goals as goal

pub returns-in_err-keep_groups-clause-kept : goal.returns-in_err-keep_groups-clause-kept
returns-in_err-keep_groups-clause-kept g c = λ s h.
    (let e = c.args.self.now in
    let others = meets_others g.S.Store g.L.Lists e c.args.by c.args.groups.items c.pop.new.self.items c.in-Some.first c.in-Some.ensures.items s c.args.rest h in
    let how = grouping_of (g.S.Store.present e.store) c.args.by in
    let gs = groups_in c.args.groups.items in
    behind_error c.from_residual.result
    (c.in_err-keep_groups.ensures.kept s (met_groups g.S.Store g.L.Lists e c.args.by c.args.groups.items s) others
    (sym (grouped_query how gs s.list s)) (grouped_more how gs s.list s)))

pub try_group-requires : goal.try_group-requires
try_group-requires g c =
    let e = c.args.self.now in
    let s = c.requires.meets.0 in
    let h = c.requires.meets.1 in
    let made = c.in_ok-keep_groups.ensures in
    let others = meets_others g.S.Store g.L.Lists e c.args.by c.args.groups.items c.pop.new.self.items c.in-Some.first c.in-Some.ensures.items s c.args.rest h in
    record {
      meets = (
        behind_others g.S.Store g.L.Lists e c.args.by c.args.groups.items c.pop.new.self.items c.in-Some.first c.in-Some.ensures.items s c.args.rest h,
        meets_one g.S.Store g.L.Lists e c.args.by c.args.groups.items c.pop.new.self.items c.in-Some.first c.in-Some.ensures.items s c.args.rest h c.keep_groups.new.self (steps_same made.same) made.present (made.meets s others),
      );
    }

pub returns-clause-met : goal.returns-clause-met
returns-clause-met g c = λ s h.
    (let e = c.args.self.now in
    let made = c.in_ok-keep_groups.ensures in
    let others = meets_others g.S.Store g.L.Lists e c.args.by c.args.groups.items c.pop.new.self.items c.in-Some.first c.in-Some.ensures.items s c.args.rest h in
    let one = meets_one g.S.Store g.L.Lists e c.args.by c.args.groups.items c.pop.new.self.items c.in-Some.first c.in-Some.ensures.items s c.args.rest h c.keep_groups.new.self (steps_same made.same) made.present (made.meets s others) in
    let is = first_target g.S.Store g.L.Lists e c.args.by c.args.groups.items c.pop.new.self.items c.in-Some.first c.in-Some.ensures.items s c.args.rest h (g.S.Store.present c.keep_groups.new.self.store) made.present in
    on_ok_weaker c.try_group.result (λ k. subst (λ (y : State). IsEngine g.S.Store g.L.Lists c.try_group.new.self y) is k)
    (c.try_group.ensures.tried (behind_others g.S.Store g.L.Lists e c.args.by c.args.groups.items c.pop.new.self.items c.in-Some.first c.in-Some.ensures.items s c.args.rest h) one))

pub returns-clause-kept : goal.returns-clause-kept
returns-clause-kept g c = λ s h.
    (let e = c.args.self.now in
    let made = c.in_ok-keep_groups.ensures in
    let others = meets_others g.S.Store g.L.Lists e c.args.by c.args.groups.items c.pop.new.self.items c.in-Some.first c.in-Some.ensures.items s c.args.rest h in
    let one = meets_one g.S.Store g.L.Lists e c.args.by c.args.groups.items c.pop.new.self.items c.in-Some.first c.in-Some.ensures.items s c.args.rest h c.keep_groups.new.self (steps_same made.same) made.present (made.meets s others) in
    let is = first_target g.S.Store g.L.Lists e c.args.by c.args.groups.items c.pop.new.self.items c.in-Some.first c.in-Some.ensures.items s c.args.rest h (g.S.Store.present c.keep_groups.new.self.store) made.present in
    on_err_weaker c.try_group.result
    (λ k. first_stops g.S.Store g.L.Lists e c.args.by c.args.groups.items c.pop.new.self.items c.in-Some.first c.in-Some.ensures.items s c.args.rest h c.try_group.new.self _ is k)
    (c.try_group.ensures.kept (behind_others g.S.Store g.L.Lists e c.args.by c.args.groups.items c.pop.new.self.items c.in-Some.first c.in-Some.ensures.items s c.args.rest h) one))

pub returns-clause-some : goal.returns-clause-some
returns-clause-some g c =
    let e = c.args.self.now in
    let mid = c.keep_groups.new.self in
    let all = length-append c.pop.new.self.items (c.in-Some.first ∷ []) in
    let split = ap length c.in-Some.ensures.items in
    let many : length c.args.groups.items ≡ suc (length c.pop.new.self.items) = omega (arith, all, split) in
    on_ok_weaker c.try_group.result
    (λ less more. met_pays g.L.Lists e mid c.try_group.new.self c.args.rest (length c.pop.new.self.items) (length c.args.groups.items)
    (lists_same c.in_ok-keep_groups.ensures.same) (lists_same c.try_group.ensures.same) (choices_same c.try_group.ensures.same) many c.in_ok-keep_groups.ensures.costs less)
    c.try_group.ensures.cost
