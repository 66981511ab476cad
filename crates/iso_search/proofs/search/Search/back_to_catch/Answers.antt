use Rattle.std.proofs.Common.{◌+◌, refl, ap, sym, ◌∙◌, arith}
use Rattle.iso_search_core.specs.Costs.{choices_cost}
use Rattle.iso_model.specs.Search.Walker.{fails, shortened}
use Rattle.iso_search.specs.EngineStates.{IsAhead, went_back}
use Rattle.iso_search.specs.declared.search.Search.{Search}
use Rattle.iso_search_core.specs.declared.choices.Left.TheVariants as left
use Rattle.iso_search_core.proofs.StandingLemmas.{choices_length}
use Rattle.iso_search.proofs.BackLemmas.{newest_at, tried_same}
use Rattle.iso_search.proofs.RaiseLemmas.{back_at, cut_fails, still_stand, still_raised, entry_is, caught_there, kept_ball}
use Rattle.iso_search.proofs.StoppedLemmas.{keeps_all}
use Rattle.iso_search.proofs.search.Search.back_to_catch.Goals as goal

pub overflow_add-height : goal.overflow_add-height
overflow_add-height g c =
    let choices = c.args.self.now.choices in
    let many = choices_length g.L.Lists (c.requires.goes.3).choices in
    let inside = (c.requires.goes.5).within in
    omega (arith, many, choices.small, choices.ok.0, choices.ok.1, inside)

pub cut_to-requires : goal.cut_to-requires
cut_to-requires g c =
    let s = c.requires.goes.0 in
    (s.world, s.stack, keeps_all g.S.Store g.L.Lists c.args.self.now s c.requires.goes.3)

pub go_back-newest-requires-clause-some : goal.go_back-newest-requires-clause-some
go_back-newest-requires-clause-some g c =
    let many = still_stand g.S.Store g.L.Lists c.requires.goes.5 c.args.self.now c.cut_to.new.self c.requires.goes.3 (λ t is. c.cut_to.ensures.failing t is refl) in
    omega (arith, many)

pub go_back-newest-requires-clause-failing : goal.go_back-newest-requires-clause-failing
go_back-newest-requires-clause-failing g c = (
  record (fails c.requires.goes.0) { stack = shortened (c.args.height + 1) c.requires.goes.0.stack },
  cut_fails g.S.Store g.L.Lists c.requires.goes.5 c.args.self.now c.cut_to.new.self c.requires.goes.3 (λ t is. c.cut_to.ensures.failing t is refl),
)

pub index-requires : goal.index-requires
index-requires g c =
    let two = c.go_back-newest.new.self in
    let newest = c.go_back-newest.result in
    let at = back_at g.S.Store g.L.Lists c.requires.goes.5 c.args.self.now c.cut_to.new.self c.requires.goes.3 (λ t is. c.cut_to.ensures.failing t is refl) two newest.mark newest.rest c.go_back-newest.ensures.choices c.go_back-newest.ensures.back in
    let many = at.many in
    omega (arith, many, two.choices.ok.0)

pub unreachable-requires : goal.unreachable-requires
unreachable-requires g c =
    let way = c.requires.goes.5 in
    let two = c.go_back-newest.new.self in
    let newest = c.go_back-newest.result in
    let at = back_at g.S.Store g.L.Lists way c.args.self.now c.cut_to.new.self c.requires.goes.3 (λ t is. c.cut_to.ensures.failing t is refl) two newest.mark newest.rest c.go_back-newest.ensures.choices c.go_back-newest.ensures.back in
    let t = record (fails c.requires.goes.0) { stack = shortened (c.args.height + 1) c.requires.goes.0.stack } in
    let same = newest_at g.S.Store g.L.Lists two at.choice t way.alternative way.below at.went c.args.height c.index.result.now at.many c.index.ensures in
    let entry = entry_is g.S.Store g.L.Lists two at.choice t way.alternative way.below at.went way.catcher way.recovery way.left c.index.result.now.left (ap (λ (x : _). x.left) (sym same)) in
    c.in_default.not-Catching entry.0 entry.1

pub drop_choice-requires-clause-some : goal.drop_choice-requires-clause-some
drop_choice-requires-clause-some g c =
    let two = c.go_back-newest.new.self in
    let newest = c.go_back-newest.result in
    let at = back_at g.S.Store g.L.Lists c.requires.goes.5 c.args.self.now c.cut_to.new.self c.requires.goes.3 (λ t is. c.cut_to.ensures.failing t is refl) two newest.mark newest.rest c.go_back-newest.ensures.choices c.go_back-newest.ensures.back in
    let many = at.many in
    omega (arith, many)

pub drop_choice-requires-clause-back : goal.drop_choice-requires-clause-back
drop_choice-requires-clause-back g c =
    let way = c.requires.goes.5 in
    let newest = c.go_back-newest.result in
    let at = back_at g.S.Store g.L.Lists way c.args.self.now c.cut_to.new.self c.requires.goes.3 (λ t is. c.cut_to.ensures.failing t is refl) c.go_back-newest.new.self newest.mark newest.rest c.go_back-newest.ensures.choices c.go_back-newest.ensures.back in
    (at.choice, record (fails c.requires.goes.0) { stack = shortened (c.args.height + 1) c.requires.goes.0.stack }, way.alternative, way.below, at.mark_is, at.went)

pub returns-clause-back : goal.returns-clause-back
returns-clause-back g c = λ s ball behind is list way.
    (let e = c.args.self.now in
    let two = c.go_back-newest.new.self in
    let newest = c.go_back-newest.result in
    let new = c.drop_choice.new.self in
    let at = back_at g.S.Store g.L.Lists way e c.cut_to.new.self is (λ t h. c.cut_to.ensures.failing t h refl) two newest.mark newest.rest c.go_back-newest.ensures.choices c.go_back-newest.ensures.back in
    let t = record (fails s) { stack = shortened (c.args.height + 1) s.stack } in
    let same = newest_at g.S.Store g.L.Lists two at.choice t way.alternative way.below at.went c.args.height c.index.result.now at.many c.index.ensures in
    let there = c.drop_choice.ensures.ahead at.choice t way.alternative way.below at.mark_is at.went in
    let ahead : IsAhead g.S.Store g.L.Lists new (went_back way.alternative way.below s) newest.rest = rw at.rest_is at there in
    let raised = kept_ball g.S.Store g.L.Lists e s ball behind c.requires.now.0 c.requires.now.1 is list in
    rw raised.2 at (caught_there g.S.Store g.L.Lists two at.choice t way.alternative way.below at.went way.catcher way.recovery way.left new c.in-Catching.goal newest.rest raised.0
    (ap (λ (x : _). x.left) (sym same) ∙ c.in-Catching.is) ahead c.drop_choice.ensures.present c.drop_choice.ensures.same
    (still_raised g.S.Store g.L.Lists e c.cut_to.new.self two c.cut_to.ensures.same c.go_back-newest.ensures.raised ∙ raised.1) raised.3))

pub returns-clause-costs : goal.returns-clause-costs
returns-clause-costs g c =
    let way = c.requires.goes.5 in
    let two = c.go_back-newest.new.self in
    let newest = c.go_back-newest.result in
    let at = back_at g.S.Store g.L.Lists way c.args.self.now c.cut_to.new.self c.requires.goes.3 (λ t is. c.cut_to.ensures.failing t is refl) two newest.mark newest.rest c.go_back-newest.ensures.choices c.go_back-newest.ensures.back in
    let t = record (fails c.requires.goes.0) { stack = shortened (c.args.height + 1) c.requires.goes.0.stack } in
    let same = newest_at g.S.Store g.L.Lists two at.choice t way.alternative way.below at.went c.args.height c.index.result.now at.many c.index.ensures in
    let all = c.drop_choice.ensures.costs at.choice at.went.newest in
    let here = tried_same (g.L.Lists.cost two.lists) (at.choice).left (left.Catching c.in-Catching.goal) (at.choice).rest newest.rest (ap (λ (x : _). x.left) (sym same) ∙ c.in-Catching.is) at.rest_is in
    let lists = ap (λ (e : Search _ _ _ _ _ _ _ _ _ _). g.L.Lists.cost e.lists newest.rest) c.drop_choice.ensures.same in
    let kept = ap (λ (v : _). choices_cost (g.L.Lists.cost two.lists) v.items) c.go_back-newest.ensures.choices in
    rw lists (omega (arith, all, here, c.cut_to.ensures.costs, c.go_back-newest.ensures.costs, kept))
