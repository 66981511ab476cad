use Rattle.std.proofs.Common.{◌∷◌, ◌∙◌}
use Rattle.iso_model.specs.Search.Walker.{Leave}
use Rattle.iso_search.proofs.FindLemmas.{behind_none, behind_end, end_passes, end_catches, goes_past}
use Rattle.iso_search.proofs.search.Search.find_catch.Goals as goal

pub returns-in-Some-leave : goal.returns-in-Some-leave
returns-in-Some-leave g c = λ s ball behind has list.
    (let height = c.in-Some-leave.height in
    let first = c.loop-past.invariant behind list in
    let passes = c.in-Some.ensures.passes (g.S.Store.present c.args.self.now.store) first.0 first.1 in
    let catches = rw c.if-catches_at.true at c.catches_at.ensures in
    goes_past ball behind (Leave height ∷ passes.rest) s height (first.2 s ball has ∙ behind_end passes ball s height c.in-Some-leave.is) (end_catches g.L.Lists height ball passes.rest s has.1 catches))

pub loop-past-preserved-in_default-leave : goal.loop-past-preserved-in_default-leave
loop-past-preserved-in_default-leave g c = λ behind list.
    (let height = c.in-Some-leave.height in
    let first = c.loop-past.invariant behind list in
    let passes = c.in-Some.ensures.passes (g.S.Store.present c.args.self.now.store) first.0 first.1 in
    let none = rw c.if-catches_at.false at c.catches_at.ensures in
    (passes.rest, passes.are, λ s ball has. first.2 s ball has ∙ (behind_end passes ball s height c.in-Some-leave.is ∙ end_passes g.L.Lists height ball passes.rest s has.1 none)))

pub loop-past-preserved : goal.loop-past-preserved
loop-past-preserved g c = λ behind list.
    (let first = c.loop-past.invariant behind list in
    let passes = c.in-Some.ensures.passes (g.S.Store.present c.args.self.now.store) first.0 first.1 in
    (passes.rest, passes.are, λ s ball has. first.2 s ball has ∙ behind_none passes ball s c.in_default-leave.is))
