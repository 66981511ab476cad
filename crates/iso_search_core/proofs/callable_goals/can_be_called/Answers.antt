use Rattle.std.proofs.Common.{sym, ◌∙◌, vec_len}
use Rattle.iso_store_core.specs.Presents.{meaning}
use Rattle.iso_prep.specs.Conversions.{is_callable}
use Rattle.iso_search_core.proofs.CallableWords.{parts_left, parts_less, last_left, last_less}
use Rattle.iso_search_core.proofs.callable_goals.can_be_called.Goals as goal

pub looking-preserved-in_ok-push-in-Some-control : goal.looking-preserved-in_ok-push-in-Some-control
looking-preserved-in_ok-push-in-Some-control g c =
    let q = g.S.Store.present c.args.store.now in
    parts_left q c.looking.parts.items c.push.new.self.items c.in-Some.part c.in-Some-control.whole c.in-Some-control.ensures c.in_ok-push-in-Some-control.ensures.items
    (is_callable (meaning q c.args.goal)) (rw c.in-Some.is at c.looking.invariant)

pub looking-smaller-in_ok-push-in-Some-control : goal.looking-smaller-in_ok-push-in-Some-control
looking-smaller-in_ok-push-in-Some-control g c =
    let q = g.S.Store.present c.args.store.now in
    rw c.in-Some.is (parts_less q c.looking.parts.items c.push.new.self.items c.in-Some.part c.in-Some-control.whole c.in-Some-control.ensures c.in_ok-push-in-Some-control.ensures.items)

pub looking-preserved : goal.looking-preserved
looking-preserved g c =
    let q = g.S.Store.present c.args.store.now in
    last_left q c.looking.parts.items c.pop-next.new.self.items c.in-Some.part (vec_len c.looking.parts) (vec_len c.pop-next.new.self) c.pop-next.result
    (is_callable (meaning q c.args.goal)) (sym (c.is_goal.ensures c.in-None.ensures) ∙ c.if-is_goal.true) c.pop-next.ensures.items c.looking.parts.ok.0 c.pop-next.ensures.cases (rw c.in-Some.is at c.looking.invariant)

pub looking-smaller : goal.looking-smaller
looking-smaller g c =
    let q = g.S.Store.present c.args.store.now in
    rw c.in-Some.is (last_less q c.looking.parts.items c.pop-next.new.self.items c.in-Some.part c.pop-next.result c.pop-next.ensures.items)
