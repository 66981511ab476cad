use Rattle.std.proofs.Common.{◌≡◌, ◌∷◌, ◌++◌, [], sym, ap, ◌∙◌}
use Rattle.iso_store_core.specs.Presents.{meaning}
use Rattle.iso_store.proofs.UnifyLemmas.{Opened, opened, no_tasks, steps-alone, steps-opened, stands-alone, stands-opened, stands-same, steps-same}
use Rattle.iso_store.specs.declared.unify.Task.TheVariants.{Arguments}
use Rattle.iso_store.proofs.OrderLemmas.{order-same, order-alone, order-opened}
use Rattle.iso_store.proofs.unify.leave_arguments.Given.{Over}
use Rattle.iso_store.proofs.unify.leave_arguments.Goals.{Start, In_ok-push}
use Rattle.iso_store.proofs.unify.leave_arguments.Goals as goal

-- ---- the two are joined
pub returns-then-are_at_one_place-clause-stands : goal.returns-then-are_at_one_place-clause-stands
returns-then-are_at_one_place-clause-stands g c =
    let equal = sym c.end_of_joins-one.ensures.value ∙ c.are_at_one_place.ensures c.if-are_at_one_place.true ∙ c.end_of_joins-other.ensures.value in
    stands-same _ _ _ _ _ _ _ equal c.requires.stands c.end_of_joins-other.ensures.joined

pub returns-then-are_at_one_place-clause-steps : goal.returns-then-are_at_one_place-clause-steps
returns-then-are_at_one_place-clause-steps g c =
    let equal = sym c.end_of_joins-one.ensures.value ∙ c.are_at_one_place.ensures c.if-are_at_one_place.true ∙ c.end_of_joins-other.ensures.value in
    steps-same _ _ c.args.joined.now c.end_of_joins-other.new.joined _ _ _ equal c.requires.stands

pub returns-then-are_at_one_place-clause-order : goal.returns-then-are_at_one_place-clause-order
returns-then-are_at_one_place-clause-order g c =
    let equal = sym c.end_of_joins-one.ensures.value ∙ c.are_at_one_place.ensures c.if-are_at_one_place.true ∙ c.end_of_joins-other.ensures.value in
    order-same (g.S.Primitives.present c.args.store.now) _ _ c.args.tasks.now.items equal

-- ---- else their arguments are left
apart : (g : Over) (c : Start g) → Opened c.args.count (meaning (g.S.Primitives.present c.args.store.now) c.args.one) (meaning (g.S.Primitives.present c.args.store.now) c.args.other)
apart g c = opened c.args.count (meaning (g.S.Primitives.present c.args.store.now) c.args.one) (meaning (g.S.Primitives.present c.args.store.now) c.args.other) c.requires.meeting c.requires.one_term c.requires.other_term

pub returns-clause-stands : goal.returns-clause-stands
returns-clause-stands g c =
    stands-opened (g.S.Primitives.present c.args.store.now) _ _ _ _ _ _ _ _ c.end_of_joins-one.ensures.value c.end_of_joins-other.ensures.value (apart g (goal.at.returns-clause-stands g c).Start) c.in_ok-push-2.ensures.items c.in_ok-push-3.ensures.items _ c.args.joined.now c.end_of_joins-other.new.joined
    c.end_of_joins-one.ensures.holds c.end_of_joins-other.ensures.holds c.requires.stands c.end_of_joins-other.ensures.joined

pub returns-clause-steps : goal.returns-clause-steps
returns-clause-steps g c =
    steps-opened (g.S.Primitives.present c.args.store.now) _ _ _ _ _ _ _ _ c.end_of_joins-one.ensures.value c.end_of_joins-other.ensures.value (apart g (goal.at.returns-clause-steps g c).Start) c.in_ok-push-2.ensures.items c.in_ok-push-3.ensures.items

pub returns-clause-order : goal.returns-clause-order
returns-clause-order g c =
    order-opened (g.S.Primitives.present c.args.store.now) _ _ _ _ _ _ _ _ c.end_of_joins-one.ensures.value c.end_of_joins-other.ensures.value (apart g (goal.at.returns-clause-order g c).Start) c.in_ok-push-2.ensures.items c.in_ok-push-3.ensures.items

-- ---- nothing else is left
alone : (g : Over) (c : In_ok-push g) → (c.args.tasks.now.items ≡ []) × (c.push.new.self.items ≡ Arguments c.end_of_joins-one.result c.end_of_joins-other.result 0 c.args.count ∷ [])
alone g c =
    let none = no_tasks c.args.tasks.now.items _ c.is_empty.result c.args.tasks.now.ok.0 c.is_empty.ensures c.if-is_empty.true in
    (none, c.in_ok-push.ensures.items ∙ ap (λ ks. ks ++ Arguments c.end_of_joins-one.result c.end_of_joins-other.result 0 c.args.count ∷ []) none)

pub returns-then-is_empty-clause-stands : goal.returns-then-is_empty-clause-stands
returns-then-is_empty-clause-stands g c =
    let at = goal.at.returns-then-is_empty-clause-stands g c in
    stands-alone (g.S.Primitives.present c.args.store.now) _ _ _ _ _ _ c.end_of_joins-one.ensures.value c.end_of_joins-other.ensures.value (apart g at.Start) (alone g at.In_ok-push).1 _ c.end_of_joins-other.new.joined
    c.end_of_joins-one.ensures.holds c.end_of_joins-other.ensures.holds c.end_of_joins-other.ensures.joined

pub returns-then-is_empty-clause-steps : goal.returns-then-is_empty-clause-steps
returns-then-is_empty-clause-steps g c =
    let at = goal.at.returns-then-is_empty-clause-steps g c in
    let only = alone g at.In_ok-push in
    rw only.0 (steps-alone (g.S.Primitives.present c.args.store.now) _ _ _ _ _ _ c.end_of_joins-one.ensures.value c.end_of_joins-other.ensures.value (apart g at.Start) only.1)

pub returns-then-is_empty-clause-order : goal.returns-then-is_empty-clause-order
returns-then-is_empty-clause-order g c =
    let at = goal.at.returns-then-is_empty-clause-order g c in
    let only = alone g at.In_ok-push in
    rw only.0 (order-alone (g.S.Primitives.present c.args.store.now) _ _ _ _ _ _ c.end_of_joins-one.ensures.value c.end_of_joins-other.ensures.value (apart g at.Start) only.1)
