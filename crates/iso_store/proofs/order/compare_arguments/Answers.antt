use Rattle.std.proofs.Common.{◌≡◌, ◌+◌, ◌∷◌, [], ◌++◌, refl, ap, sym, ◌∙◌, arith, inl, inr}
use Rattle.iso_model.proofs.OnTerms.OrderLemmas.{identical}
use Rattle.iso_store_core.specs.Presents.{meaning}
use Rattle.iso_store_core.specs.Arguments.{argument}
use Rattle.iso_store.specs.declared.unify.Task.TheVariants.{Arguments}
use Rattle.iso_store.specs.Comparing.{order_left}
use Rattle.iso_store.specs.Unifying.{IsPair}
use Rattle.iso_store.proofs.OrderLemmas.{alike, order-behind, order-equal, order-decided}
use Rattle.iso_store.proofs.EndLemmas.{begin-end}
use Rattle.iso_store.proofs.PairLemmas.{Behind, leads-none, leads-steps, steps-lead, stands-behind, steps-behind, stands-equal, steps-equal, met-same}
use Rattle.iso_store.proofs.UnifyLemmas.{All-last}
use Rattle.iso_store.proofs.order.compare_arguments.Goals.{then-index-count-2+in_ok-push-in-Arguments, else-index-count-2}
use Rattle.iso_store.proofs.order.compare_arguments.Goals as goal

pub comparing-init : goal.comparing-init
comparing-init g c = record {
  one = begin-end _ _ _ _ c.requires.pair.3 c.end-one_end.ensures.holds c.end-one_end.ensures.same c.end-one_end.ensures.made;
  other = begin-end _ _ _ _ c.requires.pair.4 c.end-other_end.ensures.holds c.end-other_end.ensures.same c.end-other_end.ensures.made;
  pair = c.requires.pair;
  stands = c.requires.stands;
  leads = leads-none _ _;
  order = refl;
}

-- ---- a pair decides
pub returns-in-Decided-clause-order : goal.returns-in-Decided-clause-order
returns-in-Decided-clause-order g c =
    let p = g.S.Primitives.present c.args.store.now in
    let loop = c.comparing.invariant in
    let first = c.end_of_arg-first.ensures.value ∙ ap (argument c.comparing.index) loop.one.same in
    let second = c.end_of_arg-second.ensures.value ∙ ap (argument c.comparing.index) loop.other.same in
    let xs = c.comparing.tasks.items in
    order-decided p xs c.args.one c.args.other c.comparing.index c.args.count loop.pair.2 loop.pair.3 loop.pair.4 (meaning p c.end_of_arg-first.result) (meaning p c.end_of_arg-second.result) first second
    c.in-Decided.order (order_left p [] [] xs) (sym c.ne.ensures ∙ c.if-ne.true) c.in-Decided.ensures.comparison
    ∙ loop.order

-- ---- a pair is one term
pub returns-in-Decided-2-clause-stands : goal.returns-in-Decided-2-clause-stands
returns-in-Decided-2-clause-stands g c =
    let p = g.S.Primitives.present c.args.store.now in
    let loop = c.comparing.invariant in
    let first = c.end_of_arg-first.ensures.value ∙ ap (argument c.comparing.index) loop.one.same in
    let second = c.end_of_arg-second.ensures.value ∙ ap (argument c.comparing.index) loop.other.same in
    let xs = c.comparing.tasks.items in
    let same : meaning p c.end_of_arg-first.result ≡ meaning p c.end_of_arg-second.result = identical _ _ (sym c.in-Decided.ensures.comparison ∙ alike c.in-Decided.order (sym c.ne.ensures ∙ c.if-ne.false)) in
    λ t. stands-equal p xs xs c.args.one c.args.other c.comparing.index c.args.count loop.pair.2 loop.pair.3 loop.pair.4 _ _ first second (inl (c.if-index-count.true, refl)) _ _ loop.stands (met-same p _ _ same) _ _
    loop.stands.joins

pub returns-in-Decided-2-clause-steps : goal.returns-in-Decided-2-clause-steps
returns-in-Decided-2-clause-steps g c =
    let p = g.S.Primitives.present c.args.store.now in
    let loop = c.comparing.invariant in
    let first = c.end_of_arg-first.ensures.value ∙ ap (argument c.comparing.index) loop.one.same in
    let second = c.end_of_arg-second.ensures.value ∙ ap (argument c.comparing.index) loop.other.same in
    let xs = c.comparing.tasks.items in
    let same : meaning p c.end_of_arg-first.result ≡ meaning p c.end_of_arg-second.result = identical _ _ (sym c.in-Decided.ensures.comparison ∙ alike c.in-Decided.order (sym c.ne.ensures ∙ c.if-ne.false)) in
    λ t. leads-steps loop.leads
    (steps-equal p xs xs c.args.one c.args.other c.comparing.index c.args.count loop.pair.2 loop.pair.3 loop.pair.4 _ _ first second (inl (c.if-index-count.true, refl)) _ _ loop.stands (met-same p _ _ same))

pub returns-in-Decided-2-clause-order : goal.returns-in-Decided-2-clause-order
returns-in-Decided-2-clause-order g c =
    let p = g.S.Primitives.present c.args.store.now in
    let loop = c.comparing.invariant in
    let first = c.end_of_arg-first.ensures.value ∙ ap (argument c.comparing.index) loop.one.same in
    let second = c.end_of_arg-second.ensures.value ∙ ap (argument c.comparing.index) loop.other.same in
    let xs = c.comparing.tasks.items in
    let same : meaning p c.end_of_arg-first.result ≡ meaning p c.end_of_arg-second.result = identical _ _ (sym c.in-Decided.ensures.comparison ∙ alike c.in-Decided.order (sym c.ne.ensures ∙ c.if-ne.false)) in
    order-equal p xs c.args.one c.args.other c.comparing.index c.args.count loop.pair.2 loop.pair.3 loop.pair.4 (meaning p c.end_of_arg-first.result) (meaning p c.end_of_arg-second.result) first second xs
    (inl (c.if-index-count.true, refl)) same
    ∙ loop.order

pub comparing-preserved : goal.comparing-preserved
comparing-preserved g c =
    let p = g.S.Primitives.present c.args.store.now in
    let loop = c.comparing.invariant in
    let first = c.end_of_arg-first.ensures.value ∙ ap (argument c.comparing.index) loop.one.same in
    let second = c.end_of_arg-second.ensures.value ∙ ap (argument c.comparing.index) loop.other.same in
    let xs = c.comparing.tasks.items in
    let later = Arguments c.args.one c.args.other (c.comparing.index + 1) c.args.count in
    let same : meaning p c.end_of_arg-first.result ≡ meaning p c.end_of_arg-second.result = identical _ _ (sym c.in-Decided.ensures.comparison ∙ alike c.in-Decided.order (sym c.ne.ensures ∙ c.if-ne.false)) in
    let behind : Behind c.args.one c.args.other (c.comparing.index + 1) c.args.count xs (xs ++ later ∷ []) = inr (omega (arith, loop.pair.2, c.if-index-count.false), refl) in
    let stands =
    stands-equal p xs (xs ++ later ∷ []) c.args.one c.args.other c.comparing.index c.args.count loop.pair.2 loop.pair.3 loop.pair.4 (meaning p c.end_of_arg-first.result) (meaning p c.end_of_arg-second.result) first second behind _ c.comparing.joined loop.stands (met-same p _ _ same)
    (g.S.Primitives.at_place c.args.store.now) c.comparing.joined loop.stands.joins in
    record {
      one = loop.one;
      other = loop.other;
      pair = All-last (IsPair p) xs later stands.pairs;
      stands = stands;
      leads =
          steps-lead
          (leads-steps loop.leads
          (steps-equal p xs (xs ++ later ∷ []) c.args.one c.args.other c.comparing.index c.args.count loop.pair.2 loop.pair.3 loop.pair.4 _ _ first second behind _ _ loop.stands (met-same p _ _ same)));
      order =
          order-equal p xs c.args.one c.args.other c.comparing.index c.args.count loop.pair.2 loop.pair.3 loop.pair.4 (meaning p c.end_of_arg-first.result) (meaning p c.end_of_arg-second.result) first second (xs ++ later ∷ [])
          behind same
          ∙ loop.order;
    }

-- ---- both are compounds
pub leave_arguments-requires-clause-stands : goal.leave_arguments-requires-clause-stands
leave_arguments-requires-clause-stands g c =
    let p = g.S.Primitives.present c.args.store.now in
    let loop = c.comparing.invariant in
    let first = c.end_of_arg-first.ensures.value ∙ ap (argument c.comparing.index) loop.one.same in
    let second = c.end_of_arg-second.ensures.value ∙ ap (argument c.comparing.index) loop.other.same in
    let behind : Behind c.args.one c.args.other (c.comparing.index + 1) c.args.count c.comparing.tasks.items c.if-index-count-2.tasks.items =
    elim c.if-index-count-2.branch [
      | then-index-count-2+in_ok-push-in-Arguments w ↦ inr (w.if-index-count-2.true, rw w.tasks-is w.in_ok-push-in-Arguments.ensures.items)
      | else-index-count-2 w ↦ inl (omega (arith, loop.pair.2, w.if-index-count-2.false), rw w.tasks-is refl)
    ] in
    stands-behind p c.comparing.tasks.items c.if-index-count-2.tasks.items c.args.one c.args.other c.comparing.index c.args.count loop.pair.2 loop.pair.3 loop.pair.4 _ _ first second behind _ _ loop.stands

pub returns-in-Arguments-clause-steps : goal.returns-in-Arguments-clause-steps
returns-in-Arguments-clause-steps g c =
    let p = g.S.Primitives.present c.args.store.now in
    let loop = c.comparing.invariant in
    let first = c.end_of_arg-first.ensures.value ∙ ap (argument c.comparing.index) loop.one.same in
    let second = c.end_of_arg-second.ensures.value ∙ ap (argument c.comparing.index) loop.other.same in
    let behind : Behind c.args.one c.args.other (c.comparing.index + 1) c.args.count c.comparing.tasks.items c.if-index-count-2.tasks.items =
    elim c.if-index-count-2.branch [
      | then-index-count-2+in_ok-push-in-Arguments w ↦ inr (w.if-index-count-2.true, rw w.tasks-is w.in_ok-push-in-Arguments.ensures.items)
      | else-index-count-2 w ↦ inl (omega (arith, loop.pair.2, w.if-index-count-2.false), rw w.tasks-is refl)
    ] in
    λ t. leads-steps loop.leads
    (steps-behind p c.comparing.tasks.items c.if-index-count-2.tasks.items c.args.one c.args.other c.comparing.index c.args.count loop.pair.2 loop.pair.3 loop.pair.4 _ _ first second behind _ _
    c.in_ok-leave_arguments-in-Arguments.ensures.steps)

pub returns-in-Arguments-clause-order : goal.returns-in-Arguments-clause-order
returns-in-Arguments-clause-order g c =
    let p = g.S.Primitives.present c.args.store.now in
    let loop = c.comparing.invariant in
    let first = c.end_of_arg-first.ensures.value ∙ ap (argument c.comparing.index) loop.one.same in
    let second = c.end_of_arg-second.ensures.value ∙ ap (argument c.comparing.index) loop.other.same in
    let behind : Behind c.args.one c.args.other (c.comparing.index + 1) c.args.count c.comparing.tasks.items c.if-index-count-2.tasks.items =
    elim c.if-index-count-2.branch [
      | then-index-count-2+in_ok-push-in-Arguments w ↦ inr (w.if-index-count-2.true, rw w.tasks-is w.in_ok-push-in-Arguments.ensures.items)
      | else-index-count-2 w ↦ inl (omega (arith, loop.pair.2, w.if-index-count-2.false), rw w.tasks-is refl)
    ] in
    c.in_ok-leave_arguments-in-Arguments.ensures.order
    ∙ order-behind p c.comparing.tasks.items c.args.one c.args.other c.comparing.index c.args.count loop.pair.2 loop.pair.3 loop.pair.4 (meaning p c.end_of_arg-first.result) (meaning p c.end_of_arg-second.result) first second
    c.if-index-count-2.tasks.items behind
    ∙ loop.order
