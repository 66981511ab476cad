use Rattle.std.proofs.Common.{◌+◌, ◌∷◌, [], ◌++◌, refl, ap, ◌∙◌, arith, inl, inr}
use Rattle.iso_store_core.specs.Presents.{meaning}
use Rattle.iso_store_core.specs.Arguments.{argument}
use Rattle.iso_store.specs.declared.unify.Task.TheVariants.{Arguments}
use Rattle.iso_store.specs.Unifying.{IsPair}
use Rattle.iso_store.proofs.Bound.{grows-then}
use Rattle.iso_store.proofs.Gathering.{grows-none}
use Rattle.iso_store.proofs.UnifyLemmas.{All-last, never-popped}
use Rattle.iso_store.proofs.EndLemmas.{begin-end, end-kept}
use Rattle.iso_store.proofs.PairLemmas.{Behind, leads-none, leads-steps, leads-never, steps-lead, stands-noted, stands-behind, steps-behind, stands-equal, steps-equal, equal-met, compounds-met}
use Rattle.iso_store.proofs.unify.unify_arguments.Goals.{then-index-count-2+in_ok-push-in-Compounds, else-index-count-2}
use Rattle.iso_store.proofs.unify.unify_arguments.Goals as goal

pub meeting-init : goal.meeting-init
meeting-init g c = record {
  one = begin-end _ _ _ _ c.requires.pair.3 c.end-one_end.ensures.holds c.end-one_end.ensures.same c.end-one_end.ensures.made;
  other = begin-end _ _ _ _ c.requires.pair.4 c.end-other_end.ensures.holds c.end-other_end.ensures.same c.end-other_end.ensures.made;
  pair = c.requires.pair;
  stands = c.requires.stands;
  leads = leads-none _ _;
  cells = grows-none _;
  names = refl;
  marks = λ m p h. h;
}

-- ---- a pair is equal
pub returns-in-Equal-clause-stands : goal.returns-in-Equal-clause-stands
returns-in-Equal-clause-stands g c =
    let p = g.S.Primitives.present c.meeting.store in
    let loop = c.meeting.invariant in
    let first = c.end_of_arg-first.ensures.value ∙ ap (argument c.meeting.index) loop.one.same in
    let second = c.end_of_arg-second.ensures.value ∙ ap (argument c.meeting.index) loop.other.same in
    let xs = c.meeting.tasks.items in
    let met = rw c.in-Equal.is at c.in_ok-meet_ends.ensures.met in
    let joins = c.in_ok-meet_ends.ensures.joined loop.stands.joins (equal-met _ c.in-Equal.is) in
    λ t. stands-equal p xs xs c.args.one c.args.other c.meeting.index c.args.count loop.pair.2 loop.pair.3 loop.pair.4 _ _ first second (inl (c.if-index-count.true, refl)) _ _ loop.stands met _ _ joins

pub returns-in-Equal-clause-steps : goal.returns-in-Equal-clause-steps
returns-in-Equal-clause-steps g c =
    let p = g.S.Primitives.present c.meeting.store in
    let loop = c.meeting.invariant in
    let first = c.end_of_arg-first.ensures.value ∙ ap (argument c.meeting.index) loop.one.same in
    let second = c.end_of_arg-second.ensures.value ∙ ap (argument c.meeting.index) loop.other.same in
    let xs = c.meeting.tasks.items in
    let met = rw c.in-Equal.is at c.in_ok-meet_ends.ensures.met in
    leads-steps loop.leads
    (steps-equal p xs xs c.args.one c.args.other c.meeting.index c.args.count loop.pair.2 loop.pair.3 loop.pair.4 _ _ first second (inl (c.if-index-count.true, refl)) _ _ loop.stands met)

pub meeting-preserved : goal.meeting-preserved
meeting-preserved g c =
    let p = g.S.Primitives.present c.meeting.store in
    let q = g.S.Primitives.present c.meet_ends.new.store in
    let loop = c.meeting.invariant in
    let first = c.end_of_arg-first.ensures.value ∙ ap (argument c.meeting.index) loop.one.same in
    let second = c.end_of_arg-second.ensures.value ∙ ap (argument c.meeting.index) loop.other.same in
    let xs = c.meeting.tasks.items in
    let later = Arguments c.args.one c.args.other (c.meeting.index + 1) c.args.count in
    let met = rw c.in-Equal.is at c.in_ok-meet_ends.ensures.met in
    let joins = c.in_ok-meet_ends.ensures.joined loop.stands.joins (equal-met _ c.in-Equal.is) in
    let behind : Behind c.args.one c.args.other (c.meeting.index + 1) c.args.count xs (xs ++ later ∷ []) = inr (omega (arith, loop.pair.2, c.if-index-count.false), refl) in
    let stands =
    stands-equal p xs (xs ++ later ∷ []) c.args.one c.args.other c.meeting.index c.args.count loop.pair.2 loop.pair.3 loop.pair.4 (meaning p c.end_of_arg-first.result) (meaning p c.end_of_arg-second.result) first second behind _ c.meeting.notes.joined loop.stands met
    (g.S.Primitives.at_place c.meet_ends.new.store) c.meet_ends.new.notes.joined joins in
    record {
      one = end-kept _ _ _ met.2 loop.pair.0 loop.one;
      other = end-kept _ _ _ met.2 loop.pair.1 loop.other;
      pair = All-last (IsPair q) xs later stands.pairs;
      stands = stands;
      leads =
          steps-lead
          (leads-steps loop.leads
          (steps-equal p xs (xs ++ later ∷ []) c.args.one c.args.other c.meeting.index c.args.count loop.pair.2 loop.pair.3 loop.pair.4 _ _ first second behind _ _ loop.stands met));
      cells = grows-then loop.cells c.in_ok-meet_ends.ensures.cells;
      names = c.in_ok-meet_ends.ensures.names ∙ loop.names;
      marks = λ m k h. c.in_ok-meet_ends.ensures.marks m k (loop.marks m k h);
    }

-- ---- nothing makes it equal
pub returns-in-Never-clause-steps : goal.returns-in-Never-clause-steps
returns-in-Never-clause-steps g c =
    let p = g.S.Primitives.present c.meeting.store in
    let loop = c.meeting.invariant in
    let first = c.end_of_arg-first.ensures.value ∙ ap (argument c.meeting.index) loop.one.same in
    let second = c.end_of_arg-second.ensures.value ∙ ap (argument c.meeting.index) loop.other.same in
    let never = rw c.in-Never.is at c.in_ok-meet_ends.ensures.met in
    leads-never loop.leads
    (never-popped p c.meeting.tasks.items c.args.one c.args.other c.meeting.index c.args.count loop.pair.2 loop.pair.3 loop.pair.4 (meaning p c.end_of_arg-first.result) (meaning p c.end_of_arg-second.result) first second never)

-- ---- both are compounds
pub leave_arguments-requires-clause-stands : goal.leave_arguments-requires-clause-stands
leave_arguments-requires-clause-stands g c =
    let p = g.S.Primitives.present c.meeting.store in
    let loop = c.meeting.invariant in
    let first = c.end_of_arg-first.ensures.value ∙ ap (argument c.meeting.index) loop.one.same in
    let second = c.end_of_arg-second.ensures.value ∙ ap (argument c.meeting.index) loop.other.same in
    let met = rw c.in-Compounds.is at c.in_ok-meet_ends.ensures.met in
    let joins = rw met.0 at (c.in_ok-meet_ends.ensures.joined loop.stands.joins (compounds-met c.in-Compounds.many _ c.in-Compounds.is)) in
    let behind : Behind c.args.one c.args.other (c.meeting.index + 1) c.args.count c.meeting.tasks.items c.if-index-count-2.tasks.items =
    elim c.if-index-count-2.branch [
      | then-index-count-2+in_ok-push-in-Compounds w ↦ inr (w.if-index-count-2.true, rw w.tasks-is w.in_ok-push-in-Compounds.ensures.items)
      | else-index-count-2 w ↦ inl (omega (arith, loop.pair.2, w.if-index-count-2.false), rw w.tasks-is refl)
    ] in
    rw met.0
    (stands-noted
    (stands-behind p c.meeting.tasks.items c.if-index-count-2.tasks.items c.args.one c.args.other c.meeting.index c.args.count loop.pair.2 loop.pair.3 loop.pair.4 _ _ first second behind _ _ loop.stands) joins)

pub returns-in-Compounds-clause-steps : goal.returns-in-Compounds-clause-steps
returns-in-Compounds-clause-steps g c =
    let p = g.S.Primitives.present c.meeting.store in
    let loop = c.meeting.invariant in
    let first = c.end_of_arg-first.ensures.value ∙ ap (argument c.meeting.index) loop.one.same in
    let second = c.end_of_arg-second.ensures.value ∙ ap (argument c.meeting.index) loop.other.same in
    let met = rw c.in-Compounds.is at c.in_ok-meet_ends.ensures.met in
    let behind : Behind c.args.one c.args.other (c.meeting.index + 1) c.args.count c.meeting.tasks.items c.if-index-count-2.tasks.items =
    elim c.if-index-count-2.branch [
      | then-index-count-2+in_ok-push-in-Compounds w ↦ inr (w.if-index-count-2.true, rw w.tasks-is w.in_ok-push-in-Compounds.ensures.items)
      | else-index-count-2 w ↦ inl (omega (arith, loop.pair.2, w.if-index-count-2.false), rw w.tasks-is refl)
    ] in
    let steps = rw met.0 at c.in_ok-leave_arguments-in-Compounds.ensures.steps in
    rw met.0
    (leads-steps loop.leads
    (steps-behind p c.meeting.tasks.items c.if-index-count-2.tasks.items c.args.one c.args.other c.meeting.index c.args.count loop.pair.2 loop.pair.3 loop.pair.4 _ _ first second behind _ _ steps))
