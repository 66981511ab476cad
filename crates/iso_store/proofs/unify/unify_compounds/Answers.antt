use Rattle.std.proofs.Common.{◌≡◌, ◌∷◌, ◌++◌, [], refl, sym, ap, ◌∙◌}
use Rattle.std.proofs.lemmas.List.{nil_from_length}
use Rattle.iso_model.specs.Terms.Substitutions.{compose}
use Rattle.iso_store_core.specs.Presents.{meaning}
use Rattle.iso_store.specs.declared.unify.Task.TheVariants.{Arguments}
use Rattle.iso_store.proofs.Bound.{binds-then, grows-then}
use Rattle.iso_store.proofs.Gathering.{grows-none}
use Rattle.iso_store.proofs.LeftLemmas.{left-then, left-nothing, cost-measures}
use Rattle.iso_store.proofs.UnifyLemmas.{opened, steps-alone, stands-alone}
use Rattle.iso_store.proofs.unify.unify_compounds.Goals as goal

pub working-init : goal.working-init
working-init g c =
    let p = g.S.Primitives.present c.args.store.now in
    let one = c.args.one in
    let other = c.args.other in
    let apart = opened c.args.count (meaning p one) (meaning p other) c.requires.meeting c.requires.one_term c.requires.other_term in
    let alone : c.clear.new.self.items ++ Arguments one other 0 c.args.count ∷ [] ≡ Arguments one other 0 c.args.count ∷ [] = ap (λ ks. ks ++ Arguments one other 0 c.args.count ∷ []) c.clear.ensures.items in
    let steps = steps-alone p (c.clear.new.self.items ++ Arguments one other 0 c.args.count ∷ []) one other c.args.count (meaning p one) (meaning p other) refl refl apart alone in
    record {
      bound = steps.bound;
      stands = stands-alone p (c.clear.new.self.items ++ Arguments one other 0 c.args.count ∷ []) one other c.args.count (meaning p one) (meaning p other) refl refl apart alone (g.S.Primitives.at_place c.args.store.now) _ c.requires.one c.requires.other (λ k w e. absurd (let both = sym (c.begin.ensures k) ∙ e in cc));
      cells = grows-none _;
      names = refl;
      marks = λ m q h. h;
    }

pub working-smaller : goal.working-smaller
working-smaller g c =
    let steps = rw (c.if-not-branch.false, c.in-Some.ensures.items) at c.in_ok-do_task.ensures.steps in
    steps.falls _ cost-measures

pub working-preserved : goal.working-preserved
working-preserved g c =
    let steps = rw (c.if-not-branch.false, c.in-Some.ensures.items) at c.in_ok-do_task.ensures.steps in
    let b = c.working.invariant.bound in
    record {
      bound = (compose b.0 steps.bound.0, left-then b.1 steps.bound.1, binds-then b.2 steps.bound.2);
      stands = rw c.in-Some.ensures.items at (c.in_ok-do_task.ensures.stands c.if-not-branch.false);
      cells = grows-then c.working.invariant.cells c.do_task.ensures.cells;
      names = c.do_task.ensures.names ∙ c.working.invariant.names;
      marks = λ m p h. c.do_task.ensures.marks m p (c.working.invariant.marks m p h);
    }

pub returns-in_default-clause-unified : goal.returns-in_default-clause-unified
returns-in_default-clause-unified g c =
    let none : c.do_task.new.tasks.items ≡ [] = nil_from_length _ (sym c.do_task.new.tasks.ok.0 ∙ c.in_default.ensures.cases.0) in
    let steps = rw (c.if-not-branch.false, none) at c.in_ok-do_task.ensures.steps in
    let b = c.working.invariant.bound in
    (compose b.0 steps.bound.0, left-nothing _ _ (compose b.0 steps.bound.0) (left-then b.1 steps.bound.1), binds-then b.2 steps.bound.2)
