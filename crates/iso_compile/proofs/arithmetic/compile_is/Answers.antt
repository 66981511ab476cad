use Rattle.std.proofs.Common.{rules, ◌≡◌, true, [], ◌∷◌, ◌++◌, map, codes, refl, ap, sym, ◌∙◌}
use Rattle.iso_model.specs.Terms.TermOf.{term_of}
use Rattle.iso_compile.specs.Emitting.{all_placed, without_voids}
use Rattle.iso_compile.specs.Expressions.{step_of, steps_of, step_parts, is_known}
use Rattle.iso_compile.specs.Tasks.{is_atomic}
use Rattle.iso_compile.proofs.EvaluationLemmas.{is_comes, is_occurs, right_occur}
use Rattle.iso_compile.proofs.ExpressionLemmas.{marks_with_none}
use Rattle.iso_compile.proofs.VoidLemmas.{twice_again}
use Rattle.iso_compile.proofs.arithmetic.compile_is.Goals as goal

pub returns-then-not-is_known-clause-met : goal.returns-then-not-is_known-clause-met
returns-then-not-is_known-clause-met c =
    let places = c.args.plan.now.places in
    let ps = step_parts c.emit_steps.new.steps.items in
    twice_again places ps (c.in_ok-part.part ∷ []) c.part_in.new.met.items c.forget_steps.new.met.items c.forget_part.new.met.items (c.part_in.ensures.many ∙ c.emit_steps.ensures.many ∙ c.requires.many)
    (c.in_ok-part.ensures.marks (all_placed places) ps (c.in_ok-is_known.ensures.marks (marks_with_none places c.new-steps.result.items c.args.met.now.items c.new-steps.ensures.items c.requires)))
    (c.forget_steps.ensures ∙ ap (λ ks. without_voids c.part_in.new.met.items (step_parts ks)) c.as_slice.ensures.value) c.forget_part.ensures

pub returns-clause-made : goal.returns-clause-made
returns-clause-made c =
    let l = term_of c.args.left.now in
    let r = term_of c.args.right.now in
    let atomic : is_atomic l ≡ true = search rules in
    let known : is_known r ≡ true = sym c.in_ok-is_known.ensures.known ∙ c.if-not-is_known.false in
    let places = c.args.plan.now.places in
    let marking = c.in_ok-part.ensures.marks (all_placed places) (step_parts c.emit_steps.new.steps.items) (c.in_ok-is_known.ensures.marks (marks_with_none places c.new-steps.result.items c.args.met.now.items c.new-steps.ensures.items c.requires)) in
    let made = c.in_ok-is_known.ensures.steps c.if-not-is_known.false
    ∙ ap (λ ks. map step_of ks ++ steps_of r) c.new-steps.ensures.items in
    record {
      some = rw (atomic, known) refl;
      comes = (
        refl,
        is_comes c.in_ok-part.part c.emit_steps.new.steps.items l r atomic c.in_ok-part.ensures.part known made,
        is_occurs c.in_ok-part.part l r c.in_ok-part.ensures.part,
        right_occur (codes "is") c.emit_steps.new.steps.items l r made,
      );
      right = record { marked = marking.marked; behind = tt };
    }

pub returns-clause-met : goal.returns-clause-met
returns-clause-met c =
    let places = c.args.plan.now.places in
    let ps = step_parts c.emit_steps.new.steps.items in
    twice_again places ps (c.in_ok-part.part ∷ []) c.part_in.new.met.items c.forget_steps.new.met.items c.forget_part.new.met.items (c.part_in.ensures.many ∙ c.emit_steps.ensures.many ∙ c.requires.many)
    (c.in_ok-part.ensures.marks (all_placed places) ps (c.in_ok-is_known.ensures.marks (marks_with_none places c.new-steps.result.items c.args.met.now.items c.new-steps.ensures.items c.requires)))
    (c.forget_steps.ensures ∙ ap (λ ks. without_voids c.part_in.new.met.items (step_parts ks)) c.as_slice.ensures.value) c.forget_part.ensures
