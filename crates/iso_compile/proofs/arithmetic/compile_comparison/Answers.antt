use Rattle.std.proofs.Common.{◌≡◌, true, ◌++◌, map, refl, ap, sym, ◌∙◌}
use Rattle.iso_model.specs.Terms.TermOf.{term_of}
use Rattle.iso_model.specs.Search.Library.{comparison_name}
use Rattle.iso_compile.specs.Emitting.{without_voids}
use Rattle.iso_compile.specs.Expressions.{step_of, steps_of, step_parts, is_known}
use Rattle.iso_compile.proofs.EvaluationLemmas.{compare_comes, both_occur, comparison_in_line}
use Rattle.iso_compile.proofs.ExpressionLemmas.{marks_with_none}
use Rattle.iso_compile.proofs.VoidLemmas.{once_again}
use Rattle.iso_compile.proofs.arithmetic.compile_comparison.Goals as goal

pub returns-then-not-is_left_known-clause-met : goal.returns-then-not-is_left_known-clause-met
returns-then-not-is_left_known-clause-met c =
    let places = c.args.plan.now.places in
    once_again places (step_parts c.emit_steps-2.new.steps.items) c.emit_steps-2.new.met.items c.forget_steps.new.met.items (c.emit_steps-2.ensures.many ∙ c.emit_steps.ensures.many ∙ c.requires.many)
    (c.in_ok-is_right_known.ensures.marks (c.in_ok-is_left_known.ensures.marks (marks_with_none places c.new-steps.result.items c.args.met.now.items c.new-steps.ensures.items c.requires)))
    (c.forget_steps.ensures ∙ ap (λ ks. without_voids c.emit_steps-2.new.met.items (step_parts ks)) c.as_slice.ensures.value)

pub returns-clause-made : goal.returns-clause-made
returns-clause-made c =
    let l = term_of c.args.left.now in
    let r = term_of c.args.right.now in
    let left : is_known l ≡ true = sym c.in_ok-is_left_known.ensures.known ∙ c.if-not-is_left_known.false in
    let right : is_known r ≡ true = sym c.in_ok-is_right_known.ensures.known ∙ c.if-not-is_right_known.false in
    let places = c.args.plan.now.places in
    let marking = c.in_ok-is_right_known.ensures.marks (c.in_ok-is_left_known.ensures.marks (marks_with_none places c.new-steps.result.items c.args.met.now.items c.new-steps.ensures.items c.requires)) in
    let made = c.in_ok-is_right_known.ensures.steps c.if-not-is_right_known.false
    ∙ ap (λ ks. ks ++ steps_of r) (c.in_ok-is_left_known.ensures.steps c.if-not-is_left_known.false
    ∙ ap (λ ks. map step_of ks ++ steps_of l) c.new-steps.ensures.items) in
    record {
      some = sym (comparison_in_line c.args.comparison l r ∙ rw (left, right) refl);
      comes = (
        refl,
        compare_comes c.args.comparison c.emit_steps-2.new.steps.items l r left right made,
        both_occur (comparison_name c.args.comparison) c.emit_steps-2.new.steps.items l r made,
      );
      right = record { marked = marking.marked; behind = tt };
    }

pub returns-clause-met : goal.returns-clause-met
returns-clause-met c =
    let places = c.args.plan.now.places in
    once_again places (step_parts c.emit_steps-2.new.steps.items) c.emit_steps-2.new.met.items c.forget_steps.new.met.items (c.emit_steps-2.ensures.many ∙ c.emit_steps.ensures.many ∙ c.requires.many)
    (c.in_ok-is_right_known.ensures.marks (c.in_ok-is_left_known.ensures.marks (marks_with_none places c.new-steps.result.items c.args.met.now.items c.new-steps.ensures.items c.requires)))
    (c.forget_steps.ensures ∙ ap (λ ks. without_voids c.emit_steps-2.new.met.items (step_parts ks)) c.as_slice.ensures.value)
