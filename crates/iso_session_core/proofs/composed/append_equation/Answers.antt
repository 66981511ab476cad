use Rattle.std.proofs.Common.{◌∙◌, ap, ◌++◌}
use Rattle.iso_model.specs.Terms.TermOf.{term_of}
use Rattle.iso_session_core.proofs.SolutionLemmas.{value_found, value_missing, value_seen, equation_text}
use Rattle.iso_session_core.proofs.composed.append_equation.Goals as goal

pub returns-in-Some-clause-text : goal.returns-in-Some-clause-text
returns-in-Some-clause-text c =
    let named = c.in_ok-extend_from_slice.ensures.items ∙ ap (λ z. c.args.line.now.items ++ z) c.as_bytes.ensures.value in
    equation_text c.append_term.result c.args.ops.now c.args.seen.now c.args.line.now.items c.args.name.now _ _ _ (term_of c.in-Some.value.now) _
    (value_found c.args.values.now c.args.number c.in-Some.value.now c.in-Some.ensures.lookup.3.0 c.in-Some.ensures.lookup.1) named c.in_ok-extend_from_slice-2.ensures.items c.append_term.ensures.text

pub returns-in-None-clause-seen : goal.returns-in-None-clause-seen
returns-in-None-clause-seen c =
    value_seen c.append_term-in-None.result c.args.seen.now _ _ _ (value_missing c.args.values.now c.args.number c.new.result c.in-None.ensures.lookup.3 c.new.ensures.bytes)
    c.append_term-in-None.ensures.seen

pub returns-in-None-clause-text : goal.returns-in-None-clause-text
returns-in-None-clause-text c =
    let named = c.in_ok-extend_from_slice.ensures.items ∙ ap (λ z. c.args.line.now.items ++ z) c.as_bytes.ensures.value in
    equation_text c.append_term-in-None.result c.args.ops.now c.args.seen.now c.args.line.now.items c.args.name.now _ _ _ _ _
    (value_missing c.args.values.now c.args.number c.new.result c.in-None.ensures.lookup.3 c.new.ensures.bytes) named c.in_ok-extend_from_slice-2.ensures.items c.append_term-in-None.ensures.text
