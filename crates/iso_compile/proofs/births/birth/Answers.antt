use Rattle.std.proofs.Common.{rules, false, ap, ◌∙◌, sym, arith}
use Rattle.iso_compile.specs.Expressions.{step_parts}
use Rattle.iso_compile.specs.Births.{has}
use Rattle.iso_compile.proofs.MarkLemmas.{default_apart}
use Rattle.iso_compile.proofs.births.birth.Goals as goal

pub returns : goal.returns
returns c = (
  c.in-Is-Old-default.steps,
  (search rules),
  record {
    within = omega (arith, c.if-variable-spans.false);
    high = c.if-high-address.false;
    barrier = omega (arith, c.if-low-barriers.false);
    inside = omega (arith, c.if-address-barriers.false);
    unmet = default_apart c.args.met.now c.in-Is-Old-default.variable false false (omega (arith, c.if-variable-met.false)) (sym c.if-met-variable.false);
    apart = ap (λ ks. has c.in-Is-Old-default.variable (step_parts ks)) (sym c.as_slice.ensures.value) ∙ sym c.has_variable.ensures ∙ c.if-has_variable.false;
    placed = sym c.is_placed.ensures ∙ c.if-not-is_placed.false;
  },
)
