use Rattle.std.proofs.Common.{rules, ◌≡◌, ◌<◌, ap, sym, ◌∙◌, arith, length, None, get_or}
use Rattle.iso_model.specs.Terms.Trees.{count}
use Rattle.iso_model.specs.Terms.TermOf.{row_of}
use Rattle.iso_model.proofs.OnTerms.RowLemmas.{count_row_of}
use Rattle.iso_prep.specs.Classes.{class_of, goals_of, last_goal}
use Rattle.iso_alloc.specs.Plans.{arguments_of, argument_from}
use Rattle.iso_alloc.proofs.PlanLemmas.{first_plan}
use Rattle.iso_alloc.proofs.plans.assign.Goals as goal

pub loop-variable-init : goal.loop-variable-init
loop-variable-init c =
    let p = c.args.prepared.now in
    let arguments : row_of c.head_arguments-arguments.result.now ≡ arguments_of p.head = c.head_arguments-arguments.ensures ∙ ap arguments_of c.head.ensures in
    let many : count (arguments_of p.head) ≡ length c.head_arguments-arguments.result.now = sym (ap count arguments) ∙ count_row_of c.head_arguments-arguments.result.now in (
      first_plan (record { places = c.in_ok-with_capacity.field-0.items; slots = 0; registers = length c.head_arguments-arguments.result.now }) p c.in_ok-with_capacity.ensures.items
          (omega (arith, many)),
      omega arith,
      omega arith,
    )

pub loop-variable-preserved : goal.loop-variable-preserved
loop-variable-preserved c =
    let p = c.args.prepared.now in
    let x = c.loop-variable.variable in
    let arguments : row_of c.head_arguments-arguments.result.now ≡ arguments_of p.head = c.head_arguments-arguments.ensures ∙ ap arguments_of c.head.ensures in
    let class = c.class.ensures ∙ ap (λ q. class_of x q.head (goals_of q.body)) c.in_ok-uses.ensures in
    let last = c.last_use.ensures ∙ ap (λ q. last_goal x (goals_of q.body)) c.in_ok-uses.ensures in
    let low : x < c.variables-count.result = search rules in
    let argument : get_or c.deref-argument-items.result.now x None ≡ argument_from 0 x (arguments_of p.head) =
    ap (λ os. get_or os x None) c.deref-argument-items.ensures.value ∙ c.in_ok-first.ensures.found x low ∙ ap (argument_from 0 x) arguments in
    let before = c.loop-variable.invariant in
    let slots = before.1 in
    let registers = before.2 in
    let more = c.in_ok-give.ensures.slots in
    let further = c.in_ok-give.ensures.registers in
    (c.in_ok-give.ensures.plan (record p { variables = x }) before.0 class last argument, omega (arith, slots, more), omega (arith, registers, further))
