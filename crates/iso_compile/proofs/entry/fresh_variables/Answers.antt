use Rattle.std.proofs.Common.{◌∙◌}
use Rattle.iso_compile.proofs.EntryLemmas.{met_more}
use Rattle.iso_compile.proofs.entry.fresh_variables.Goals as goal

pub loop-variable-preserved : goal.loop-variable-preserved
loop-variable-preserved c =
    let before = c.loop-variable.invariant in (
      c.in_ok-add_fresh.ensures.marks c.args.met.now.items before.0,
      met_more c.args.plan.now.places c.args.born.now c.loop-variable.met.items c.add_fresh.new.met.items c.loop-variable.variable before.1 c.add_fresh.ensures.kept c.in_ok-add_fresh.ensures.met,
      (λ x is. c.add_fresh.ensures.born x is ∙ before.2 x is),
      c.in_ok-add_fresh.ensures.new before.3,
      c.add_fresh.ensures.many ∙ before.4,
    )
