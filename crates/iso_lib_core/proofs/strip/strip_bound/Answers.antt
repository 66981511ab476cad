use Rattle.std.proofs.Common.{sym, ap, ◌∙◌}
use Rattle.iso_model.specs.Terms.Variables.{distinct_from}
use Rattle.iso_store_core.specs.Presents.{meaning}
use Rattle.iso_lib_core.proofs.StripLemmas.{none_bound}
use Rattle.iso_lib_core.proofs.strip.strip_bound.Goals as goal

pub returns-clause-bound : goal.returns-clause-bound
returns-clause-bound g c =
    let rest = meaning (g.S.Store.present c.args.store.now) c.loop-term.rest in
    sym (ap (distinct_from c.loop-term.bound) (none_bound rest c.in_default.ensures.parts)) ∙ c.loop-term.invariant.bound
