use Rattle.std.proofs.Common.{map, not, ap, ◌∙◌}
use Rattle.std.specs.List.{filter}
use Rattle.iso_model.specs.Terms.Trees.{Variable}
use Rattle.iso_model.specs.Terms.Variables.{is_in, distinct_from, variables}
use Rattle.iso_model.specs.Search.Groups.{bound_terms}
use Rattle.iso_store_core.specs.Presents.{meaning}
use Rattle.iso_lib_core.proofs.StripLemmas.{free_are}
use Rattle.iso_lib_core.proofs.strip.strip.Goals as goal

pub returns-clause-free : goal.returns-clause-free
returns-clause-free g c =
    let m = meaning (g.S.Store.present c.args.store.now) in
    let bound = c.strip_bound.new.bound in
    let noted = c.in_ok-note.ensures.numbers ∙ ap (λ vs. distinct_from vs (m c.args.template)) c.new-bound.ensures in
    let are = c.in_ok-stripped.ensures.bound ∙ ap (λ vs. distinct_from vs (bound_terms (m c.args.goal))) noted in
    c.in_ok-free.ensures.free ∙ ap (λ t. map Variable (filter (λ x. not (is_in x bound)) (variables t))) c.in_ok-stripped.ensures.goal
    ∙ ap (map Variable) (free_are (m c.args.template) (m c.args.goal) bound are)
