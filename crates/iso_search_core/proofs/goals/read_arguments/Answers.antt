use Rattle.std.proofs.Common.{◌∙◌, ap, map}
use Rattle.iso_model.specs.Terms.Trees.{row}
use Rattle.iso_model.specs.Terms.Arguments.{arguments, joined}
use Rattle.iso_store_core.specs.Presents.{meaning}
use Rattle.iso_store_core.proofs.ArgumentLemmas.{words-are}
use Rattle.iso_search_core.proofs.goals.read_arguments.Goals as goal

pub returns-clause-arguments : goal.returns-clause-arguments
returns-clause-arguments g c =
    let p = g.S.Store.present c.args.store.now in
    let t = meaning p c.args.goal in
    words-are p c.push_arguments.new.words.items t c.in_ok-push_arguments.ensures.hold
    (c.in_ok-push_arguments.ensures.values ∙ ap (λ ws. joined (row (map (meaning p) ws)) (arguments t)) c.clear.ensures.items)
