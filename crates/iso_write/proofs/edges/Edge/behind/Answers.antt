use Rattle.std.proofs.Common.{unwrap_or, ap, ◌∙◌}
use Rattle.iso_write.proofs.EdgeLemmas.{last_is, edge_with}
use Rattle.iso_write.proofs.edges.Edge.behind.Goals as goal

pub returns : goal.returns
returns c =
    edge_with (c.unwrap_or.ensures ∙ ap (λ o. unwrap_or o 0) (c.copied.ensures ∙ c.last.ensures.value) ∙ last_is c.args.text.now)
