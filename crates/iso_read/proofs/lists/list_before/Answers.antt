use Rattle.std.proofs.Common.{[], ◌∷◌, map, List, ap, sym, ◌∙◌}
use Rattle.std.proofs.lemmas.List.{map-append}
use Rattle.iso_model.specs.Syntax.Lists.{list_before}
use Rattle.iso_model.specs.Terms.TermOf.{term_of}
use Rattle.iso_model.specs.Terms.Trees.{Tree}
use Rattle.iso_read.proofs.Joins.{list_longer}
use Rattle.iso_read.proofs.lists.list_before.Goals as goal

pub loop-term-preserved : goal.loop-term-preserved
loop-term-preserved c =
    let others = c.next.new.self.iter.rest.items in
    let items = ap (map term_of) c.in-Some.ensures.steps ∙ map-append term_of others (c.in-Some.term ∷ []) in
    let longer = list_longer (map term_of others) (term_of c.in-Some.term) (term_of c.loop-term.list) in
    rw c.in_ok-list.ensures (sym longer ∙ ap (λ (ts : List Tree). list_before ts (term_of c.loop-term.list)) (sym items) ∙ c.loop-term.invariant)
