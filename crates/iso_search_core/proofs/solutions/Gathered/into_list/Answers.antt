use Rattle.std.proofs.Common.{List, map, ap, ap₂, sym, ◌∙◌}
use Rattle.iso_model.specs.Terms.Trees.{Tree, Apply}
use Rattle.iso_model.specs.Terms.TermOf.{term_of, row_of}
use Rattle.iso_model.specs.Terms.Lists.{list_before}
use Rattle.iso_model.proofs.OnTerms.RowLemmas.{term_of_compound}
use Rattle.iso_search_core.proofs.SolutionLemmas.{list_before-last, map-last}
use Rattle.iso_search_core.proofs.solutions.Gathered.into_list.Goals as goal

pub loop-copy-preserved : goal.loop-copy-preserved
loop-copy-preserved c =
    let copy = c.in-Some.copy in
    let new = c.pop.new.self.items in
    let items = c.in_ok-vec.ensures.items in
    let whole = term_of_compound c.in_ok-name.name c.in_ok-vec.field-0 ∙ ap₂ Apply c.in_ok-name.ensures.ok (ap row_of items) in
    let split = ap (map term_of) c.in-Some.ensures.items ∙ map-last term_of new copy in
    ap (list_before (map term_of new)) whole ∙ (sym (list_before-last (map term_of new) (term_of copy) (term_of c.loop-copy.list)) ∙ (ap (λ (ts : List Tree). list_before ts (term_of c.loop-copy.list)) (sym split) ∙ c.loop-copy.invariant))
