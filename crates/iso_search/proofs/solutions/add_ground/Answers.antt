use Rattle.std.proofs.Common.{◌++◌, [], ◌∷◌, map, ap, sym, ◌∙◌, arith}
use Rattle.std.proofs.lemmas.List.{map-append}
use Rattle.iso_model.specs.Terms.TermOf.{term_of}
use Rattle.iso_search_core.specs.Solutions.{copies_of}
use Rattle.iso_search.proofs.SolutionLists.{ground_copy, ground_count}
use Rattle.iso_search.proofs.solutions.add_ground.Goals as goal

pub returns-clause-gains : goal.returns-clause-gains
returns-clause-gains c =
    let old = c.args.gathered.now in
    let t = term_of c.args.solution in
    let none = ground_count t c.requires in
    record {
      copies = ap (map term_of) c.in_ok-push.ensures.items ∙ map-append term_of old.copies.items (c.args.solution ∷ [])
          ∙ ap (λ u. copies_of old ++ u ∷ []) (sym (ground_copy t old.variables c.requires));
      variables = omega (arith, none);
    }
