use Rattle.std.proofs.Common.{◌<◌, ◌≤◌, ◌++◌, ◌∷◌, [], length, map, ap, ◌∙◌, rules}
use Rattle.iso_model.specs.Terms.TermOf.{term_of}
use Rattle.iso_model.specs.Search.Groups.{pair}
use Rattle.iso_model.proofs.OnTerms.CopyingLemmas.{on_ok_by}
use Rattle.iso_lib_core.specs.Groupings.{solutions_of}
use Rattle.iso_lib_core.proofs.GroupLemmas.{put_before, put_behind}
use Rattle.iso_lib_core.proofs.groups.put.Goals as goal

pub returns-then-place-len-clause-solutions : goal.returns-then-place-len-clause-solutions
returns-then-place-len-clause-solutions c =
    let p = pair (term_of c.args.witness) (term_of c.args.item) in
    let within : c.args.place < length c.args.groups.now.items = search rules in
    on_ok_by c.add.result c.add.ensures.solutions
    (λ grown. put_before solutions_of c.args.groups.now.items c.args.place c.index_mut.result.now c.add.new.self p within c.index_mut.ensures.value grown)

pub returns-clause-solutions : goal.returns-clause-solutions
returns-clause-solutions c =
    let p = pair (term_of c.args.witness) (term_of c.args.item) in
    let behind : length c.args.groups.now.items ≤ c.args.place = search rules in
    ap (map solutions_of) c.in_ok-push.ensures.items
    ∙ put_behind solutions_of c.args.groups.now.items c.args.place c.add-2.new.self p behind (c.in_ok-add.ensures.solutions ∙ ap (λ ts. ts ++ p ∷ []) c.new-group.ensures.solutions)
