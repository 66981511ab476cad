use Rattle.std.proofs.Common.{◌≡◌, ◌+◌, length, map, ap, ap₂, ◌∙◌, subst}
use Rattle.iso_model.specs.Terms.Lists.{list_of}
use Rattle.iso_model.specs.Terms.Substitutions.{apply}
use Rattle.iso_model.specs.Search.Library.{equate_list, list_made, parts}
use Rattle.iso_store_core.specs.Presents.{meaning}
use Rattle.iso_lib_core.specs.Replies.{IsReply}
use Rattle.iso_lib_core.proofs.CheckLemmas.{equated_behind}
use Rattle.iso_lib_core.proofs.univ.equate_parts.Goals as goal

pub returns-clause-replies : goal.returns-clause-replies
returns-clause-replies g c =
    let p = g.S.Store.present c.args.store.now in
    let m = g.S.Store.present c.parts.new.store in
    let q = g.S.Store.present c.equate_list.new.store in
    let r = c.equate_list.result in
    let w = c.args.list in
    let ts = parts (meaning p c.args.term) in
    let stays : meaning m w ≡ meaning p w = ap₂ apply c.in_ok-parts.ensures.substitution (c.in_ok-parts.ensures.words.terms w c.requires.list) in
    let all : map (meaning m) c.as_slice.result.now ≡ ts = ap (map (meaning m)) c.as_slice.ensures.value ∙ c.in_ok-parts.ensures.values in
    equated_behind p m q (1 + list_made (length ts)) (meaning p w) (list_of ts) r c.in_ok-parts.ensures.words c.in_ok-parts.ensures.substitution c.in_ok-parts.ensures.numbers
    (subst (λ x. IsReply m q (equate_list x ts) r) stays (subst (λ us. IsReply m q (equate_list (meaning m w) us) r) all c.equate_list.ensures.replies))
