use Rattle.std.proofs.Common.{◌∙◌, sym, ap, ap₂, map, length, chars, Option, List, ℕ, arith}
use Rattle.std.specs.List.{filter}
use Rattle.iso_model.specs.Search.AtomParts as model
use Rattle.iso_store_core.proofs.ArgumentLemmas.{argument-is, applied-to, are-applied}
use Rattle.iso_text.specs.declared.sub_atoms.Asked.{Asked}
use Rattle.iso_text.specs.Bounds.{name_of, counted_of, suits}
use Rattle.iso_text.proofs.AskedLemmas.{sub_parted}
use Rattle.iso_text.proofs.sub.text_parts.Goals as goal

pub sub_atoms-requires : goal.sub_atoms-requires
sub_atoms-requires g c =
    let p = g.S.Store.present c.args.store.now in
    let words = c.args.arguments.now in
    let t = applied-to p words in
    let are = are-applied p words c.requires.arguments in
    let named = c.name_of-part.ensures ∙ ap name_of (argument-is p words t 4 c.index-arguments-4.result are (omega arith) c.index-arguments-4.is) in
    ap (λ (asked : Asked). asked.counted) (c.in_ok-asked.ensures.asked t are) ∙ ap counted_of (sym named)

pub returns-clause-parted : goal.returns-clause-parted
returns-clause-parted g c = λ t are.
    let p = g.S.Store.present c.args.store.now in
    let part = argument-is p c.args.arguments.now t 4 c.index-arguments-4.result are (omega arith) c.index-arguments-4.is in
    let count = sym are.count ∙ c.requires.count in
    let named_so = c.requires.text t are in
    let text = c.args.text.now in
    let named = c.name_of-part.ensures ∙ ap name_of part in
    let rows = c.in_ok-sub_atoms.ensures.offers t named_so
    ∙ ap₂ (λ (asked : Asked) (wanted : Option (List ℕ)). map (model.part_offer text) (filter (suits asked wanted (chars text)) (model.all_parts (length (chars text))))) (c.in_ok-asked.ensures.asked t are) named in
    sub_parted t text c.in_ok-sub_atoms.field-0 count named_so (c.in_ok-asked.ensures.passes t are) rows (c.in_ok-sub_atoms.ensures.places t count named_so)
