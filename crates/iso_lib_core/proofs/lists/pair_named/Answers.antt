use Rattle.std.proofs.Common.{◌≡◌, sym, ◌∙◌, arith}
use Rattle.iso_atoms.specs.Texts.{text_at}
use Rattle.iso_store_core.proofs.AtomLemmas.{text-is}
use Rattle.iso_store_core.specs.Presents.{meaning}
use Rattle.iso_model.specs.Terms.Trees.{Apply, More, End}
use Rattle.iso_lib_core.proofs.ListLemmas.{pair_of, named_as}
use Rattle.iso_lib_core.proofs.lists.pair_named.Goals as goal

pub returns-clause-parts : goal.returns-clause-parts
returns-clause-parts g c =
    let shape = c.in-Compound.ensures.shape in
    let names = g.S.Store.names c.args.store.now in
    let name = c.args.name.now in
    let text : c.text.result.now ≡ name = named_as c.text.result.now name c.if-ne.ensures in
    let named : text_at names c.in-Compound.own_name ≡ name = text-is names c.in-Compound.own_name c.text.result.now c.text.ensures ∙ text in
    let two = c.if-count-ne2.false in
    let is = pair_of (meaning (g.S.Store.present c.args.store.now) c.args.word) (text_at names c.in-Compound.own_name) name shape.1 c.in-Compound.ensures.term shape.2 (let counted = shape.3 in omega (arith, counted, two)) named in
    (c.arg.ensures.holds, c.arg-2.ensures.holds, is ∙ (λ i. Apply name (More (sym c.arg.ensures.value i) (More (sym c.arg-2.ensures.value i) End))))
