use Rattle.std.proofs.Common.{◌∙◌, sym, ap, arith}
use Rattle.iso_model.specs.Terms.Trees.{Name}
use Rattle.iso_store_core.proofs.AtomLemmas.{text-is}
use Rattle.iso_store_core.proofs.ArgumentLemmas.{argument-is}
use Rattle.iso_text.proofs.ConcatLemmas.{split_parted}
use Rattle.iso_text.proofs.concat.taken_apart.Goals as goal

pub returns-in_ok-splits-in-Atom-clause-parted : goal.returns-in_ok-splits-in-Atom-clause-parted
returns-in_ok-splits-in-Atom-clause-parted g c = λ t are.
    let p = g.S.Store.present c.args.store.now in
    let whole = argument-is p c.args.arguments.now t 2 c.index-arguments-2.result are (omega arith) c.index-arguments-2.is in
    let is = sym whole ∙ c.in-Atom.ensures.shape.1 ∙ ap Name (text-is (g.S.Store.names c.args.store.now) c.in-Atom.name c.text.result.now c.text.ensures) in
    split_parted t c.text.result.now c.in_ok-splits-in-Atom.field-0 (sym are.count ∙ c.requires.count) is c.in_ok-splits-in-Atom.ensures.offers c.in_ok-splits-in-Atom.ensures.places
