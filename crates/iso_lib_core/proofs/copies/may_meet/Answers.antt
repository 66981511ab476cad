use Rattle.std.proofs.Common.{◌≡◌, ◌+◌, sym, ◌∙◌, ap, map, length, arith}
use Rattle.std.proofs.lemmas.List.{length-map}
use Rattle.std.specs.Str.{bytes_eq}
use Rattle.iso_atoms.specs.Texts.{text_at}
use Rattle.iso_model.specs.Terms.TermOf.{term_of, row_of}
use Rattle.iso_model.specs.Terms.Trees.{Name, Apply}
use Rattle.iso_model.proofs.OnTerms.LeafLemmas.{term_of_atom}
use Rattle.iso_model.proofs.OnTerms.RowLemmas.{term_of_compound}
use Rattle.iso_store_core.specs.Presents.{meaning}
use Rattle.iso_lib_core.proofs.ClashLemmas.{other_atom, other_name, other_count}
use Rattle.iso_lib_core.proofs.copies.may_meet.Goals as goal

pub returns-in-Atom-shape-2 : goal.returns-in-Atom-shape-2
returns-in-Atom-shape-2 g c = λ off.
    other_atom (g.S.Store.names c.args.store.now) c.in-Atom-shape-2.own (meaning (g.S.Store.present c.args.store.now) c.args.word) (term_of c.args.term.now) c.text.result.now c.as_str.result.now c.eq.result c.text.ensures c.eq.ensures off
    c.in-Atom-shape-2.ensures.shape.1 (ap term_of c.in-Atom.is ∙ term_of_atom c.in-Atom.name ∙ ap Name (sym c.as_str.ensures.value))

pub returns-then-count-len : goal.returns-then-count-len
returns-then-count-len g c = λ off.
    let shape = c.in-Compound-shape.ensures.shape in
    other_name (g.S.Store.names c.args.store.now) c.in-Compound-shape.own (meaning (g.S.Store.present c.args.store.now) c.args.word) (term_of c.args.term.now) c.text-then-count-len.result.now c.as_str-then-count-len.result.now c.eq-then-count-len.result c.text-then-count-len.ensures c.eq-then-count-len.ensures off
    shape.1 (row_of c.in-Compound.arguments.items) shape.2 (ap term_of c.in-Compound.is ∙ term_of_compound c.in-Compound.name c.in-Compound.arguments
    ∙ ap (λ n. Apply n (row_of c.in-Compound.arguments.items)) (sym c.as_str-then-count-len.ensures.value))

pub returns-else-count-len : goal.returns-else-count-len
returns-else-count-len g c = λ off.
    let shape = c.in-Compound-shape.ensures.shape in
    other_count (meaning (g.S.Store.present c.args.store.now) c.args.word) (term_of c.args.term.now) _ _ shape.1 (map term_of c.in-Compound.arguments.items) c.in-Compound-shape.ensures.term shape.2
    (ap term_of c.in-Compound.is ∙ term_of_compound c.in-Compound.name c.in-Compound.arguments)
    (λ same. c.if-count-len.false (let counted = shape.3 in let long = length-map c.in-Compound.arguments.items term_of in let vec = c.len.ensures in omega (arith, same, counted, long, vec)))
