use Rattle.std.proofs.Common.{take, refl, ap, sym, ◌∙◌}
use Rattle.iso_store.specs.declared.heap_cells.HeapWord.TheVariants.{Var}
use Rattle.iso_store.specs.HeapNumbers.{word_before}
use Rattle.iso_model.specs.Terms.Substitutions.{apply}
use Rattle.iso_store.specs.HeapTerms.{made_term, heap_substitution}
use Rattle.iso_store.specs.HeapStores.{is_word}
use Rattle.iso_store.proofs.HeapReads.{leaf_ends}
use Rattle.iso_store.proofs.heap.Heap.walked_near.Goals as goal

pub bound_to-requires-clause-index : goal.bound_to-requires-clause-index
bound_to-requires-clause-index c =
    let now = c.args.self.now in
    let names = take now.named now.atoms in
    word_before names now.area.low (Var c.in-Var.place) (ap (is_word names now.area.low) (sym c.in-Var.is) ∙ c.requires)

pub bound_to-requires-clause-variable : goal.bound_to-requires-clause-variable
bound_to-requires-clause-variable c =
    let now = c.args.self.now in
    ap (is_word (take now.named now.atoms) now.area.low) (sym c.in-Var.is) ∙ c.requires

pub returns-in_default : goal.returns-in_default
returns-in_default c = record {
  holds = c.requires;
  end = leaf_ends c.args.self.now.area.low c.args.word c.in_default.not-Var;
  same = refl;
}

pub returns-in-None : goal.returns-in-None
returns-in-None c =
    let now = c.args.self.now in
    let names = take now.named now.atoms in
    record {
      holds = ap (is_word names now.area.low) (sym c.in-Var.is) ∙ c.requires;
      end = sym c.in-None.ensures;
      same = ap (λ w. apply (heap_substitution names now.area.low) (made_term names now.area.low w)) (sym c.in-Var.is);
    }
