-- Each variable that was reached stands for the same term.
use Rattle.std.proofs.Common.{◌≡◌, true, take}
use Rattle.iso_model.specs.Terms.Substitutions.{apply}
use Rattle.iso_store.specs.declared.heap_cells.HeapWord.TheVariants.{Var}
use Rattle.iso_store.specs.HeapTerms.{made_term, heap_substitution}
use Rattle.iso_store.specs.HeapStores.{is_word, word_rank}
use Rattle.iso_store.proofs.heap.Heap.walked.Given as goal

abbrev pub invariant-loop-target : goal.invariant-loop-target
invariant-loop-target l = record {
  holds : is_word (take l.self.named l.self.atoms) l.self.area.low (Var l.at) ≡ true;
  same : apply (heap_substitution (take l.self.named l.self.atoms) l.self.area.low) (made_term (take l.self.named l.self.atoms) l.self.area.low (Var l.at)) ≡ apply (heap_substitution (take l.self.named l.self.atoms) l.self.area.low) (made_term (take l.self.named l.self.atoms) l.self.area.low l.fn.word);
}

abbrev pub decreases-loop-target : goal.decreases-loop-target
decreases-loop-target l = word_rank l.self.area.low (Var l.at)
