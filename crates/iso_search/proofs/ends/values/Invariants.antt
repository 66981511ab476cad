-- The values so far are those of the first words, and each is well formed.
use Rattle.std.proofs.Common.{◌≡◌, true, map, take}
use Rattle.std.specs.List.{All}
use Rattle.iso_model.specs.Terms.Trees.{arities_fit}
use Rattle.iso_store_core.specs.Presents.{meaning}
use Rattle.iso_model.specs.Terms.TermOf.{term_of}
use Rattle.iso_search.proofs.ends.values.Given as goal

abbrev pub invariant-loop-word : goal.invariant-loop-word
invariant-loop-word g l = record {
  are : map term_of l.values.items ≡ map (meaning (g.S.Store.present l.store)) (take l.word-index l.words);
  fit : All (λ t. arities_fit (term_of t) ≡ true) l.values.items;
}
