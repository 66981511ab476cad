-- The words so far came for the constants so far.
use Rattle.std.proofs.Common.{map, take}
use Rattle.iso_atoms.specs.Texts.{KeepsTexts}
use Rattle.iso_model.specs.Terms.TermOf.{term_of}
use Rattle.iso_store_core.specs.Presents.{KeepsNumbers, KeepsMarks}
use Rattle.iso_store_core.specs.Retaining.{Takes}
use Rattle.iso_search.proofs.SolutionLists.{MadeSoFar}
use Rattle.iso_search.proofs.solutions.make_all.Given as goal

abbrev pub invariant-loop-constant : goal.invariant-loop-constant
invariant-loop-constant g l = record {
  made : MadeSoFar (g.S.Store.present l.fn.store) (g.S.Store.present l.store) (take l.constant-index (map term_of l.constants)) l.words.items;
  numbers : KeepsNumbers (g.S.Store.present l.fn.store) (g.S.Store.present l.store);
  cells : Takes g.S.Store l.fn.store l.store 0;
  names : KeepsTexts (g.S.Store.names l.fn.store) (g.S.Store.names l.store);
  marks : KeepsMarks (g.S.Store.stands l.fn.store) (g.S.Store.stands l.store);
}
