-- The words so far, and the characters that are left, are all of them.
use Rattle.iso_atoms.specs.Texts.{KeepsTexts}
use Rattle.iso_model.specs.Search.AtomTexts.{element}
use Rattle.iso_store_core.specs.Presents.{KeepsNumbers, KeepsMarks}
use Rattle.iso_store_core.specs.Retaining.{Takes}
use Rattle.iso_text.specs.Forms.{form_of}
use Rattle.iso_text.proofs.SpellingLemmas.{SpelledSoFar}
use Rattle.iso_text.proofs.spelling.spelled.Given as goal

abbrev pub invariant-loop-character : goal.invariant-loop-character
invariant-loop-character g l = record {
  spelled : SpelledSoFar (g.S.Store.present l.fn.store) (g.S.Store.present l.store) (element (form_of l.form)) l.fn.text l.character-iterator.rest.now l.words.items;
  numbers : KeepsNumbers (g.S.Store.present l.fn.store) (g.S.Store.present l.store);
  cells : Takes g.S.Store l.fn.store l.store 0;
  names : KeepsTexts (g.S.Store.names l.fn.store) (g.S.Store.names l.store);
  marks : KeepsMarks (g.S.Store.stands l.fn.store) (g.S.Store.stands l.store);
}
