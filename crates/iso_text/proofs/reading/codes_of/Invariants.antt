-- The elements so far write the text so far.
use Rattle.std.proofs.Common.{map}
use Rattle.std.specs.String.{string_bytes}
use Rattle.iso_model.specs.Search.Errors.{key}
use Rattle.iso_store_core.specs.Presents.{meaning}
use Rattle.iso_text.specs.Forms.{form_of}
use Rattle.iso_text.proofs.ReadingLemmas.{ReadSoFar}
use Rattle.iso_text.proofs.reading.codes_of.Given as goal

abbrev pub invariant-loop-word : goal.invariant-loop-word
invariant-loop-word g l = ReadSoFar (form_of l.form) (map (meaning (g.S.Store.present l.store)) l.words) (key l.by 2) l.word-index (string_bytes l.text)
