-- The names that the engine knows beforehand.
use Rattle.std.specs.Prelude.{ℕ, List}
use Rattle.iso_arith.specs.Evaluables.{AreEvaluables}
use Rattle.iso_program.specs.declared.vocabulary.Vocabulary.{Vocabulary}
use Rattle.iso_program.specs.Controls.{AreControls}

-- Each is the atom of its name, where these are the names of the atoms.
pub record IsVocabulary (names : List (List ℕ)) (v : Vocabulary) : Type 0 where
  pub controls : AreControls names v.controls
  pub evaluables : AreEvaluables names v.evaluables
