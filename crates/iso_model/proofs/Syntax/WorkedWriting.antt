-- What worked terms are written as.
use Rattle.std.proofs.Common.{refl}
use Rattle.std.specs.Fmt.{digits}
use Rattle.iso_ops.specs.InitialOperators.{initial_entries}
use Rattle.iso_model.specs.Worked.Terms.{TextsWithSigns, TextsWithBrackets, TextsWithWords, TextsWithAnOperator, CanonicalTexts, UnquotedTexts, TextsOfNumberedVariables}

pub signs_written : TextsWithSigns
unfolding initial_entries digits
signs_written = (refl, refl, refl, refl, refl, refl, refl)

pub brackets_written : TextsWithBrackets
unfolding initial_entries digits
brackets_written = (refl, refl, refl, refl, refl, refl, refl)

pub words_written : TextsWithWords
unfolding initial_entries digits
words_written = (refl, refl, refl, refl, refl, refl)

pub operator_written : TextsWithAnOperator
unfolding initial_entries digits
operator_written = (refl, refl)

pub canonical_written : CanonicalTexts
unfolding initial_entries digits
canonical_written = (refl, refl, refl, refl)

pub unquoted_written : UnquotedTexts
unfolding initial_entries digits
unquoted_written = (refl, refl, refl, refl)

pub numbered_written : TextsOfNumberedVariables
unfolding initial_entries digits
numbered_written = (refl, refl, refl, refl, refl, refl, refl, refl, refl)
