use Rattle.iso_model.proofs.Syntax.WorkedReading.{none_read}
use Rattle.iso_model.proofs.Syntax.WorkedReading.{three_read}
use Rattle.iso_model.proofs.Syntax.WorkedReading.{tokens_of_all}
use Rattle.iso_model.proofs.Syntax.WorkedReading.{tokens_of_three}
use Rattle.iso_model.proofs.Syntax.WorkedSyntax.{brackets_read}
use Rattle.iso_model.proofs.Syntax.WorkedSyntax.{integers_read}
use Rattle.iso_model.proofs.Syntax.WorkedSyntax.{no_terms_read}
use Rattle.iso_model.proofs.Syntax.WorkedSyntax.{signs_read}
use Rattle.iso_model.proofs.worked_texts.worked_texts.Goals as goal

pub returns-clause-tokens_of_three_clauses : goal.returns-clause-tokens_of_three_clauses
returns-clause-tokens_of_three_clauses c = tokens_of_three

pub returns-clause-tokens_of_all_forms : goal.returns-clause-tokens_of_all_forms
returns-clause-tokens_of_all_forms c = tokens_of_all

pub returns-clause-reading_of_three_clauses : goal.returns-clause-reading_of_three_clauses
returns-clause-reading_of_three_clauses c = three_read

pub returns-clause-no_clauses : goal.returns-clause-no_clauses
returns-clause-no_clauses c = none_read

pub returns-clause-reading_of_signs : goal.returns-clause-reading_of_signs
returns-clause-reading_of_signs c = signs_read

pub returns-clause-reading_of_brackets : goal.returns-clause-reading_of_brackets
returns-clause-reading_of_brackets c = brackets_read

pub returns-clause-reading_of_integers : goal.returns-clause-reading_of_integers
returns-clause-reading_of_integers c = integers_read

pub returns-clause-no_terms : goal.returns-clause-no_terms
returns-clause-no_terms c = no_terms_read
