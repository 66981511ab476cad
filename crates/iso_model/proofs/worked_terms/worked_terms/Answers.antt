use Rattle.iso_model.proofs.Syntax.WorkedWriting.{brackets_written}
use Rattle.iso_model.proofs.Syntax.WorkedWriting.{canonical_written}
use Rattle.iso_model.proofs.Syntax.WorkedWriting.{numbered_written}
use Rattle.iso_model.proofs.Syntax.WorkedWriting.{operator_written}
use Rattle.iso_model.proofs.Syntax.WorkedWriting.{signs_written}
use Rattle.iso_model.proofs.Syntax.WorkedWriting.{unquoted_written}
use Rattle.iso_model.proofs.Syntax.WorkedWriting.{words_written}
use Rattle.iso_model.proofs.worked_terms.worked_terms.Goals as goal

pub returns-clause-texts_with_signs : goal.returns-clause-texts_with_signs
returns-clause-texts_with_signs c = signs_written

pub returns-clause-texts_with_brackets : goal.returns-clause-texts_with_brackets
returns-clause-texts_with_brackets c = brackets_written

pub returns-clause-texts_with_words : goal.returns-clause-texts_with_words
returns-clause-texts_with_words c = words_written

pub returns-clause-texts_with_an_operator : goal.returns-clause-texts_with_an_operator
returns-clause-texts_with_an_operator c = operator_written

pub returns-clause-canonical_texts : goal.returns-clause-canonical_texts
returns-clause-canonical_texts c = canonical_written

pub returns-clause-unquoted_texts : goal.returns-clause-unquoted_texts
returns-clause-unquoted_texts c = unquoted_written

pub returns-clause-texts_of_numbered_variables : goal.returns-clause-texts_of_numbered_variables
returns-clause-texts_of_numbered_variables c = numbered_written
