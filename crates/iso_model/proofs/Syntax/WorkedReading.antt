-- What short texts are read as, and the tokens of three of them.
use Rattle.std.proofs.Common.{◌≡◌, List, ℕ, refl, codes, None, Some}
use Rattle.iso_ops.specs.InitialOperators.{initial_entries}
use Rattle.iso_ops.specs.Settings.{initial_flags}
use Rattle.iso_ops.proofs.InitialLemmas.{IsOpTable-initial_entries}
use Rattle.iso_model.specs.Syntax.Tokens.{tokens_from, tokens}
use Rattle.iso_model.specs.Syntax.Lexemes.{lexeme}
use Rattle.iso_model.specs.Syntax.Quoted.{piece_at, len_from, content_from}
use Rattle.std.specs.Char.{encode_utf8}
use Rattle.std.specs.Str.{chars}
use Rattle.iso_model.specs.Syntax.Reading.{further, elements, compound, named, operand, operator_behind, extended, climb, continued, term, clause_of}
use Rattle.iso_model.specs.Syntax.Clauses.{next_clause}
use Rattle.iso_model.specs.Worked.Texts.{equal_text, rule_text, loop_text, equal_clause, rule_clause, loop_clause, TokensOfEqual, TokensOfRule, TokensOfLoop, TokensOfThreeClauses, TokensOfForms, ValuesOfForms, TokensOfOpenItem, TokensOfAllForms, ReadingOfThreeClauses, IsNoClause, NoClauses}
use Rattle.iso_model.proofs.Syntax.ClauseLaws.{next_given, next_complete}

tokens_of_equal : TokensOfEqual
unfolding tokens_from lexeme
tokens_of_equal = refl

tokens_of_rule : TokensOfRule
unfolding tokens_from lexeme
tokens_of_rule = refl

tokens_of_loop : TokensOfLoop
unfolding tokens_from lexeme
tokens_of_loop = refl

pub tokens_of_three : TokensOfThreeClauses
tokens_of_three = (tokens_of_equal, tokens_of_rule, tokens_of_loop)

tokens_of_forms : TokensOfForms
unfolding tokens_from lexeme len_from piece_at
tokens_of_forms = refl

values_of_forms : ValuesOfForms
unfolding content_from piece_at encode_utf8 chars
values_of_forms = (refl, refl, refl, refl, refl)

tokens_of_open_item : TokensOfOpenItem
unfolding tokens_from lexeme len_from piece_at
tokens_of_open_item = refl

pub tokens_of_all : TokensOfAllForms
tokens_of_all = (tokens_of_forms, values_of_forms, tokens_of_open_item)

equal_read : next_clause initial_entries initial_flags (tokens equal_text) ≡ Some equal_clause
unfolding initial_entries tokens_from lexeme clause_of term continued climb extended operator_behind operand named compound elements further
equal_read = refl

rule_read : next_clause initial_entries initial_flags (tokens rule_text) ≡ Some rule_clause
unfolding initial_entries tokens_from lexeme clause_of term continued climb extended operator_behind operand named compound elements further
rule_read = refl

loop_read : next_clause initial_entries initial_flags (tokens loop_text) ≡ Some loop_clause
unfolding initial_entries tokens_from lexeme clause_of term continued climb extended operator_behind operand named compound elements further
loop_read = refl

pub three_read : ReadingOfThreeClauses
three_read = (
  next_given initial_entries initial_flags (tokens equal_text) equal_clause equal_read,
  next_given initial_entries initial_flags (tokens rule_text) rule_clause rule_read,
  next_given initial_entries initial_flags (tokens loop_text) loop_clause loop_read,
)

-- what reading by precedence gives no clause of is none
pub not_read : (text : List ℕ) → next_clause initial_entries initial_flags (tokens text) ≡ None → IsNoClause text
not_read text none c is = let some : next_clause initial_entries initial_flags (tokens text) ≡ Some c = next_complete initial_entries initial_flags IsOpTable-initial_entries (tokens text) c is in cc

argument_row : next_clause initial_entries initial_flags (tokens (codes "p(a :- b).")) ≡ None
unfolding initial_entries tokens_from lexeme clause_of term continued climb extended operator_behind operand named compound elements further
argument_row = refl

operand_row : next_clause initial_entries initial_flags (tokens (codes "p :- .")) ≡ None
unfolding initial_entries tokens_from lexeme clause_of term continued climb extended operator_behind operand named compound elements further
operand_row = refl

bracket_row : next_clause initial_entries initial_flags (tokens (codes "p (a).")) ≡ None
unfolding initial_entries tokens_from lexeme clause_of term continued climb extended operator_behind operand named compound elements further
bracket_row = refl

pub none_read : NoClauses
none_read = (not_read (codes "p(a :- b).") argument_row, not_read (codes "p :- .") operand_row, not_read (codes "p (a).") bracket_row)
