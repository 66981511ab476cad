-- What is written is read again (ISO/IEC 13211-1:1995, 7.10.5): a law of the definitions of text, tokens and grammar
-- alone.
use Rattle.std.specs.Prelude.{◌≡◌, ℕ, ◌<◌, ◌≤◌, ◌^◌, length, Bool, true, false, ◌&&◌, ◌||◌, is_some, List, [], ◌∷◌, ◌++◌, codes}
use Rattle.iso_ops.specs.Operators.{Operator, IsOpTable}
use Rattle.iso_ops.specs.declared.settings.Flags.{Flags}
use Rattle.iso_model.specs.Terms.Integers.{fits}
use Rattle.iso_model.specs.Terms.Trees.{Tree, Variable, Integer, Name, Apply, End, More}
use Rattle.iso_model.specs.Terms.Sorts.{is_term}
use Rattle.iso_model.specs.Terms.Variables.{occurs, is_in}
use Rattle.iso_model.specs.Terms.Copies.{copy_from}
use Rattle.iso_model.specs.Syntax.Token.{Shown, EndToken}
use Rattle.iso_model.specs.Syntax.Tokens.{tokens}
use Rattle.iso_model.specs.Syntax.Grammar.{Node, Reads, start_of, max_depth, numbered}
use Rattle.iso_model.specs.Syntax.Clauses.{IsNextClause}
use Rattle.iso_model.specs.Syntax.Pieces.{Writeq, variable_number, text_at}

-- whether all integers of a term are integers of the language
abbrev pub integers_fit : Tree → Bool
integers_fit (Variable n) = true
integers_fit (Integer z) = fits z
integers_fit (Name a) = true
integers_fit (Apply f ts) = integers_fit ts
integers_fit End = true
integers_fit (More t ts) = integers_fit t && integers_fit ts

-- whether a term is or has a part `'$VAR'(N)`, where N is an integer of at least 0
abbrev pub has_numbered_variable : Tree → Bool
has_numbered_variable (Variable n) = false
has_numbered_variable (Integer z) = false
has_numbered_variable (Name a) = false
has_numbered_variable (Apply f ts) = is_some (variable_number (Apply f ts)) || has_numbered_variable ts
has_numbered_variable End = false
has_numbered_variable (More t ts) = has_numbered_variable t || has_numbered_variable ts

-- A term whose integers are those of the language, which has no part `'$VAR'(N)`, and whose variables have a place among these;
-- there are fewer than 2 ^ 64 of them, as in every vector.
pub record IsWritable (seen : List ℕ) (t : Tree) : Type 0 where
  pub term : is_term t ≡ true
  pub integers : integers_fit t ≡ true
  pub numbered : has_numbered_variable t ≡ false
  pub places : (x : ℕ) → occurs x t ≡ true → is_in x seen ≡ true
  pub few : length seen < 2 ^ 64

-- The text of the term, with a space and an end token behind it, has tokens which the grammar reads as the term with
-- its variables numbered 0, 1, .. by first occurrence. Where it keeps the depth limit, that is its clause.
pub record IsReadAgain (table : List Operator) (flags : Flags) (t : Tree) (text : List ℕ) : Type 0 where
  pub before : List Shown
  pub last : Shown
  pub are : tokens (text ++ codes " .") ≡ before ++ last ∷ []
  pub ends : last.kind ≡ EndToken
  pub node : Node
  pub names : List (List ℕ)
  pub reads : Reads table flags (start_of before) node (record { tokens = []; names = names })
  pub priority : node.priority ≤ 1200
  pub term : node.term ≡ copy_from t 0
  pub clause : node.height ≤ max_depth → IsNextClause table flags (tokens (text ++ codes " .")) (record { term = copy_from t 0; names = numbered 0 names })

-- What is written of a term, quoted, is read again as that term, under the same operators and any flags.
abbrev pub WrittenTermsAreReadAgain : Type 0
WrittenTermsAreReadAgain = (table : List Operator) (flags : Flags) → IsOpTable table → (seen : List ℕ) (t : Tree) → IsWritable seen t
    → IsReadAgain table flags t (text_at Writeq table seen 1200 t)
