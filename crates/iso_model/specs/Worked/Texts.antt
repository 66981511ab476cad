-- Worked texts: the tokens of three short clauses and of all forms, the clauses that the three are, thirteen terms,
-- and texts that are none. A literal stands for its bytes, by `codes`.
use Rattle.std.specs.Prelude.{◌≡◌, ℕ, true, false, List, [], ◌∷◌, Some, pos, neg_ℤ, codes}
use Rattle.iso_model.specs.Terms.Trees.{Tree, Variable, Integer, Name}
use Rattle.iso_model.specs.Syntax.Lists.{nil, curly, list_before}
use Rattle.iso_model.specs.Search.Bodies.{one, two}
use Rattle.iso_model.specs.Syntax.Token.{Shown, TokenKind, NameToken, QuotedToken, DoubleToken, VariableToken, IntegerToken, PunctToken, EndToken, BadToken, magnitude, content}
use Rattle.iso_model.specs.Syntax.Tokens.{tokens}
use Rattle.iso_ops.specs.InitialOperators.{initial_entries}
use Rattle.iso_ops.specs.Settings.{initial_flags}
use Rattle.iso_model.specs.Syntax.Grammar.{ReadTerm}
use Rattle.iso_model.specs.Syntax.Clauses.{IsNextClause}
use Rattle.iso_model.specs.Worked.Runs.{rule, number}

-- a fact: a name directly before its arguments, and a variable twice
abbrev pub equal_text : List ℕ
equal_text = codes "eq(X, X)."

-- a rule: an infix operator, a body of two goals, a named variable, and one without a name
abbrev pub rule_text : List ℕ
rule_text = codes "p(Y, _) :- q, r(1, Y)."

-- a rule without layout, and a comment behind it
abbrev pub loop_text : List ℕ
loop_text = codes "l:-l. % again"

-- the token of this kind with this text, which begins at this place
abbrev pub token : TokenKind → List ℕ → ℕ → Shown
token k text at = record { kind = k; text = text; start = at; after_layout = false }

-- such a token, directly behind layout
abbrev pub spaced : TokenKind → List ℕ → ℕ → Shown
spaced k text at = record { kind = k; text = text; start = at; after_layout = true }

-- The tokens of the first clause (6.4): a `.` before layout (6.4.8) or at the end of the text (own) is an end token.
abbrev pub TokensOfEqual : Type 0
TokensOfEqual =
    tokens equal_text
    ≡ (token NameToken (codes "eq") 0 ∷ token PunctToken (codes "(") 2 ∷ token VariableToken (codes "X") 3 ∷ token PunctToken (codes ",") 4
    ∷ spaced VariableToken (codes "X") 6 ∷ token PunctToken (codes ")") 7 ∷ token EndToken (codes ".") 8 ∷ [])

-- The tokens of the second: `:-` is a name of graphic characters (6.4.2), and `_` a variable (6.4.3).
abbrev pub TokensOfRule : Type 0
TokensOfRule =
    tokens rule_text
    ≡ (token NameToken (codes "p") 0 ∷ token PunctToken (codes "(") 1 ∷ token VariableToken (codes "Y") 2 ∷ token PunctToken (codes ",") 3
    ∷ spaced VariableToken (codes "_") 5 ∷ token PunctToken (codes ")") 6 ∷ spaced NameToken (codes ":-") 8
    ∷ spaced NameToken (codes "q") 11 ∷ token PunctToken (codes ",") 12
    ∷ spaced NameToken (codes "r") 14 ∷ token PunctToken (codes "(") 15 ∷ token IntegerToken (codes "1") 16 ∷ token PunctToken (codes ",") 17
    ∷ spaced VariableToken (codes "Y") 19 ∷ token PunctToken (codes ")") 20 ∷ token EndToken (codes ".") 21 ∷ [])

-- The tokens of the third: each is the longest that fits, and a comment is none (6.4.1).
abbrev pub TokensOfLoop : Type 0
TokensOfLoop = tokens loop_text ≡ (token NameToken (codes "l") 0 ∷ token NameToken (codes ":-") 1 ∷ token NameToken (codes "l") 3 ∷ token EndToken (codes ".") 4 ∷ [])

-- Those are the tokens of the three clauses.
abbrev pub TokensOfThreeClauses : Type 0
TokensOfThreeClauses = TokensOfEqual × TokensOfRule × TokensOfLoop

-- quoted items, a character code, and numbers in other bases
abbrev pub forms_text : List ℕ
forms_text = codes "'don''t'(0'a, 0x1F, \"\\x41\\\"|0'''), 0b2."

-- Their tokens (6.4.2.1, 6.4.4, 6.4.6): a base without a digit of its own is the integer 0.
abbrev pub TokensOfForms : Type 0
TokensOfForms =
    tokens forms_text
    ≡ (token QuotedToken (codes "'don''t'") 0 ∷ token PunctToken (codes "(") 8 ∷ token IntegerToken (codes "0'a") 9 ∷ token PunctToken (codes ",") 12
    ∷ spaced IntegerToken (codes "0x1F") 14 ∷ token PunctToken (codes ",") 18 ∷ spaced DoubleToken (codes "\"\\x41\\\"") 20
    ∷ token PunctToken (codes "|") 27 ∷ token IntegerToken (codes "0'''") 28 ∷ token PunctToken (codes ")") 32 ∷ token PunctToken (codes ",") 33
    ∷ spaced IntegerToken (codes "0") 35 ∷ token NameToken (codes "b2") 36 ∷ token EndToken (codes ".") 38 ∷ [])

-- What they stand for: a quote that is written twice is one, and `\x41\` is `A`.
abbrev pub ValuesOfForms : Type 0
ValuesOfForms =
    (content (token QuotedToken (codes "'don''t'") 0) ≡ codes "don't") × (content (spaced DoubleToken (codes "\"\\x41\\\"") 20) ≡ codes "A")
    × (magnitude (token IntegerToken (codes "0'a") 9) ≡ Some 97) × (magnitude (spaced IntegerToken (codes "0x1F") 14) ≡ Some 31)
    × (magnitude (token IntegerToken (codes "0'''") 28) ≡ Some 39)

-- An item that isn't well closed: its quote is a bad token, and what stands behind it is read anew (own).
abbrev pub TokensOfOpenItem : Type 0
TokensOfOpenItem =
    tokens (codes "'a. b") ≡ (token BadToken (codes "'") 0 ∷ token NameToken (codes "a") 1 ∷ token EndToken (codes ".") 2 ∷ spaced NameToken (codes "b") 4 ∷ [])

-- the tokens of forms, what they stand for, and an item that isn't well closed
abbrev pub TokensOfAllForms : Type 0
TokensOfAllForms = TokensOfForms × ValuesOfForms × TokensOfOpenItem

-- `eq(X, X)`: both are variable 0, and its name is X.
abbrev pub equal_clause : ReadTerm
equal_clause = record { term = two (codes "eq") (Variable 0) (Variable 0); names = (codes "X", 0) ∷ [] }

-- `p(Y, _) :- q, r(1, Y)`: Y is variable 0, `_` is variable 1 and has no name, and the comma joins the goals of the
-- body.
abbrev pub rule_clause : ReadTerm
rule_clause = record {
  term = rule (two (codes "p") (Variable 0) (Variable 1)) (two (codes ",") (Name (codes "q")) (two (codes "r") (number 1) (Variable 0)));
  names = (codes "Y", 0) ∷ [];
}

-- `l :- l`
abbrev pub loop_clause : ReadTerm
loop_clause = record { term = rule (Name (codes "l")) (Name (codes "l")); names = [] }

-- Those are the three clauses by the grammar (6.2, 6.3).
abbrev pub ReadingOfThreeClauses : Type 0
ReadingOfThreeClauses =
    IsNextClause initial_entries initial_flags (tokens equal_text) equal_clause × IsNextClause initial_entries initial_flags (tokens rule_text) rule_clause
    × IsNextClause initial_entries initial_flags (tokens loop_text) loop_clause

-- The tokens of this text up to its end token are no clause.
abbrev pub IsNoClause : List ℕ → Type 0
IsNoClause text = (c : ReadTerm) → IsNextClause initial_entries initial_flags (tokens text) c → ⊥

-- Three texts that are no clauses: an argument has a priority of at most 999 and `:-` has 1200 (6.3.3.1), an infix
-- operator takes an operand on its right (6.3.4.2), and a `(` behind layout opens no arguments (6.3.3).
abbrev pub NoClauses : Type 0
NoClauses = IsNoClause (codes "p(a :- b).") × IsNoClause (codes "p :- .") × IsNoClause (codes "p (a).")

-- The tokens of this text up to its end token are this term, which has no variables.
abbrev pub IsRead : List ℕ → Tree → Type 0
IsRead text t = IsNextClause initial_entries initial_flags (tokens text) (record { term = t; names = [] })

abbrev pub atom : List ℕ → Tree
atom name = Name name

-- Signs (6.3.4.2; which of them are operators is own): a prefix operator twice, an infix one, a prefix operator that is
-- an atom before an infix one, one that binds closer than `*` and less close than `^`, and the least integer.
abbrev pub ReadingOfSigns : Type 0
ReadingOfSigns =
    IsRead (codes "- - 1 .") (one (codes "-") (one (codes "-") (number 1)))
    × IsRead (codes "a-1.") (two (codes "-") (atom (codes "a")) (number 1))
    × IsRead (codes "- = x.") (two (codes "=") (atom (codes "-")) (atom (codes "x")))
    × IsRead (codes "- a * b.") (two (codes "*") (one (codes "-") (atom (codes "a"))) (atom (codes "b")))
    × IsRead (codes "-a^b.") (one (codes "-") (two (codes "^") (atom (codes "a")) (atom (codes "b"))))
    × IsRead (codes "-170141183460469231731687303715884105728.") (Integer (neg_ℤ (pos 170141183460469231731687303715884105728)))

-- Brackets: a term in brackets behind a prefix operator and behind a functor, an operator that is an argument, braces
-- with a double quoted item, a list with a tail, and a quoted name that is an escape.
abbrev pub ReadingOfBrackets : Type 0
ReadingOfBrackets =
    IsRead (codes "\\+ (a,b).") (one (codes "\\+") (two (codes ",") (atom (codes "a")) (atom (codes "b"))))
    × IsRead (codes "\\+(a,b).") (two (codes "\\+") (atom (codes "a")) (atom (codes "b")))
    × IsRead (codes "f(:- , a).") (two (codes "f") (atom (codes ":-")) (atom (codes "a")))
    × IsRead (codes "{a,\"ab\"}.") (one curly (two (codes ",") (atom (codes "a")) (list_before (number 97 ∷ number 98 ∷ []) (atom nil))))
    × IsRead (codes "[a,b|c].") (list_before (atom (codes "a") ∷ atom (codes "b") ∷ []) (atom (codes "c")))
    × IsRead (codes "'\\x41\\'.") (atom (codes "A"))

-- Integers: character codes, and numbers in base 16, 2 and 8 (6.4.4).
abbrev pub ReadingOfIntegers : Type 0
ReadingOfIntegers =
    IsRead (codes "[0'a,0''',0x1F,0b101,0o17].") (list_before (number 97 ∷ number 39 ∷ number 31 ∷ number 5 ∷ number 15 ∷ []) (atom nil))

-- These are no clauses. In order they have: an infix operator that takes no operand of its own priority, twice;
-- digits of a base that has none of them; a term of priority 1000 as the tail of a list. Then come an integer above
-- the greatest, a bracket that nothing opened, and a prefix operator whose term is above the right operand's priority.
abbrev pub NoTerms : Type 0
NoTerms =
    IsNoClause (codes "1 = 2 = 3.") × IsNoClause (codes "0b2.") × IsNoClause (codes "[a,b|c,d].") × IsNoClause (codes "170141183460469231731687303715884105728.")
    × IsNoClause (codes "(a)).") × IsNoClause (codes "X = \\+ a.")
