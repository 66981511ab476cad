-- The lines of a session (own), each without its newline.
use Rattle.std.specs.Prelude.{ℕ, min, List, [], ◌∷◌, ◌++◌, codes, unwrap_or}
use Rattle.std.specs.List.{slice_get}
use Rattle.std.specs.Fmt.{decimal}
use Rattle.iso_ops.specs.Operators.{Operator}
use Rattle.iso_model.specs.Terms.Trees.{Tree, Name}
use Rattle.iso_model.specs.Terms.Variables.{distinct_from}
use Rattle.iso_model.specs.Syntax.Pieces.{Writeq, text_at}

-- a count as it is written: one above the greatest number of 64 bits is written as that number
abbrev pub counted : ℕ → List ℕ
counted k = decimal (min k 18446744073709551615)

-- The text of a term in a line, quoted, in a place of at most 699, where these are the variables of the line so far.
-- Those of the term come behind them.
abbrev pub text_in : List Operator → List ℕ → Tree → List ℕ
text_in table seen t = text_at Writeq table (distinct_from seen t) 699 t

-- the text of the only term of a line
abbrev pub text_of : List Operator → Tree → List ℕ
text_of table t = text_in table [] t

-- `syntax error in clause K`
abbrev pub syntax_error_line : ℕ → List ℕ
syntax_error_line k = codes "syntax error in clause " ++ counted k

-- `clause K skipped`
abbrev pub skipped_line : ℕ → List ℕ
skipped_line k = codes "clause " ++ (counted k ++ codes " skipped")

-- `clause K refused: E`
abbrev pub refused_line : List Operator → ℕ → Tree → List ℕ
refused_line table k error = codes "clause " ++ (counted k ++ (codes " refused: " ++ text_of table error))

-- `directive K failed`
abbrev pub directive_failed_line : ℕ → List ℕ
directive_failed_line k = codes "directive " ++ (counted k ++ codes " failed")

-- `directive K refused: BALL`
abbrev pub directive_refused_line : List Operator → ℕ → Tree → List ℕ
directive_refused_line table k ball = codes "directive " ++ (counted k ++ (codes " refused: " ++ text_of table ball))

-- `directive K stopped: budget`
abbrev pub directive_stopped_line : ℕ → List ℕ
directive_stopped_line k = codes "directive " ++ (counted k ++ codes " stopped: budget")

-- the value of the variable of this number
abbrev pub value_at : List Tree → ℕ → Tree
value_at values n = unwrap_or (slice_get values n) (Name [])

-- `X = t` for each of these variables, behind this text; a variable of the values is `_k` by first occurrence in the
-- line
abbrev pub equations : List Operator → List ℕ → List ℕ → List (List ℕ × ℕ) → List Tree → List ℕ
equations table before seen [] values = []
equations table before seen (n ∷ names) values =
    let t = value_at values n.1 in
    before ++ (n.0 ++ (codes " = " ++ (text_in table seen t ++ equations table (codes ", ") (distinct_from seen t) names values)))

-- `true`, or `X = t, Y = u` for the named variables
abbrev pub solution_text : List Operator → List (List ℕ × ℕ) → List Tree → List ℕ
solution_text table [] values = codes " true"
solution_text table (n ∷ names) values = equations table (codes " ") [] (n ∷ names) values

-- `answer K: X = t, Y = u`
abbrev pub answer_line : List Operator → ℕ → List (List ℕ × ℕ) → List Tree → List ℕ
answer_line table k names values = codes "answer " ++ (counted k ++ (codes ":" ++ solution_text table names values))

-- `end: error BALL`
abbrev pub error_line : List Operator → Tree → List ℕ
error_line table ball = codes "end: error " ++ text_of table ball

-- `end: halt N`
abbrev pub halt_line : ℕ → List ℕ
halt_line n = codes "end: halt " ++ decimal n
