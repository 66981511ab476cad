-- Tokens that begin a clause: some tokens behind them make them one (ISO/IEC 13211-1:1995, 6.3).
use Rattle.std.specs.Prelude.{ℕ, Bool, ◌||◌, if◌then◌else◌, List, [], ◌∷◌, ◌++◌, map, drop, fold, is_some, codes, true, false, Option, Some, None}
use Rattle.iso_model.specs.Syntax.Token.{Shown, PunctToken, VariableToken}
use Rattle.iso_model.specs.Syntax.Grammar.{is_mark}
use Rattle.iso_model.specs.Syntax.Reading.{clause_of}
use Rattle.iso_lint_core.specs.declared.settings.Settings.{Settings}

-- the mark of this text behind layout, and the variable `_`
abbrev pub mark : List ℕ → Shown
mark text = record { kind = PunctToken; text = text; start = 0; after_layout = false }

abbrev pub anonymous : Shown
anonymous = record { kind = VariableToken; text = codes "_"; start = 0; after_layout = false }

-- the mark that closes the bracket that a token is
abbrev pub closing_mark : Shown → Option (List ℕ)
closing_mark t =
    if is_mark (codes "(") t then Some (codes ")")
    else (if is_mark (codes "[") t then Some (codes "]")
    else (if is_mark (codes "{") t then Some (codes "}")
    else None))

-- whether a token closes a bracket
abbrev pub is_closing : Shown → Bool
is_closing t = is_mark (codes ")") t || (is_mark (codes "]") t || is_mark (codes "}") t)

-- the marks that close what is open, the innermost first, behind one token more
abbrev pub behind_by : List (List ℕ) → Option (List ℕ) → Bool → List (List ℕ)
behind_by marks (Some m) closes = m ∷ marks
behind_by marks None true = drop 1 marks
behind_by marks None false = marks

abbrev pub behind_bracket : List (List ℕ) → Shown → List (List ℕ)
behind_bracket marks t = behind_by marks (closing_mark t) (is_closing t)

-- those that close what is open behind these tokens
abbrev pub closers : List Shown → List (List ℕ)
closers ts = fold behind_bracket [] ts

-- whether the tokens are a clause
abbrev pub is_clause : Settings → List Shown → Bool
is_clause s ts = is_some (clause_of s.ops s.flags ts)

-- the tokens with these behind them, and then all that is open closed
abbrev pub completed : List Shown → List Shown → List Shown
completed ts more = ts ++ (more ++ map mark (closers ts))

-- whether they are a clause with these behind them, once all that is open is closed
abbrev pub goes_on_with : Settings → List Shown → List Shown → Bool
goes_on_with s ts more = is_clause s (completed ts more)

-- whether they begin a clause: a term can end behind them, or can follow
abbrev pub begins_clause : Settings → List Shown → Bool
begins_clause s ts = goes_on_with s ts [] || goes_on_with s ts (anonymous ∷ [])
