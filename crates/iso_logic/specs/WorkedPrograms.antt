-- Worked programs: which are definite, what the clauses of append prove, and the leaves of a query over them.
use Rattle.std.specs.Prelude.{◌≡◌, List, [], ◌∷◌, ℕ, true, false, codes}
use Rattle.iso_model.specs.Terms.Trees.{Tree, Variable, Name}
use Rattle.iso_model.specs.Search.Bodies.{two}
use Rattle.iso_model.specs.Search.Databases.{no_clauses}
use Rattle.iso_model.specs.Worked.Runs.{rule, number, nil, cons, app, append, endless}
use Rattle.iso_model.specs.Worked.Texts.{loop_text}
use Rattle.iso_logic.specs.DefinitePrograms.{is_definite_clause, are_definite}
use Rattle.iso_logic.specs.ProgramProofs.{ProvedBy}
use Rattle.iso_logic.specs.Consulting.{Consulted}
use Rattle.iso_logic.specs.Leaves.{goals_of, Leaves}
use Rattle.iso_logic.specs.Sessions.{IsTextOf}
use Rattle.iso_logic.specs.ShownAnswers.{AreUserQueries}
use Rattle.iso_model.specs.Syntax.Tokens.{tokens}

abbrev pub atom : List ℕ → Tree
atom a = Name a

abbrev pub p : Tree
p = atom (codes "p")

abbrev pub q : Tree
q = atom (codes "q")

abbrev pub r : Tree
r = atom (codes "r")

-- `p.`, `p :- true.` and `p :- q, r.` are definite
abbrev pub TheseAreDefinite : Type 0
TheseAreDefinite = are_definite (p ∷ rule p (atom (codes "true")) ∷ rule p (two (codes ",") q r) ∷ []) ≡ true

-- `p :- !.`, `p :- X.`, `p :- q ; r.`, `p :- 1.`, `p :- true, q.` and `true :- p.` are not
abbrev pub TheseAreNot : Type 0
TheseAreNot =
    (is_definite_clause (rule p (atom (codes "!"))) ≡ false)
    × (is_definite_clause (rule p (Variable 0)) ≡ false)
    × (is_definite_clause (rule p (two (codes ";") q r)) ≡ false)
    × (is_definite_clause (rule p (number 1)) ≡ false)
    × (is_definite_clause (rule p (two (codes ",") (atom (codes "true")) q)) ≡ false)
    × (is_definite_clause (rule (atom (codes "true")) p) ≡ false)

-- `app(nil, L, L). app(c(H, T), L, c(H, R)) :- app(T, L, R).`
abbrev pub append_clauses : List Tree
append_clauses =
    app nil (Variable 0) (Variable 0)
    ∷ rule (app (cons (Variable 0) (Variable 1)) (Variable 2) (cons (Variable 0) (Variable 3))) (app (Variable 1) (Variable 2) (Variable 3)) ∷ []

-- the program is definite, and makes the database of the worked runs
abbrev pub AppendIsDefinite : Type 0
AppendIsDefinite = (are_definite append_clauses ≡ true) × Consulted append_clauses no_clauses append.database

-- it proves app(c(1, nil), X, c(1, X)): that every list has 1 before it
abbrev pub AppendProves : Type 0
AppendProves = ProvedBy append_clauses (app (cons (number 1) nil) (Variable 0) (cons (number 1) (Variable 0)))

-- it does not prove app(nil, nil, c(1, nil))
abbrev pub AppendProvesNot : Type 0
AppendProvesNot = ProvedBy append_clauses (app nil nil (cons (number 1) nil)) → ⊥

-- `app(X, Y, c(1, nil))`
abbrev pub split_query : Tree
split_query = app (Variable 0) (Variable 1) (cons (number 1) nil)

-- the leaves of its tree are app(nil, c(1, nil), c(1, nil)) and app(c(1, nil), nil, c(1, nil)), in this order
abbrev pub AppendHasTheseLeaves : Type 0
AppendHasTheseLeaves =
    Leaves append.database.procedures (goals_of split_query) split_query
    (app nil (cons (number 1) nil) (cons (number 1) nil) ∷ app (cons (number 1) nil) nil (cons (number 1) nil) ∷ [])

-- the text `l:-l. % again` is the program `l :- l.`
abbrev pub TextIsAProgram : Type 0
TextIsAProgram = IsTextOf loop_text (rule (atom (codes "l")) (atom (codes "l")) ∷ []) endless

-- the queries `l. l, l.` are conjunctions of goals of user procedures
abbrev pub TheseAreUserQueries : Type 0
TheseAreUserQueries = AreUserQueries (tokens (codes "l. l, l."))
