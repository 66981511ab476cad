-- The procedures that the terms of a text define, declare and call.
use Rattle.std.specs.Prelude.{ℕ, pos, Bool, ◌||◌, nat_le, List, [], ◌∷◌, ◌++◌, Option, Some, None, codes, if◌then◌else◌}
use Rattle.std.specs.Str.{bytes_eq}
use Rattle.iso_model.specs.Terms.Trees.{Tree, Variable, Integer, Name, Apply, End, More, count}
use Rattle.iso_model.specs.Search.Keys.{Key, key, key_of}
use Rattle.iso_model.specs.Search.Additions.{head_of, body_of}
use Rattle.iso_model.specs.Session.Directives.{TextTerm, AClause, Directive, Initialization, PassedOver, text_term}

-- ---- definitions

abbrev pub defined_by : Tree → TextTerm → Option Key
defined_by t AClause = key_of (head_of t)
defined_by t (Directive goal) = None
defined_by t (Initialization goal) = None
defined_by t PassedOver = None

-- the procedure that a term of the text defines, which is one of its clauses
abbrev pub defined : Tree → Option Key
defined t = defined_by t (text_term t)

-- ---- calls

-- the body of a clause that has one; a fact's is `true`
abbrev pub match_body : Option Tree → Tree
match_body None = Name (codes "true")
match_body (Some body) = body

-- whether a goal of this name calls its one argument, and a goal of this name its two arguments
abbrev pub calls_one : List ℕ → Bool
calls_one f = bytes_eq f (codes "call") || (bytes_eq f (codes "once") || bytes_eq f (codes "\\+"))

abbrev pub calls_both : List ℕ → Bool
calls_both f = bytes_eq f (codes ",") || (bytes_eq f (codes ";") || bytes_eq f (codes "->"))

-- whether a goal of this name calls the second of its three arguments
abbrev pub calls_second : List ℕ → Bool
calls_second f = bytes_eq f (codes "findall") || (bytes_eq f (codes "bagof") || bytes_eq f (codes "setof"))

-- the procedures that the goal calls of two arguments of this name, of which the arguments call these
abbrev pub called_two : List ℕ → List Key → List Key → List Key
called_two f first second =
    if calls_both f then first ++ second else key f 2 ∷ (if bytes_eq f (codes "^") then second else [])

-- the procedures that the goal calls of three arguments of this name, of which the arguments call these
abbrev pub called_three : List ℕ → List Key → List Key → List Key → List Key
called_three f first second third =
    if calls_second f then second else (if bytes_eq f (codes "catch") then first ++ third else [])

-- The procedures that a goal calls, with itself, in the order of the text: bodies are taken apart, and so are the
-- arguments of goals that call them. A variable or a number calls none.
abbrev pub called : Tree → List Key
called (Variable n) = []
called (Integer z) = []
called (Name a) = key a 0 ∷ []
called (Apply f (More a End)) = key f 1 ∷ (if calls_one f then called a else [])
called (Apply f (More a (More b End))) = called_two f (called a) (called b)
called (Apply f (More a (More b (More c End)))) = key f 3 ∷ called_three f (called a) (called b) (called c)
called (Apply f ts) = key f (count ts) ∷ []
called End = []
called (More t ts) = []

abbrev pub calls_by : Tree → TextTerm → List Key
calls_by t AClause = called (body_of t)
calls_by t (Directive goal) = called goal
calls_by t (Initialization goal) = called goal
calls_by t PassedOver = []

-- the procedures that a term of the text calls
abbrev pub calls : Tree → List Key
calls t = calls_by t (text_term t)

-- ---- declarations

abbrev pub indicated_by : List ℕ → Tree → List Key
indicated_by a (Integer (pos n)) = if nat_le n 255 then key a n ∷ [] else []
indicated_by a t = []

-- the procedure that an indicator `Name/Arity` with these two parts names; none has more than 255 arguments
abbrev pub indicated : Tree → Tree → List Key
indicated (Name a) arity = indicated_by a arity
indicated t arity = []

-- whether a term of this name puts indicators together, as a conjunction or a list
abbrev pub joins : List ℕ → Bool
joins f = bytes_eq f (codes ",") || bytes_eq f (codes ".")

-- The procedures that indicators name, in conjunctions and lists; any other part names none.
abbrev pub declared : Tree → List Key
declared (Apply f (More a (More b End))) =
    if joins f then declared a ++ declared b
    else (if bytes_eq f (codes "/") then indicated a b else [])
declared t = []

-- those that a goal of this name and one argument declares
abbrev pub declared_goal : List ℕ → Tree → List Key
declared_goal declaration (Apply f (More t End)) = if bytes_eq f declaration then declared t else []
declared_goal declaration t = []

abbrev pub declares_by : List ℕ → TextTerm → List Key
declares_by declaration (Directive goal) = declared_goal declaration goal
declares_by declaration AClause = []
declares_by declaration (Initialization goal) = []
declares_by declaration PassedOver = []

-- those that a term of the text declares, as `dynamic/1` or `discontiguous/1`
abbrev pub declares : List ℕ → Tree → List Key
declares declaration t = declares_by declaration (text_term t)
