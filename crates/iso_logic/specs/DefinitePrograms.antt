-- Which programs are definite, by their terms: Horn clauses without negation, cut, control constructs and built-ins
-- (Lloyd, chapter 2; Apt, chapter 5).
use Rattle.std.specs.Prelude.{List, [], ◌∷◌, Bool, true, false, not, ◌&&◌, ◌||◌, Option, Some, None, codes, if◌then◌else◌}
use Rattle.std.specs.Str.{bytes_eq}
use Rattle.iso_model.specs.Terms.Trees.{Tree, Name, Apply, End, More}
use Rattle.iso_model.specs.Terms.Sorts.{is_term}
use Rattle.iso_model.specs.Search.Keys.{Key, key, key_of}
use Rattle.iso_model.specs.Search.Table.{is_built_in}
use Rattle.iso_model.specs.Search.Additions.{head_of, body_of}

-- the name and arity of a user procedure: there is one, and it is that of no built-in and no control construct
abbrev pub is_user : Option Key → Bool
is_user None = false
is_user (Some k) = not (is_built_in k)

-- a conjunction of goals of user procedures
abbrev pub are_goals : Tree → Bool
are_goals (Apply f (More a (More b End))) = if bytes_eq f (codes ",") then are_goals a && are_goals b else is_user (Some (key f 2))
are_goals t = is_user (key_of t)

-- `true`, or a conjunction of goals of user procedures
abbrev pub is_definite_body : Tree → Bool
is_definite_body (Name a) = bytes_eq a (codes "true") || is_user (Some (key a 0))
is_definite_body t = are_goals t

-- a clause whose head names a user procedure, and whose body is definite; a fact has the body `true`
abbrev pub is_definite_clause : Tree → Bool
is_definite_clause t = is_user (key_of (head_of t)) && is_definite_body (body_of t)

-- all clauses of the program are definite
abbrev pub are_definite : List Tree → Bool
are_definite [] = true
are_definite (t ∷ ts) = is_definite_clause t && are_definite ts

-- all are terms
abbrev pub are_terms : List Tree → Bool
are_terms [] = true
are_terms (t ∷ ts) = is_term t && are_terms ts
