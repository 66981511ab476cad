-- Bodies of clauses and goals, converted (ISO/IEC 13211-1:1995, 7.6.2).
use Rattle.std.specs.Prelude.{ℕ, List, Bool, false, Option, Some, None, codes, if◌then◌else◌}
use Rattle.std.specs.Str.{bytes_eq}
use Rattle.iso_model.specs.Terms.Trees.{Tree, Variable, Integer, Name, Apply, End, More}
use Rattle.iso_model.specs.Terms.Substitutions.{Subst, apply}

-- A converted body: control constructs (7.8.4 to 7.8.8) over goals, each of which is an atom or a compound.
pub data Body : Type 0 where
  -- `!`
  Cut : Body
  Run : (goal : Tree) → Body
  -- `A, B`
  And : (first : Body) → (second : Body) → Body
  -- `A ; B`, where A is no `->`
  Or : (first : Body) → (second : Body) → Body
  -- `C -> T` alone
  If : (condition : Body) → (next : Body) → Body
  -- `C -> T ; E`
  Choose : (condition : Body) → (next : Body) → (other : Body) → Body

-- the term with this name and this one argument
abbrev pub one : List ℕ → Tree → Tree
one f t = Apply f (More t End)

-- the term with this name and these two arguments
abbrev pub two : List ℕ → Tree → Tree → Tree
two f t u = Apply f (More t (More u End))

-- a disjunction, or an if-then-else where its left part is an if-then
abbrev pub either : Body → Body → Body
either (If a b) c = Choose a b c
either a c = Or a c

-- both parts, put together in this way, where both can be converted
abbrev pub both : (Body → Body → Body) → Option Body → Option Body → Option Body
both join (Some a) (Some b) = Some (join a b)
both join (Some a) None = None
both join None b = None

-- an atom: the cut, or a goal
abbrev pub converted_name : List ℕ → Body
converted_name a = if bytes_eq a (codes "!") then Cut else Run (Name a)

-- a compound of two arguments: conjunctions, disjunctions and if-thens are converted part by part, any other is a goal
abbrev pub converted_two : List ℕ → Option Body → Option Body → Tree → Option Body
converted_two f a b goal =
    if bytes_eq f (codes ",") then both And a b else
    (if bytes_eq f (codes ";") then both either a b else (if bytes_eq f (codes "->") then both If a b else Some (Run goal)))

-- The converted body: a variable X becomes call(X), conjunctions, disjunctions and if-thens are converted through,
-- and any other part has to be an atom or a compound. Nothing where a part is a number: then the whole body is the
-- culprit.
abbrev pub converted : Tree → Option Body
converted (Variable n) = Some (Run (one (codes "call") (Variable n)))
converted (Integer z) = None
converted (Name a) = Some (converted_name a)
converted (Apply f (More a (More b End))) = converted_two f (converted a) (converted b) (two f a b)
converted (Apply f ts) = Some (Run (Apply f ts))
converted End = None
converted (More t ts) = None

-- the converted body as a term
abbrev pub body_term : Body → Tree
body_term Cut = Name (codes "!")
body_term (Run t) = t
body_term (And a b) = two (codes ",") (body_term a) (body_term b)
body_term (Or a b) = two (codes ";") (body_term a) (body_term b)
body_term (If a b) = two (codes "->") (body_term a) (body_term b)
body_term (Choose a b c) = two (codes ";") (two (codes "->") (body_term a) (body_term b)) (body_term c)

-- the body under a substitution
abbrev pub map_body : Subst → Body → Body
map_body s Cut = Cut
map_body s (Run t) = Run (apply s t)
map_body s (And a b) = And (map_body s a) (map_body s b)
map_body s (Or a b) = Or (map_body s a) (map_body s b)
map_body s (If a b) = If (map_body s a) (map_body s b)
map_body s (Choose a b c) = Choose (map_body s a) (map_body s b) (map_body s c)

-- whether the body is `true` alone, as a fact's is
abbrev pub is_true : Body → Bool
is_true (Run (Name a)) = bytes_eq a (codes "true")
is_true b = false
