-- The leaves of the resolution tree of a query, from the left, said without any search. The leftmost goal is
-- resolved, and there is a branch for each clause, in order (Lloyd, chapter 2: SLD trees; Apt, chapter 5: Prolog
-- trees).
use Rattle.std.specs.Prelude.{◌≡◌, ℕ, ◌+◌, List, [], ◌∷◌, ◌++◌, Some, unwrap_or, codes, if◌then◌else◌}
use Rattle.std.specs.Str.{bytes_eq}
use Rattle.iso_model.specs.Terms.Trees.{Tree, Variable, Name, Apply, End, More}
use Rattle.iso_model.specs.Terms.Substitutions.{Subst, apply}
use Rattle.iso_model.specs.Terms.Unifiers.{Unifier, NeverEqual}
use Rattle.iso_model.specs.Terms.UnifierLaws.{AllBelow}
use Rattle.iso_model.specs.Terms.Copies.{renamed}
use Rattle.iso_model.specs.Search.Bodies.{body_term}
use Rattle.iso_model.specs.Search.Databases.{Clause, Procedures, Key, key_of, clauses_at}

-- the clauses of the procedure with this key; without a procedure none
abbrev pub clauses_of : Procedures → Key → List Clause
clauses_of ps k = unwrap_or (clauses_at ps k) []

-- the goals of a conjunction, in order; `true` has none
abbrev pub goals_of : Tree → List Tree
goals_of (Name a) = if bytes_eq a (codes "true") then [] else Name a ∷ []
goals_of (Apply f (More a (More b End))) = if bytes_eq f (codes ",") then goals_of a ++ goals_of b else Apply f (More a (More b End)) ∷ []
goals_of t = t ∷ []

-- the goals of a clause's body
abbrev pub body_goals : Clause → List Tree
body_goals c = goals_of (body_term c.body)

-- these terms under a substitution
abbrev pub images : Subst → List Tree → List Tree
images s [] = []
images s (t ∷ ts) = apply s t ∷ images s ts

-- the terms with n added to the number of each variable
abbrev pub renamed_all : ℕ → List Tree → List Tree
renamed_all n ts = images (λ x. Variable (n + x)) ts

-- all variables of the terms are below n
abbrev pub EachBelow : ℕ → List Tree → Type 0
EachBelow n [] = Unit {0}
EachBelow n (t ∷ ts) = AllBelow n t × EachBelow n ts

-- no variable from n on stands in the goal, the goals behind it or the term
abbrev pub IsFresh : ℕ → Tree → List Tree → Tree → Type 0
IsFresh n g gs t = AllBelow n g × EachBelow n gs × AllBelow n t

mutual
  -- The leaves of the tree for these goals, where t is what is asked for. Without goals the only leaf is t; else the
  -- leaves are those of the branches of the first goal's clauses.
  pub data Leaves (ps : Procedures) : List Tree → Tree → List Tree → Type 0 where
    leaf : {t : Tree} → Leaves ps [] t (t ∷ [])
    calls : {g t : Tree} {gs l : List Tree} {k : Key} → key_of g ≡ Some k → Branches ps g (clauses_of ps k) gs t l → Leaves ps (g ∷ gs) t l

  -- The leaves of the branches of these clauses for the goal g, in order. A clause gets variables of its own, from n
  -- on. Where its head has no unifier with g, it has no branch. Else its leaves are those for the goals of its body
  -- and then the goals behind g, all of them and t under the most general unifier.
  pub data Branches (ps : Procedures) : Tree → List Clause → List Tree → Tree → List Tree → Type 0 where
    none : {g t : Tree} {gs : List Tree} → Branches ps g [] gs t []
    misses : {g t : Tree} {c : Clause} {cs : List Clause} {gs l : List Tree} (n : ℕ) → IsFresh n g gs t → NeverEqual g (renamed n c.head)
        → Branches ps g cs gs t l → Branches ps g (c ∷ cs) gs t l
    enters : {g t : Tree} {c : Clause} {cs : List Clause} {gs l m : List Tree} (n : ℕ) (u : Subst) → IsFresh n g gs t → Unifier g (renamed n c.head) u
        → Leaves ps (images u (renamed_all n (body_goals c) ++ gs)) (apply u t) l → Branches ps g cs gs t m → Branches ps g (c ∷ cs) gs t (l ++ m)
