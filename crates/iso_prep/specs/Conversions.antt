-- Conversion of terms into bodies, step by step (ISO/IEC 13211-1:1995, 7.6.2).
use Rattle.std.specs.Prelude.{◌≡◌, ℕ, ◌+◌, List, [], ◌∷◌, Bool, true, ◌&&◌, Option, Some, None, is_some, codes}
use Rattle.std.specs.Borrow.{Bor}
use Rattle.iso_model.specs.declared.terms.Term.{Term}
use Rattle.iso_model.specs.Terms.Trees.{Tree, Variable, Apply, End, More}
use Rattle.iso_model.specs.Terms.TermOf.{term_of}
use Rattle.iso_model.specs.Terms.Substitutions.{Subst, apply}
use Rattle.iso_model.specs.Terms.Copies.{place_of}
use Rattle.iso_model.specs.Terms.Building.{Step, Give, Gather}
use Rattle.iso_model.specs.Search.Bodies.{Body, Cut, one, two, converted, body_term}
use Rattle.iso_prep.specs.Connectives.{connective_of}
use Rattle.iso_prep.specs.declared.connectives.Connective.{Connective}
use Rattle.iso_prep.specs.declared.copies.Task.{Task}
use Rattle.iso_prep.specs.declared.copies.Task.TheVariants as task

-- whether the term can be converted
abbrev pub is_callable : Tree → Bool
is_callable t = is_some (converted t)

-- whether each of the terms can
abbrev pub are_callable : List (Bor Term) → Bool
are_callable [] = true
are_callable (t ∷ ts) = is_callable (term_of t.now) && are_callable ts

-- the control construct with its parts put in, and any other compound as it is
abbrev pub joined : Option Connective → List ℕ → Tree → Tree → Tree → Tree
joined (Some k) f a b whole = two f a b
joined None f a b whole = whole

-- the term with call(X) for each variable X that is a goal
abbrev pub with_calls : Tree → Tree
with_calls (Variable n) = one (codes "call") (Variable n)
with_calls (Apply f (More a (More b End))) = joined (connective_of f) f (with_calls a) (with_calls b) (two f a b)
with_calls t = t

-- a term that is a converted body
pub record IsConverted (t : Tree) : Type 0 where
  pub body : Body
  pub is : converted t ≡ Some body
  pub same : body_term body ≡ t

-- the converted body, where there is one
abbrev pub body_from : Option Body → Body
body_from (Some b) = b
body_from None = Cut

-- each variable by its place in the list
abbrev pub numbers : List ℕ → Subst
numbers vs x = Variable (0 + place_of x vs)

-- what is left to do of a copy, where the variables have these places
abbrev pub step_of : List ℕ → Task → Step
step_of vs (task.Body t) = Give (with_calls (apply (numbers vs) (term_of t.now)) ∷ [])
step_of vs (task.Build name n) = Gather name.now n
