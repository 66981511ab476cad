-- The answers of a run: the query under the values of each.
use Rattle.std.specs.Prelude.{◌≡◌, ℕ, List, [], ◌∷◌, ◌==◌, if◌then◌else◌}
use Rattle.iso_model.specs.Terms.Trees.{Tree, Variable}
use Rattle.iso_model.specs.Terms.Variables.{variables}
use Rattle.iso_model.specs.Terms.Substitutions.{Subst, apply}
use Rattle.iso_model.specs.Search.Walker.{World, Answered, Wrote, Ending}
use Rattle.iso_model.specs.Search.Runs.{Trace, Then, Stops}

-- the substitution that gives these values to these variables
abbrev pub valued : List ℕ → List Tree → Subst
valued (x ∷ xs) (t ∷ ts) n = if n == x then t else valued xs ts n
valued xs ts n = Variable n

-- the query with these values for its variables, by first occurrence
abbrev pub with_values : Tree → List Tree → Tree
with_values t vs = apply (valued (variables t) vs) t

-- how a run ends
abbrev pub ending_of : Trace → Ending
ending_of (Then e w r) = ending_of r
ending_of (Stops e w) = e

-- what outlives a run
abbrev pub end_world : Trace → World
end_world (Then e w r) = end_world r
end_world (Stops e w) = w

-- the query under the values of each answer, in order
abbrev pub answers_of : Tree → Trace → List Tree
answers_of q (Then (Answered vs) w r) = with_values q vs ∷ answers_of q r
answers_of q (Then (Wrote bytes) w r) = answers_of q r
answers_of q (Stops e w) = []

-- each event is an answer, and P holds of the query under its values
abbrev pub EachAnswer : (Tree → Type 0) → Tree → Trace → Type 0
EachAnswer P q (Then (Answered vs) w r) = P (with_values q vs) × EachAnswer P q r
EachAnswer P q (Then (Wrote bytes) w r) = ⊥
EachAnswer P q (Stops e w) = Unit {0}

-- the term is an instance of one of these
pub data IsInstanceOfOne (t : Tree) : List Tree → Type 0 where
  this : {a : Tree} {others : List Tree} (s : Subst) → apply s a ≡ t → IsInstanceOfOne t (a ∷ others)
  other : {a : Tree} {others : List Tree} → IsInstanceOfOne t others → IsInstanceOfOne t (a ∷ others)
