-- What entering a clause makes of a store and of the nodes.
use Rattle.std.specs.Prelude.{◌≡◌, ℕ, ◌+◌, ◌<◌, List, [], ◌++◌, length, true}
use Rattle.iso_model.specs.Terms.Trees.{Tree, Variable}
use Rattle.iso_model.specs.Terms.Substitutions.{Subst, apply, compose}
use Rattle.iso_model.specs.Terms.Unifiers.{Unifier, NeverEqual}
use Rattle.iso_model.specs.Terms.Copies.{renamed}
use Rattle.iso_store_core.specs.Presents.{Present}
use Rattle.iso_store_core.specs.declared.patterns.Pattern.{Pattern}
use Rattle.iso_store_core.specs.Patterns.{IsPattern}
use Rattle.iso_program.specs.Heads.{head_parts, head_term}
use Rattle.iso_program.specs.Values.{HasValues}
use Rattle.iso_program.specs.Written.{IsWritten, Fits, term_in}
use Rattle.iso_plain_core.specs.Nodes.{IsAlike, AreAlike, EachGoal}
use Rattle.iso_prep.specs.declared.bodies.Node.{Node}
use Rattle.iso_program.specs.declared.clauses.Clause.{Clause}
use Rattle.iso_plain_core.specs.declared.entries.Entered.{Entered}
use Rattle.iso_plain_core.specs.declared.entries.Entered.TheVariants as entered
use Rattle.iso_search_core.specs.Words.{Extends}

-- The pattern is written for such a term, where these are the names of the atoms.
pub record GoalFits (names : List (List ℕ)) (n : ℕ) (g : Pattern) : Type 0 where
  pub written : IsWritten names g
  pub fits : Fits n (term_in names g)

-- The head of the clause is written for such a term.
pub record HeadFits {C : Type 0} (names : List (List ℕ)) (n : ℕ) (clause : Clause C) : Type 0 where
  pub written : IsPattern names (head_parts clause) (head_term names clause)
  pub fits : Fits n (head_term names clause)

-- so are the goals among the parts
abbrev pub PartsFit : List (List ℕ) → ℕ → List (Node Pattern) → Type 0
PartsFit names n parts = EachGoal (GoalFits names n) parts

-- the word stands for the goal under the substitution
abbrev pub IsMade : {W : Type 0} → List (List ℕ) → Present W → Subst → Pattern → W → Type 0
IsMade names p s g w = (p.holds w ≡ true) × (p.term w ≡ apply s (term_in names g))

-- A node comes for the part.
pub record CopiesPart {W : Type 0} (names : List (List ℕ)) (p q : Present W) (s : Subst) (part : Node Pattern) (n : Node W) : Type 0 where
  pub extends : Extends p q 0
  pub is : IsAlike (IsMade names q s) part n

-- items that were added at the end
abbrev pub Adds : {X : Type 0} → List X → List X → Type 0
Adds {X} old new = (more : List X) × (new ≡ old ++ more)

-- Nodes for the parts were added at the end.
pub record Copies {W : Type 0} (names : List (List ℕ)) (p : Present W) (s : Subst) (old new : List (Node W)) (parts : List (Node Pattern)) : Type 0 where
  pub more : List (Node W)
  pub are : new ≡ old ++ more
  pub nodes : AreAlike (IsMade names p s) parts more

-- The head, with its variables new, was unified with the call, and the words have their values under the unifier.
pub record Meets {W : Type 0} (p q : Present W) (call head : Tree) (count : ℕ) : Type 0 where
  pub unifier : Subst
  pub is : Unifier (apply p.substitution call) (apply p.substitution (renamed p.next head)) unifier
  pub values : HasValues p q (compose p.substitution unifier)
  pub next : q.next ≡ p.next + count

-- each variable by its new one
abbrev pub renaming_from : ℕ → Subst
renaming_from n x = Variable (n + x)

-- Nodes for these parts, the clause's body, came, the last of them at this place: for its variables it has terms of their values.
pub record Brings {W C : Type 0} (names : List (List ℕ)) (p q : Present W) (old new : List (Node W)) (call : Tree) (clause : Clause C) (parts : List (Node Pattern)) (place : ℕ) : Type 0 where
  pub meets : Meets p q call (head_term names clause) clause.variables
  pub terms : Subst
  pub values : (k : ℕ) → apply q.substitution (terms k) ≡ compose p.substitution meets.unifier (p.next + k)
  pub copies : Copies names q terms old new parts
  pub last : place + 1 ≡ length new
  pub some : 0 < length parts

-- What trying the clause for a call comes to.
abbrev pub Enters : {W C : Type 0} → List (List ℕ) → Present W → Present W → List (Node W) → List (Node W) → Tree → Clause C → List (Node Pattern) → Entered → Type 0
Enters names p q old new call clause parts entered.Missed = NeverEqual (apply p.substitution call) (apply p.substitution (renamed p.next (head_term names clause)))
Enters names p q old new call clause parts entered.Fact = Meets p q call (head_term names clause) clause.variables × (parts ≡ [])
Enters names p q old new call clause parts (entered.Body place) = Brings names p q old new call clause parts place
