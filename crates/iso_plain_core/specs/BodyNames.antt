-- Bodies of clauses stay what they are where names come.
use Rattle.std.specs.Prelude.{◌≡◌, ℕ, List, [], ◌∷◌, Bool, true, false, MatchBool}
use Rattle.std.proofs.Common.{sym, ap₂, ◌∙◌, refl, subst}
use Rattle.iso_atoms.specs.Texts.{KeepsTexts}
use Rattle.iso_model.specs.Terms.Trees.{Tree}
use Rattle.iso_model.specs.Search.Bodies.{Body, is_true}
use Rattle.iso_model.specs.Search.Databases as databases
use Rattle.iso_prep.specs.declared.bodies.Node.{Node}
use Rattle.iso_prep.specs.declared.bodies.Node.TheVariants as node
use Rattle.iso_store_core.specs.declared.patterns.Pattern.{Pattern}
use Rattle.iso_program.specs.Written.{IsPatternOf, term_in}
use Rattle.iso_program.specs.Kept.{IsTemplate}
use Rattle.iso_program.proofs.WrittenLemmas.{term_is, is_written, written_kept}
use Rattle.iso_plain_core.specs.declared.bodies.ClauseBody.{ClauseBody}
use Rattle.iso_plain_core.specs.Nodes.{IsTree, runs, cuts, joins, branches, commits, chooses, EndsWith, ArePartsOf, EachGoal}
use Rattle.iso_plain_core.specs.Kept.{IsKeptGoal, KeepsBody, goals_in}

pub each_goal : {G : Type 0} {P Q : G → Type 0} → ((g : G) → P g → Q g) → (xs : List (Node G)) → EachGoal P xs
    → EachGoal Q xs
each_goal gives [] h = tt
each_goal gives (node.Run g ∷ xs) h = (gives g h.0, each_goal gives xs h.1)
each_goal gives (node.Cut ∷ xs) h = (tt, each_goal gives xs h.1)
each_goal gives (node.And d ∷ xs) h = (tt, each_goal gives xs h.1)
each_goal gives (node.Or d ∷ xs) h = (tt, each_goal gives xs h.1)
each_goal gives (node.If d ∷ xs) h = (tt, each_goal gives xs h.1)
each_goal gives (node.Choose c d ∷ xs) h = (tt, each_goal gives xs h.1)

-- goals that stand for terms in another way
pub tree_keep : {G : Type 0} {Old New : G → Tree → Type 0} {parts : List (Node G)} {i : ℕ} {b : Body}
    → ((g : G) (t : Tree) → Old g t → New g t) → IsTree Old parts i b → IsTree New parts i b
tree_keep keeps (runs {g = g} {t = t} at stands) = runs at (keeps g t stands)
tree_keep keeps (cuts at) = cuts at
tree_keep keeps (joins at first second some a b) = joins at first second some (tree_keep keeps a) (tree_keep keeps b)
tree_keep keeps (branches at first second some a b) =
    branches at first second some (tree_keep keeps a) (tree_keep keeps b)
tree_keep keeps (commits at first second some a b) =
    commits at first second some (tree_keep keeps a) (tree_keep keeps b)
tree_keep keeps (chooses at first second third some also a b c) =
    chooses at first second third some also (tree_keep keeps a) (tree_keep keeps b) (tree_keep keeps c)

-- ---- names come

module _ (old new : List (List ℕ)) (texts : KeepsTexts old new) where
  pub goal_kept : (n : ℕ) (g : Pattern) → IsKeptGoal old n g → IsKeptGoal new n g
  goal_kept n g is =
      let there = written_kept old new texts g (term_in old g) is.written in
      record {
        written = is_written new g (term_in old g) there;
        template = subst (λ (t : Tree). IsTemplate n t) (sym (term_is new g (term_in old g) there)) is.template;
      }

  goals_kept : (n : ℕ) (parts : List (Node Pattern)) → EachGoal (IsKeptGoal old n) parts
      → goals_in new parts ≡ goals_in old parts
  goals_kept n [] h = refl
  goals_kept n (node.Run g ∷ parts) h =
      ap₂ ◌∷◌ (term_is new g (term_in old g) (written_kept old new texts g (term_in old g) h.0.written))
      (goals_kept n parts h.1)
  goals_kept n (node.Cut ∷ parts) h = goals_kept n parts h.1
  goals_kept n (node.And d ∷ parts) h = goals_kept n parts h.1
  goals_kept n (node.Or d ∷ parts) h = goals_kept n parts h.1
  goals_kept n (node.If d ∷ parts) h = goals_kept n parts h.1
  goals_kept n (node.Choose c d ∷ parts) h = goals_kept n parts h.1

  ends_kept : (parts : List (Node Pattern)) (b : Body) → EndsWith (IsPatternOf old) parts b
      → EndsWith (IsPatternOf new) parts b
  ends_kept parts b ends = record { some = ends.some; last = tree_keep (written_kept old new texts) ends.last }

  if_not : (b : Bool) (A : Type 0) {B D : Type 0} → (B → D) → MatchBool b A B → MatchBool b A D
  if_not true A on h = h
  if_not false A on h = on h

  parts_kept : (parts : List (Node Pattern)) (b : Body) → ArePartsOf (IsPatternOf old) parts b
      → ArePartsOf (IsPatternOf new) parts b
  parts_kept parts b are = if_not (is_true b) (parts ≡ []) (ends_kept parts b) are

-- a clause's body stays so
pub body_kept : (old new : List (List ℕ)) (kept : ClauseBody) (c : databases.Clause) → KeepsTexts old new
    → KeepsBody old kept c → KeepsBody new kept c
body_kept old new kept c texts is = record {
  parts = parts_kept old new texts kept.parts.items c.body is.parts;
  goals = goals_kept old new texts c.variables kept.parts.items is.goal_templates ∙ is.goals;
  goal_templates = each_goal (goal_kept old new texts c.variables) kept.parts.items is.goal_templates;
}
