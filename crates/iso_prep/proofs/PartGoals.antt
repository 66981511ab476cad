-- The goals of the parts that were read, and of what is still to be read, are those of the whole.
use Rattle.std.proofs.Common.{◌≡◌, ℕ, List, [], ◌∷◌, ◌++◌, refl, sym, ap, ap₂, ◌∙◌, append_assoc, append-nil, Option, Some, None}
use Rattle.std.specs.Borrow.{Bor}
use Rattle.iso_model.specs.declared.terms.Term.{Term}
use Rattle.iso_model.specs.Terms.TermOf.{term_of}
use Rattle.iso_model.specs.Search.Bodies.{Body, two}
use Rattle.iso_prep.specs.declared.connectives.Connective.{Connective}
use Rattle.iso_prep.specs.declared.connectives.Connective.TheVariants as connective
use Rattle.iso_prep.specs.Connectives.{text_of}
use Rattle.iso_prep.specs.declared.bodies.Node.{Node}
use Rattle.iso_prep.specs.declared.bodies.Node.TheVariants as node
use Rattle.iso_prep.specs.declared.constructs.Task.{Task}
use Rattle.iso_prep.specs.declared.constructs.Task.TheVariants.{Second, Next}
use Rattle.iso_prep.specs.Classes.{goals_of}
use Rattle.iso_prep.specs.Trees.{borrowed, goals_in, joint}
use Rattle.iso_prep.specs.Readings.{read, IsLeaf, task_goals, tasks_goals, next_goals, all_goals}
use Rattle.iso_prep.proofs.GoalLemmas.{goals_whole}

goals_in-append : (xs ys : List (Node (Bor Term))) → goals_in borrowed (xs ++ ys) ≡ goals_in borrowed xs ++ goals_in borrowed ys
goals_in-append [] ys = refl
goals_in-append (node.Run g ∷ xs) ys = ap (λ ts. term_of g.now ∷ ts) (goals_in-append xs ys)
goals_in-append (node.Cut ∷ xs) ys = goals_in-append xs ys
goals_in-append (node.And d ∷ xs) ys = goals_in-append xs ys
goals_in-append (node.Or d ∷ xs) ys = goals_in-append xs ys
goals_in-append (node.If d ∷ xs) ys = goals_in-append xs ys
goals_in-append (node.Choose c d ∷ xs) ys = goals_in-append xs ys

tasks_goals-push : (xs : List Task) (x : Task) → tasks_goals (xs ++ x ∷ []) ≡ task_goals x ++ tasks_goals xs
tasks_goals-push [] x = sym (append-nil (task_goals x))
tasks_goals-push (y ∷ xs) x = ap (λ ts. ts ++ task_goals y) (tasks_goals-push xs x) ∙ append_assoc (task_goals x) (tasks_goals xs) (task_goals y)

tasks_goals-more : (xs ys : List Task) (x : Task) → ys ≡ xs ++ x ∷ [] → tasks_goals ys ≡ task_goals x ++ tasks_goals xs
tasks_goals-more xs ys x more = ap tasks_goals more ∙ tasks_goals-push xs x

-- a part without parts
leaf_goals : (x : Node (Bor Term)) (b : Body) → IsLeaf x b → goals_in borrowed (x ∷ []) ≡ goals_of b
leaf_goals node.Cut b h = ap goals_of (sym h)
leaf_goals (node.Run g) b h = ap goals_of (sym h)
leaf_goals (node.And d) b h = absurd h
leaf_goals (node.Or d) b h = absurd h
leaf_goals (node.If d) b h = absurd h
leaf_goals (node.Choose m n) b h = absurd h

pub goals_of_leaf : (parts new : List (Node (Bor Term))) (tasks : List Task) (x : Node (Bor Term)) (b : Body) → IsLeaf x b → new ≡ parts ++ x ∷ [] → all_goals new tasks None ≡ goals_in borrowed parts ++ (goals_of b ++ tasks_goals tasks)
goals_of_leaf parts new tasks x b leaf more =
    let own : goals_in borrowed new ≡ goals_in borrowed parts ++ goals_of b = ap (goals_in borrowed) more ∙ goals_in-append parts (x ∷ []) ∙ ap (λ ts. goals_in borrowed parts ++ ts) (leaf_goals x b leaf) in
    ap (λ ts. ts ++ tasks_goals tasks) own ∙ append_assoc (goals_in borrowed parts) (goals_of b) (tasks_goals tasks)

-- the first of two parts is the next to be read
module _ (parts : List (Node (Bor Term))) (xs ys : List Task) (t : Term) (k : Connective) (first second : Bor Term) (is : term_of t ≡ two (text_of k) (term_of first.now) (term_of second.now)) where
  whole : goals_of (read (term_of t)) ≡ goals_of (read (term_of first.now)) ++ goals_of (read (term_of second.now))
  whole = goals_whole k t [] (second ∷ []) (second ∷ first ∷ []) first second is refl refl

  pub goals_of_two : ys ≡ xs ++ Second k second ∷ [] → all_goals parts ys (Some first) ≡ goals_in borrowed parts ++ (goals_of (read (term_of t)) ++ tasks_goals xs)
  goals_of_two more =
      ap (λ ts. goals_in borrowed parts ++ ts)
      (ap (λ ts. goals_of (read (term_of first.now)) ++ ts) (tasks_goals-more xs ys (Second k second) more) ∙ sym (append_assoc (goals_of (read (term_of first.now))) (goals_of (read (term_of second.now))) (tasks_goals xs))
      ∙ ap (λ ts. ts ++ tasks_goals xs) (sym whole))

  -- or the condition, where it is an if-then-else
  module _ (condition next : Bor Term) (inner : term_of first.now ≡ two (text_of connective.If) (term_of condition.now) (term_of next.now)) (more : ys ≡ xs ++ Next next second ∷ []) where
    pub goals_of_choice : all_goals parts ys (Some condition) ≡ goals_in borrowed parts ++ (goals_of (read (term_of t)) ++ tasks_goals xs)
    goals_of_choice =
        let c = goals_of (read (term_of condition.now)) in
        let n = goals_of (read (term_of next.now)) in
        let e = goals_of (read (term_of second.now)) in
        let both : goals_of (read (term_of first.now)) ≡ c ++ n = ap (λ u. goals_of (read u)) inner in
        let all : goals_of (read (term_of t)) ≡ c ++ (n ++ e) = whole ∙ ap (λ ts. ts ++ e) both ∙ append_assoc c n e in
        ap (λ ts. goals_in borrowed parts ++ ts)
        (ap (λ ts. c ++ ts) (tasks_goals-more xs ys (Next next second) more) ∙ sym (append_assoc c (n ++ e) (tasks_goals xs)) ∙ ap (λ ts. ts ++ tasks_goals xs) (sym all))

-- ---- going on behind a part

module _ (parts new : List (Node (Bor Term))) (xs ys : List Task) (task : Task) where
  -- a term that the task has is the next to be read
  pub goals_of_next : (t : Bor Term) (left : Task) → task_goals task ≡ goals_of (read (term_of t.now)) ++ task_goals left → ys ≡ xs ++ left ∷ [] → all_goals parts ys (Some t) ≡ goals_in borrowed parts ++ (task_goals task ++ tasks_goals xs)
  goals_of_next t left is more =
      ap (λ ts. goals_in borrowed parts ++ ts)
      (ap (λ ts. goals_of (read (term_of t.now)) ++ ts) (tasks_goals-more xs ys left more) ∙ sym (append_assoc (goals_of (read (term_of t.now))) (task_goals left) (tasks_goals xs)) ∙ ap (λ ts. ts ++ tasks_goals xs) (sym is))

  -- what the task joins has been read
  pub goals_of_join : (x : Node (Bor Term)) → task_goals task ≡ [] → goals_in borrowed (x ∷ []) ≡ [] → new ≡ parts ++ x ∷ [] → all_goals new xs None ≡ goals_in borrowed parts ++ (task_goals task ++ tasks_goals xs)
  goals_of_join x is none more =
      ap₂ (λ ts us. ts ++ (us ++ tasks_goals xs)) (ap (goals_in borrowed) more ∙ goals_in-append parts (x ∷ []) ∙ ap (λ ts. goals_in borrowed parts ++ ts) none ∙ append-nil (goals_in borrowed parts)) (sym is)

-- a task was taken where no term is read next
pub goals_popped : (parts : List (Node (Bor Term))) (xs ys : List Task) (x : Task) (next : Option (Bor Term)) → next ≡ None → ys ≡ xs ++ x ∷ [] → all_goals parts ys next ≡ goals_in borrowed parts ++ (task_goals x ++ tasks_goals xs)
goals_popped parts xs ys x next none more = ap₂ (λ o ts. goals_in borrowed parts ++ (next_goals o ++ ts)) none (tasks_goals-more xs ys x more)

-- nothing is left
pub goals_read : (parts : List (Node (Bor Term))) (tasks : List Task) (next : Option (Bor Term)) (b : Body) → next ≡ None → tasks ≡ [] → all_goals parts tasks next ≡ goals_of b → goals_in borrowed parts ≡ goals_of b
goals_read parts tasks next b none done all =
    sym (append-nil (goals_in borrowed parts)) ∙ sym (ap₂ (λ o xs. goals_in borrowed parts ++ (next_goals o ++ tasks_goals xs)) none done) ∙ all

pub joint_goals : (k : Connective) (d : ℕ) → goals_in borrowed (joint k d ∷ []) ≡ []
joint_goals connective.And d = refl
joint_goals connective.Or d = refl
joint_goals connective.If d = refl
