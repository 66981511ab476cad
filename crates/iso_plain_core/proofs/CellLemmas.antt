-- How many cells the parts of clauses and converted goals take.
use Rattle.std.proofs.Common.{◌≡◌, ℕ, zero, suc, ◌+◌, ◌≤◌, ◌<◌, List, [], ◌∷◌, ◌++◌, length, take, get_or, add-one, Option, None, refl, ap, ap₂, ◌∙◌, arith}
use Rattle.std.proofs.Math.Seq.{take-suc}
use Rattle.iso_model.specs.Terms.Trees.{Tree}
use Rattle.iso_model.specs.Search.Bodies.{Body}
use Rattle.iso_store_core.specs.Presents.{Present, meaning}
use Rattle.iso_store_core.specs.declared.patterns.Pattern.{Pattern}
use Rattle.iso_prep.specs.declared.bodies.Node.{Node}
use Rattle.iso_search_core.specs.declared.callable_goals.Construct.{Construct}
use Rattle.iso_plain_core.specs.declared.conversion.Task.{Task}
use Rattle.iso_plain_core.specs.declared.conversion.Task.TheVariants.{Second, Next, Other}
use Rattle.iso_plain_core.specs.Cells.{part_cells, parts_cells, word_cells, task_cells, tasks_cells, next_cells}
use Rattle.iso_search_core.specs.Cells.{leaf_cells, conversion_cells}
use Rattle.iso_search_core.specs.Constructs.{IsConstruct}
use Rattle.iso_plain_core.specs.Conversions.{Does, Leads}
use Rattle.iso_search_core.specs.Words.{Extends}
use Rattle.iso_plain_core.proofs.ConversionLemmas.{value_on}
use Rattle.iso_search_core.proofs.CellLemmas.{construct_cells, leaf_within}

-- ---- parts that are copied

pub parts_push : (names : List (List ℕ)) (parts others : List (Node Pattern)) → parts_cells names (parts ++ others) ≡ parts_cells names parts + parts_cells names others
parts_push names [] others = omega arith
parts_push names (part ∷ parts) others = let more = parts_push names parts others in omega (arith, more)

pub next_part : (names : List (List ℕ)) (parts : List (Node Pattern)) (i : ℕ) (part : Node Pattern) → i < length parts → part ≡ get_or parts i part
    → parts_cells names (take (i + 1) parts) ≡ parts_cells names (take i parts) + part_cells names part
next_part names parts i part within is =
    let next : take (i + 1) parts ≡ take i parts ++ part ∷ [] = rw (add-one, take-suc parts i part within, ← is) refl in
    let all = ap (parts_cells names) next ∙ parts_push names (take i parts) (part ∷ []) in
    omega (arith, all)

pub first_parts : (names : List (List ℕ)) (parts : List (Node Pattern)) (i : ℕ) → parts_cells names (take i parts) ≤ parts_cells names parts
first_parts names parts zero = omega arith
first_parts names [] (suc i) = omega arith
first_parts names (part ∷ parts) (suc i) = let more = first_parts names parts i in omega (arith, more)

-- ---- tasks, as words come

module _ {W : Type 0} {p q : Present W} (more : Extends p q 0) where
  task_cells_on : (nodes : List (Node W)) (x : Task W) (o r : Option Body) → Does p nodes x o r → task_cells q x ≡ task_cells p x
  task_cells_on nodes (Second k w) o r h = ap conversion_cells (value_on more w h.0)
  task_cells_on nodes (Next t e) o r h = ap₂ (λ u v. conversion_cells u + conversion_cells v) (value_on more t h.0) (value_on more e h.1)
  task_cells_on nodes (Other i e) o r h = ap conversion_cells (value_on more e h.0)
  task_cells_on nodes x o r h = refl

  tasks_cells_on : (nodes : List (Node W)) (xs : List (Task W)) (o whole : Option Body) → Leads p nodes xs o whole → tasks_cells q xs ≡ tasks_cells p xs
  tasks_cells_on nodes [] o whole h = refl
  tasks_cells_on nodes (x ∷ xs) o whole h = ap₂ (λ m n. m + n) (task_cells_on nodes x h.0 whole h.2) (tasks_cells_on nodes xs o h.0 h.1)

  -- a part without parts was read
  pub leaf_left : (nodes : List (Node W)) (xs : List (Task W)) (o whole : Option Body) (t : Tree) → Leads p nodes xs o whole → leaf_cells t + (0 + tasks_cells q xs) ≤ conversion_cells t + tasks_cells p xs
  leaf_left nodes xs o whole t leads = let same = tasks_cells_on nodes xs o whole leads in let few = leaf_within t in omega (arith, same, few)

module _ {W : Type 0} (q : Present W) where
  cells_push : (xs : List (Task W)) (x : Task W) → tasks_cells q (xs ++ x ∷ []) ≡ task_cells q x + tasks_cells q xs
  cells_push [] x = refl
  cells_push (y ∷ xs) x = omega (arith, cells_push xs x)

  pub cells_more : (xs ys : List (Task W)) (x : Task W) → ys ≡ xs ++ x ∷ [] → tasks_cells q ys ≡ task_cells q x + tasks_cells q xs
  cells_more xs ys x more = ap (tasks_cells q) more ∙ cells_push xs x

  -- the first of two parts is read next, or the condition
  pub second_cells : (xs ys : List (Task W)) (t : Tree) (c : Construct W) → IsConstruct q t c → ys ≡ xs ++ Second c.connective c.second ∷ [] → leaf_cells t + (word_cells q c.first + tasks_cells q ys) ≤ conversion_cells t + tasks_cells q xs
  second_cells xs ys t c is more =
      let all = cells_more xs ys (Second c.connective c.second) more in
      let whole = ap conversion_cells is.is ∙ construct_cells c.connective (meaning q c.first) (meaning q c.second) in
      let none = ap leaf_cells is.is in
      omega (arith, all, whole, none)

  pub condition_cells : (xs ys : List (Task W)) (t : Tree) (c front : Construct W) → IsConstruct q t c → IsConstruct q (meaning q c.first) front → ys ≡ xs ++ Next front.second c.second ∷ []
      → leaf_cells t + (word_cells q front.first + tasks_cells q ys) ≤ conversion_cells t + tasks_cells q xs
  condition_cells xs ys t c front is inner more =
      let all = cells_more xs ys (Next front.second c.second) more in
      let whole = ap conversion_cells is.is ∙ construct_cells c.connective (meaning q c.first) (meaning q c.second) in
      let first = ap conversion_cells inner.is ∙ construct_cells front.connective (meaning q front.first) (meaning q front.second) in
      let none = ap leaf_cells is.is in
      omega (arith, all, whole, first, none)

  -- a task goes on with a word, or with none
  pub word_left : (xs ys : List (Task W)) (task x : Task W) (w : W) → ys ≡ xs ++ x ∷ [] → word_cells q w + task_cells q x ≡ task_cells q task → word_cells q w + tasks_cells q ys ≤ task_cells q task + tasks_cells q xs
  word_left xs ys task x w more same = let all = cells_more xs ys x more in omega (arith, all, same)

  -- a task was taken where no word is read next
  pub popped_cells : (xs ys : List (Task W)) (x : Task W) (next : Option W) → next ≡ None → ys ≡ xs ++ x ∷ [] → next_cells q next + tasks_cells q ys ≡ task_cells q x + tasks_cells q xs
  popped_cells xs ys x next none more =
      let all = cells_more xs ys x more in
      let nothing = ap (next_cells q) none in
      omega (arith, all, nothing)
