-- What entering a clause takes, against the sizes that the definitions count.
use Rattle.std.proofs.Common.{◌≡◌, ℕ, ◌+◌, ◌*◌, ◌≤◌, List, [], ◌∷◌, ◌++◌, true, ◌&&◌, inl, inr, refl, ap, ◌∙◌, arith, nat_le}
use Rattle.std.proofs.lemmas.Bool.{cases_Bool, and_parts, leb-true}
use Rattle.iso_model.specs.Terms.Trees.{Tree, Integer, Name, Apply, End, More, count}
use Rattle.iso_model.specs.Terms.Sorts.{is_term, is_row}
use Rattle.iso_model.specs.Terms.Sizes.{size}
use Rattle.iso_model.specs.Search.Bodies.{Body, Cut, Run, And, Or, If, Choose, is_true}
use Rattle.iso_model.specs.Search.Databases as databases
use Rattle.iso_model.specs.Search.Walker.{arguments_size, body_size}
use Rattle.iso_prep.specs.Classes.{goals_of}
use Rattle.iso_store_core.proofs.RetainLemmas.{wide-within}
use Rattle.iso_store_core.specs.declared.patterns.Pattern.{Pattern}
use Rattle.iso_prep.specs.declared.bodies.Node.{Node}
use Rattle.iso_prep.specs.declared.bodies.Node.TheVariants as node
use Rattle.iso_search_core.specs.Cells.{term_cells}
use Rattle.iso_plain_core.specs.Cells.{parts_cells, entry_cells}
use Rattle.iso_program.specs.Kept.{IsTemplate, IsClause}
use Rattle.iso_program.specs.Kept.{Keeping}
use Rattle.iso_program.specs.declared.clauses.Clause.{Clause}
use Rattle.iso_plain_core.specs.declared.bodies.ClauseBody.{ClauseBody}
use Rattle.iso_plain_core.specs.Kept.{KeepsBody, IsKeptGoal, goals_in, kept_goals}
use Rattle.iso_plain_core.specs.Nodes.{EachGoal}
use Rattle.iso_program.specs.Written.{term_in}
use Rattle.iso_program.specs.Heads.{head_parts}
use Rattle.iso_program.proofs.WrittenLemmas.{head_is}

mutual
  term_twice : (t : Tree) → is_term t ≡ true → 2 + term_cells t ≤ 2 * size t
  term_twice (Apply f ts) h =
      let some = and_parts (nat_le 1 (count ts)) (nat_le (count ts) 255 && is_row ts) h in
      let few = and_parts (nat_le (count ts) 255) (is_row ts) some.1 in
      let inner = row_twice ts few.1 in
      omega (arith, inner)
  term_twice End h = cc
  term_twice (More t ts) h = cc
  term_twice (Integer z) h = omega (arith, wide-within z)
  term_twice t h = omega arith

  row_twice : (ts : Tree) → is_row ts ≡ true → 2 * count ts + term_cells ts ≤ 2 * size ts
  row_twice End h = omega arith
  row_twice (More t ts) h =
      let both = and_parts (is_term t) (is_row ts) h in
      let first = term_twice t both.0 in
      let others = row_twice ts both.1 in
      omega (arith, first, others)
  row_twice ts h = cc

-- a goal or a head takes at most twice what its arguments count
goal_twice : (t : Tree) → is_term t ≡ true → (n : ℕ) → IsTemplate n t → term_cells t ≤ 2 * arguments_size t
goal_twice (Name a) h n k = omega arith
goal_twice (Apply f ts) h n k =
    let some = and_parts (nat_le 1 (count ts)) (nat_le (count ts) 255 && is_row ts) h in
    let few = and_parts (nat_le (count ts) 255) (is_row ts) some.1 in
    let least = leb-true 1 (count ts) some.0 in
    let inner = row_twice ts few.1 in
    omega (arith, least, inner)
goal_twice End h n k = cc
goal_twice (More t ts) h n k = cc
goal_twice t h n k = absurd (cc k.key.1)

-- what goals count
goals_size : List Tree → ℕ
goals_size [] = 0
goals_size (t ∷ ts) = arguments_size t + goals_size ts

size_joined : (xs ys : List Tree) → goals_size (xs ++ ys) ≡ goals_size xs + goals_size ys
unfolding goals_size
size_joined [] ys = omega arith
size_joined (x ∷ xs) ys = let more = size_joined xs ys in omega (arith, more)

body_counts : (b : Body) → goals_size (goals_of b) ≡ body_size b
unfolding goals_size
body_counts Cut = refl
body_counts (Run t) = omega arith
body_counts (And a b) = size_joined (goals_of a) (goals_of b) ∙ (let x = body_counts a in let y = body_counts b in omega (arith, x, y))
body_counts (Or a b) = size_joined (goals_of a) (goals_of b) ∙ (let x = body_counts a in let y = body_counts b in omega (arith, x, y))
body_counts (If a b) = size_joined (goals_of a) (goals_of b) ∙ (let x = body_counts a in let y = body_counts b in omega (arith, x, y))
body_counts (Choose a b c) =
    let all = size_joined (goals_of a) (goals_of b ++ goals_of c) in
    let others = size_joined (goals_of b) (goals_of c) in
    let x = body_counts a in
    let y = body_counts b in
    let z = body_counts c in
    omega (arith, all, others, x, y, z)

kept_counts : (b : Body) → goals_size (kept_goals b) ≤ body_size b
unfolding goals_size
kept_counts b = elim (cases_Bool (is_true b)) [ inl fact ↦ rw fact (omega arith) | inr rule ↦ rw rule (let all = body_counts b in omega (arith, all)) ]

parts_twice : (names : List (List ℕ)) (n : ℕ) (parts : List (Node Pattern)) → EachGoal (IsKeptGoal names n) parts → parts_cells names parts ≤ 2 * goals_size (goals_in names parts)
unfolding goals_size
parts_twice names n [] h = omega arith
parts_twice names n (node.Run g ∷ parts) h =
    let one = goal_twice (term_in names g) h.0.template.is n h.0.template in
    let others = parts_twice names n parts h.1 in
    omega (arith, one, others)
parts_twice names n (node.Cut ∷ parts) h = let others = parts_twice names n parts h.1 in omega (arith, others)
parts_twice names n (node.And d ∷ parts) h = let others = parts_twice names n parts h.1 in omega (arith, others)
parts_twice names n (node.Or d ∷ parts) h = let others = parts_twice names n parts h.1 in omega (arith, others)
parts_twice names n (node.If d ∷ parts) h = let others = parts_twice names n parts h.1 in omega (arith, others)
parts_twice names n (node.Choose c d ∷ parts) h = let others = parts_twice names n parts h.1 in omega (arith, others)

-- entering a clause takes its variables, and at most twice what its arguments count
pub entry_within : {C : Type 0} {keeps : Keeping C} (names : List (List ℕ)) (kept : Clause C) (body : ClauseBody) (c : databases.Clause) → IsClause keeps names kept c → KeepsBody names body c → entry_cells names kept body.parts.items ≤ c.variables + 2 * (arguments_size c.head + body_size c.body)
entry_within names kept body c is own =
    let head = goal_twice c.head is.head_template.is c.variables is.head_template in
    let same = ap term_cells (head_is names (head_parts kept) c.head is.head) in
    let parts = parts_twice names c.variables body.parts.items own.goal_templates in
    let goals = ap goals_size own.goals in
    let most = kept_counts c.body in
    let count = is.variables in
    omega (arith, head, same, parts, goals, most, count)

-- so do the goals of a query
pub query_within : (names : List (List ℕ)) (n : ℕ) (parts : List (Node Pattern)) (b : Body) → EachGoal (IsKeptGoal names n) parts → goals_in names parts ≡ goals_of b → parts_cells names parts ≤ 2 * body_size b
query_within names n parts b goals terms =
    let twice = parts_twice names n parts goals in
    let same = ap goals_size terms in
    let count = body_counts b in
    omega (arith, twice, same, count)
