-- Goals are converted part by part, where they stand.
use Rattle.std.proofs.Common.{◌≡◌, ℕ, ◌+◌, ◌-◌, ◌*◌, List, [], ◌∷◌, ◌++◌, length, true, refl, sym, ap, ap₂, ◌∙◌, subst, arith, append_assoc, Option, Some, None}
use Rattle.iso_model.specs.Terms.Trees.{Tree}
use Rattle.iso_model.specs.Terms.Sizes.{size}
use Rattle.iso_model.specs.Terms.Substitutions.{apply}
use Rattle.iso_model.specs.Search.Bodies as bodies
use Rattle.iso_model.specs.Search.Bodies.{Body, Run, two, converted, map_body}
use Rattle.iso_store_core.specs.Presents.{Present, meaning}
use Rattle.iso_prep.specs.declared.connectives.Connective.{Connective}
use Rattle.iso_prep.specs.declared.connectives.Connective.TheVariants as connective
use Rattle.iso_prep.specs.Connectives.{text_of}
use Rattle.iso_prep.specs.Trees.{joint}
use Rattle.iso_prep.specs.Readings.{NoChoice, plain_join}
use Rattle.iso_prep.proofs.TreeLemmas.{at_last, tree_more, ends_with, joint_ends, choice_ends}
use Rattle.iso_prep.specs.declared.bodies.Node.{Node}
use Rattle.iso_prep.specs.declared.bodies.Node.TheVariants as node
use Rattle.iso_search_core.specs.declared.callable_goals.Construct.{Construct}
use Rattle.iso_plain_core.specs.declared.conversion.Task.{Task}
use Rattle.iso_plain_core.specs.declared.conversion.Task.TheVariants.{Second, Join, Next, Other, Choose}
use Rattle.iso_plain_core.specs.Entering.{Adds}
use Rattle.iso_search_core.specs.Words.{Extends}
use Rattle.iso_plain_core.specs.Nodes.{IsTree, EndsWith, runs, cuts, joins, branches, commits, chooses}
use Rattle.iso_plain_core.specs.Standing.{IsBody}
use Rattle.iso_plain_core.specs.Conversions.{joined, chosen, IsValue, IsLeaf, Does, Leads, Works, task_load, tasks_load, next_load, GoesOn, Places}
use Rattle.iso_search_core.specs.Constructs.{IsConstruct}
use Rattle.iso_plain_core.specs.BodyNames.{tree_keep}
use Rattle.iso_plain_core.proofs.ConvertedLemmas.{converted_joined}

-- items that were added to those that were
pub adds_on : {X : Type 0} (xs ys zs : List X) → Adds xs ys → Adds ys zs → Adds xs zs
adds_on xs ys zs first second = (first.0 ++ second.0, second.1 ∙ ap (λ us. us ++ second.0) first.1 ∙ append_assoc xs first.0 second.0)

-- ---- a store to which words came

module _ {W : Type 0} {p q : Present W} (more : Extends p q 0) where
  pub value_on : (w : W) → p.holds w ≡ true → meaning q w ≡ meaning p w
  value_on w h = ap₂ apply more.substitution (more.words.terms w h)

  is_value_on : (w : W) (t : Tree) → IsValue p w t → IsValue q w t
  is_value_on w t h = (more.words.stand w h.0, h.1 ∙ sym (value_on w h.0))

  does_on : (nodes : List (Node W)) (x : Task W) (o r : Option Body) → Does p nodes x o r → Does q nodes x o r
  does_on nodes (Second k w) o r h = (more.words.stand w h.0, h.1 ∙ ap (λ t. joined k o (converted t)) (sym (value_on w h.0)))
  does_on nodes (Join k i) o r h = (h.0, tree_keep is_value_on h.1, h.2)
  does_on nodes (Next t e) o r h =
      (more.words.stand t h.0, more.words.stand e h.1, h.2 ∙ ap₂ (λ u v. chosen o (converted u) (converted v)) (sym (value_on t h.0)) (sym (value_on e h.1)))
  does_on nodes (Other i e) o r h = (more.words.stand e h.0, h.1, tree_keep is_value_on h.2, h.3 ∙ ap (λ v. chosen (Some h.1) o (converted v)) (sym (value_on e h.0)))
  does_on nodes (Choose i j) o r h = (h.0, h.1, tree_keep is_value_on h.2, tree_keep is_value_on h.3, h.4)

  leads_on : (nodes : List (Node W)) (xs : List (Task W)) (o whole : Option Body) → Leads p nodes xs o whole → Leads q nodes xs o whole
  leads_on nodes [] o whole h = h
  leads_on nodes (x ∷ xs) o whole h = (h.0, leads_on nodes xs o h.0 h.1, does_on nodes x h.0 whole h.2)

  load_on : (nodes : List (Node W)) (x : Task W) (o r : Option Body) → Does p nodes x o r → task_load q x ≡ task_load p x
  load_on nodes (Second k w) o r h = ap (λ t. 3 + 4 * size t) (value_on w h.0)
  load_on nodes (Next t e) o r h = ap₂ (λ u v. 7 + 4 * size u + 4 * size v) (value_on t h.0) (value_on e h.1)
  load_on nodes (Other i e) o r h = ap (λ t. 5 + 4 * size t) (value_on e h.0)
  load_on nodes x o r h = refl

  loads_on : (nodes : List (Node W)) (xs : List (Task W)) (o whole : Option Body) → Leads p nodes xs o whole → tasks_load q xs ≡ tasks_load p xs
  loads_on nodes [] o whole h = refl
  loads_on nodes (x ∷ xs) o whole h = ap₂ (λ m n. m + n) (load_on nodes x h.0 whole h.2) (loads_on nodes xs o h.0 h.1)

-- ---- tasks, over one store

joined_some : (k : Connective) (a b : Body) → joined k (Some a) (Some b) ≡ Some (plain_join k a b)
joined_some connective.And a b = refl
joined_some connective.Or a b = refl
joined_some connective.If a b = refl

joined_none : (k : Connective) (y : Option Body) → joined k None y ≡ None
joined_none connective.And y = refl
joined_none connective.Or y = refl
joined_none connective.If y = refl

joined_other_none : (k : Connective) (a : Body) → joined k (Some a) None ≡ None
joined_other_none connective.And a = refl
joined_other_none connective.Or a = refl
joined_other_none connective.If a = refl

module _ {W : Type 0} (q : Present W) where
  does_more : (nodes ys : List (Node W)) (x : Task W) (o r : Option Body) → Does q nodes x o r → Does q (nodes ++ ys) x o r
  does_more nodes ys (Join k i) o r h = (h.0, tree_more ys h.1, h.2)
  does_more nodes ys (Other i e) o r h = (h.0, h.1, tree_more ys h.2, h.3)
  does_more nodes ys (Choose i j) o r h = (h.0, h.1, tree_more ys h.2, tree_more ys h.3, h.4)
  does_more nodes ys x o r h = h

  leads_more : (nodes ys : List (Node W)) (xs : List (Task W)) (o whole : Option Body) → Leads q nodes xs o whole → Leads q (nodes ++ ys) xs o whole
  leads_more nodes ys [] o whole h = h
  leads_more nodes ys (x ∷ xs) o whole h = (h.0, leads_more nodes ys xs o h.0 h.1, does_more nodes ys x h.0 whole h.2)

  leads_push : (nodes : List (Node W)) (xs : List (Task W)) (x : Task W) (o m whole : Option Body) → Does q nodes x o m → Leads q nodes xs m whole → Leads q nodes (xs ++ x ∷ []) o whole
  leads_push nodes [] x o m whole does leads = (o, refl, subst (Does q nodes x o) leads does)
  leads_push nodes (y ∷ xs) x o m whole does leads = (leads.0, leads_push nodes xs x o m leads.0 does leads.1, leads.2)

  leads_popped : (nodes : List (Node W)) (xs : List (Task W)) (x : Task W) (o whole : Option Body) → Leads q nodes (xs ++ x ∷ []) o whole → (m : Option Body) × Does q nodes x o m × Leads q nodes xs m whole
  leads_popped nodes [] x o whole h = (whole, subst (λ c. Does q nodes x c whole) (sym h.1) h.2, refl)
  leads_popped nodes (y ∷ xs) x o whole h =
      let inner = leads_popped nodes xs x o h.0 h.1 in
      (inner.0, inner.1, (h.0, inner.2, h.2))

  loads_push : (xs : List (Task W)) (x : Task W) → tasks_load q (xs ++ x ∷ []) ≡ task_load q x + tasks_load q xs
  loads_push [] x = refl
  loads_push (y ∷ xs) x = omega (arith, loads_push xs x)

  loads_more : (xs ys : List (Task W)) (x : Task W) → ys ≡ xs ++ x ∷ [] → tasks_load q ys ≡ task_load q x + tasks_load q xs
  loads_more xs ys x more = ap (tasks_load q) more ∙ loads_push xs x

  -- where a part can't be converted the whole can't
  does_none : (nodes : List (Node W)) (x : Task W) (r : Option Body) → Does q nodes x None r → r ≡ None
  does_none nodes (Second k w) r h = h.1 ∙ joined_none k (converted (meaning q w))
  does_none nodes (Join k i) r h = h.2 ∙ joined_other_none k h.0
  does_none nodes (Next t e) r h = h.2
  does_none nodes (Other i e) r h = h.3
  does_none nodes (Choose i j) r h = h.4

  pub leads_none : (nodes : List (Node W)) (xs : List (Task W)) (whole : Option Body) → Leads q nodes xs None whole → whole ≡ None
  leads_none nodes [] whole h = sym h
  leads_none nodes (x ∷ xs) whole h = does_none nodes x whole (subst (λ o. Does q nodes x o whole) (leads_none nodes xs h.0 h.1) h.2)

-- ---- a part is read

leaf_ends : {W : Type 0} (q : Present W) (nodes : List (Node W)) (x : Node W) (b : Body) → IsLeaf q x b → EndsWith (IsValue q) (nodes ++ x ∷ []) b
leaf_ends q nodes node.Cut b h = subst (EndsWith (IsValue q) (nodes ++ node.Cut ∷ [])) (sym h) (ends_with nodes node.Cut bodies.Cut (cuts (at_last nodes node.Cut)))
leaf_ends q nodes (node.Run w) b h =
    subst (EndsWith (IsValue q) (nodes ++ node.Run w ∷ [])) (sym h.1) (ends_with nodes (node.Run w) (Run (meaning q w)) (runs (at_last nodes (node.Run w)) (h.0, refl)))
leaf_ends q nodes x b h = absurd h

-- a part without parts was appended
pub leaf_read : {W : Type 0} {p q : Present W} (more : Extends p q 0) (nodes new : List (Node W)) (tasks : List (Task W)) (t : Tree) (x : Node W) (b : Body) (whole : Option Body)
    → IsLeaf q x b → converted t ≡ Some b → new ≡ nodes ++ x ∷ [] → Leads p nodes tasks (converted t) whole → GoesOn q new tasks None whole (1 + 4 * size t + tasks_load p tasks)
leaf_read {p = p} {q = q} more nodes new tasks t x b whole leaf is come leads =
    let loads = loads_on more nodes tasks (converted t) whole leads in
    let on : Leads q nodes tasks (Some b) whole = subst (λ o. Leads q nodes tasks o whole) is (leads_on more nodes tasks (converted t) whole leads) in
    record {
      works = rw come (b, leaf_ends q nodes x b leaf, leads_more q nodes (x ∷ []) tasks (Some b) whole on);
      less = omega (arith, loads);
    }

-- the first of two parts is read next
module _ {W : Type 0} (q : Present W) (nodes : List (Node W)) (xs ys : List (Task W)) (t : Tree) (c : Construct W) (is : IsConstruct q t c) (whole : Option Body) (leads : Leads q nodes xs (converted t) whole) where
  pub second_left : NoChoice c.connective (meaning q c.first) → ys ≡ xs ++ Second c.connective c.second ∷ [] → GoesOn q nodes ys (Some c.first) whole (1 + 4 * size t + tasks_load q xs)
  second_left plain more =
      let all = loads_more q xs ys (Second c.connective c.second) more in
      let parts = ap size is.is in
      record {
        works = (is.first, rw more (leads_push q nodes xs (Second c.connective c.second) (converted (meaning q c.first)) (converted t) whole (is.second, ap converted is.is ∙ converted_joined c.connective (meaning q c.first) (meaning q c.second) plain) leads));
        less = omega (arith, all, parts);
      }

  -- or the condition, where it is an if-then-else
  pub next_left : (front : Construct W) → c.connective ≡ connective.Or → front.connective ≡ connective.If → IsConstruct q (meaning q c.first) front
      → ys ≡ xs ++ Next front.second c.second ∷ [] → GoesOn q nodes ys (Some front.first) whole (1 + 4 * size t + tasks_load q xs)
  next_left front kind inside inner more =
      let first_is : meaning q c.first ≡ two (text_of connective.If) (meaning q front.first) (meaning q front.second) = inner.is ∙ ap (λ j. two (text_of j) (meaning q front.first) (meaning q front.second)) inside in
      let whole_is : t ≡ two (text_of connective.Or) (two (text_of connective.If) (meaning q front.first) (meaning q front.second)) (meaning q c.second) = is.is ∙ ap₂ (λ j u. two (text_of j) u (meaning q c.second)) kind first_is in
      let all = loads_more q xs ys (Next front.second c.second) more in
      let parts = ap size whole_is in
      record {
        works = (inner.first, rw more (leads_push q nodes xs (Next front.second c.second) (converted (meaning q front.first)) (converted t) whole (inner.second, is.second, ap converted whole_is) leads));
        less = omega (arith, all, parts);
      }

-- ---- going on behind a part

module _ {W : Type 0} (q : Present W) (nodes : List (Node W)) (xs ys : List (Task W)) (task : Task W) (b : Body) (m whole : Option Body) (ends : EndsWith (IsValue q) nodes b) (does : Does q nodes task (Some b) m) (leads : Leads q nodes xs m whole) where
  last_at : (i : ℕ) → i ≡ length nodes - 1 → IsTree (IsValue q) nodes i b
  last_at i place = subst (λ j. IsTree (IsValue q) nodes j b) (sym place) ends.last

  pub after_first : (k : Connective) (w : W) (i : ℕ) → task ≡ Second k w → i ≡ length nodes - 1 → ys ≡ xs ++ Join k i ∷ [] → GoesOn q nodes ys (Some w) whole (task_load q task + tasks_load q xs)
  after_first k w i is place more =
      let done = rw is at does in
      let all = loads_more q xs ys (Join k i) more in
      let own = ap (task_load q) is in
      record {
        works = (done.0, rw more (leads_push q nodes xs (Join k i) (converted (meaning q w)) m whole (b, last_at i place, done.1) leads));
        less = omega (arith, all, own);
      }

  pub after_condition : (t e : W) (i : ℕ) → task ≡ Next t e → i ≡ length nodes - 1 → ys ≡ xs ++ Other i e ∷ [] → GoesOn q nodes ys (Some t) whole (task_load q task + tasks_load q xs)
  after_condition t e i is place more =
      let done = rw is at does in
      let all = loads_more q xs ys (Other i e) more in
      let own = ap (task_load q) is in
      record {
        works = (done.0, rw more (leads_push q nodes xs (Other i e) (converted (meaning q t)) m whole (done.1, b, last_at i place, done.2) leads));
        less = omega (arith, all, own);
      }

  pub after_next : (e : W) (i j : ℕ) → task ≡ Other i e → j ≡ length nodes - 1 → ys ≡ xs ++ Choose i j ∷ [] → GoesOn q nodes ys (Some e) whole (task_load q task + tasks_load q xs)
  after_next e i j is place more =
      let done = rw is at does in
      let all = loads_more q xs ys (Choose i j) more in
      let own = ap (task_load q) is in
      record {
        works = (done.0, rw more (leads_push q nodes xs (Choose i j) (converted (meaning q e)) m whole (done.1, b, done.2, last_at j place, done.3) leads));
        less = omega (arith, all, own);
      }

  pub after_second : (k : Connective) (i d : ℕ) (new : List (Node W)) → task ≡ Join k i → d ≡ length nodes - i → new ≡ nodes ++ joint k d ∷ [] → GoesOn q new xs None whole (task_load q task + tasks_load q xs)
  after_second k i d new is back more =
      let done = rw is at does in
      let join = plain_join k done.0 b in
      let on : Leads q nodes xs (Some join) whole = subst (λ o. Leads q nodes xs o whole) (done.2 ∙ joined_some k done.0 b) leads in
      let own = ap (task_load q) is in
      record {
        works = rw more (join, joint_ends nodes i d done.0 b done.1 ends back k, leads_more q nodes (joint k d ∷ []) xs (Some join) whole on);
        less = omega (arith, own);
      }

  pub after_other : (i j d e : ℕ) (new : List (Node W)) → task ≡ Choose i j → d ≡ length nodes - i → e ≡ length nodes - j → new ≡ nodes ++ node.Choose d e ∷ [] → GoesOn q new xs None whole (task_load q task + tasks_load q xs)
  after_other i j d e new is back behind more =
      let done = rw is at does in
      let on : Leads q nodes xs (Some (bodies.Choose done.0 done.1 b)) whole = subst (λ o. Leads q nodes xs o whole) done.4 leads in
      let own = ap (task_load q) is in
      record {
        works = rw more (bodies.Choose done.0 done.1 b, choice_ends nodes i d done.0 b done.2 ends back j e done.1 done.3 behind, leads_more q nodes (node.Choose d e ∷ []) xs (Some (bodies.Choose done.0 done.1 b)) whole on);
        less = omega (arith, own);
      }

-- a task was taken where no word is read next
pub popped : {W : Type 0} (q : Present W) (nodes : List (Node W)) (xs ys : List (Task W)) (x : Task W) (next : Option W) (whole : Option Body) → next ≡ None → ys ≡ xs ++ x ∷ [] → Works q nodes ys next whole
    → (b : Body) × (m : Option Body) × EndsWith (IsValue q) nodes b × Does q nodes x (Some b) m × Leads q nodes xs m whole
popped q nodes xs ys x (Some w) whole none more works = absurd cc
popped q nodes xs ys x None whole none more works =
    let left = subst (λ zs. Leads q nodes zs (Some works.0) whole) more works.2 in
    let p = leads_popped q nodes xs x (Some works.0) whole left in
    (works.0, p.0, works.1, p.1, p.2)

pub popped_load : {W : Type 0} (q : Present W) (xs ys : List (Task W)) (x : Task W) (next : Option W) → next ≡ None → ys ≡ xs ++ x ∷ [] → next_load q next + tasks_load q ys ≡ task_load q x + tasks_load q xs
popped_load q xs ys x next none more =
    let load = ap (next_load q) none in
    let all = loads_more q xs ys x more in
    omega (arith, load, all)

-- ---- the body that was converted

-- a body of values is one of goals, under the substitution
pub body_meant : {W : Type 0} (q : Present W) {nodes : List (Node W)} {i : ℕ} {b : Body} → IsTree (IsValue q) nodes i b → (c : Body) × IsBody q nodes i c × (map_body q.substitution c ≡ b)
body_meant q (runs {g = w} at is) = (Run (q.term w), runs at (is.0, refl), ap Run (sym is.1))
body_meant q (cuts at) = (bodies.Cut, cuts at, refl)
body_meant q (joins at one two some x y) =
    let a = body_meant q x in
    let b = body_meant q y in
    (bodies.And a.0 b.0, joins at one two some a.1 b.1, ap₂ bodies.And a.2 b.2)
body_meant q (branches at one two some x y) =
    let a = body_meant q x in
    let b = body_meant q y in
    (bodies.Or a.0 b.0, branches at one two some a.1 b.1, ap₂ bodies.Or a.2 b.2)
body_meant q (commits at one two some x y) =
    let a = body_meant q x in
    let b = body_meant q y in
    (bodies.If a.0 b.0, commits at one two some a.1 b.1, ap₂ bodies.If a.2 b.2)
body_meant q (chooses at one two three some also x y z) =
    let a = body_meant q x in
    let b = body_meant q y in
    let c = body_meant q z in
    (bodies.Choose a.0 b.0 c.0, chooses at one two three some also a.1 b.1 c.1, λ i. bodies.Choose (a.2 i) (b.2 i) (c.2 i))

-- nothing is left to be done: the last of the nodes is the body
pub all_read : {W : Type 0} (p q : Present W) (old nodes : List (Node W)) (tasks : List (Task W)) (next : Option W) (whole : Option Body) (place : ℕ)
    → Works q nodes tasks next whole → next ≡ None → tasks ≡ [] → Extends p q 0 → Adds old nodes → place ≡ length nodes - 1
    → (b : Body) × (whole ≡ Some b) × Places p q old nodes b place
all_read p q old nodes tasks next whole place works none done more adds last =
    let w = rw (none, done) at works in
    let some = (w.1).some in
    let at = body_meant q (w.1).last in (
      w.0,
      sym w.2,
      record {
        adds = adds;
        words = more.words;
        substitution = more.substitution;
        next = (let same = more.next in omega (arith, same));
        last = omega (arith, some, last);
        body = at.0;
        stands = subst (λ k. IsBody q nodes k at.0) (sym last) at.1;
        values = ap (λ s. map_body s at.0) (sym more.substitution) ∙ at.2;
      },
    )
