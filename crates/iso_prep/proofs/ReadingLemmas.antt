-- Reading a body part by part.
use Rattle.std.proofs.Common.{◌≡◌, ℕ, ◌+◌, ◌-◌, ◌*◌, ◌<◌, List, [], ◌∷◌, ◌++◌, length, refl, sym, ap, ap₂, ◌∙◌, subst, arith, Bool, true, false, inl, inr, Option, Some, None, codes}
use Rattle.std.specs.Str.{bytes_eq}
use Rattle.std.specs.Borrow.{Bor}
use Rattle.std.proofs.lemmas.Bool.{cases_Bool, true≢false}
use Rattle.iso_model.specs.declared.terms.Term.{Term}
use Rattle.iso_model.specs.Terms.Trees.{Tree, Variable, Integer, Name, Apply, End, More}
use Rattle.iso_model.specs.Terms.TermOf.{term_of}
use Rattle.iso_model.specs.Terms.Sizes.{size}
use Rattle.iso_model.specs.Search.Bodies as bodies
use Rattle.iso_model.specs.Search.Bodies.{Body, Run, two, either, converted_name}
use Rattle.iso_prep.specs.declared.connectives.Connective.{Connective}
use Rattle.iso_prep.specs.declared.connectives.Connective.TheVariants as connective
use Rattle.iso_prep.specs.Connectives.{text_of, connective_of, control_of}
use Rattle.iso_prep.specs.declared.bodies.Node.{Node}
use Rattle.iso_prep.specs.declared.constructs.Task.{Task}
use Rattle.iso_prep.specs.declared.constructs.Task.TheVariants.{Second, Join, Next, Other, Choose}
use Rattle.iso_prep.specs.declared.bodies.Node.TheVariants as node
use Rattle.iso_prep.specs.Trees.{IsTree, EndsWith, IsBorrowed, joint}
use Rattle.iso_prep.specs.Readings.{read, read_joined, plain_join, is_if, NoChoice, IsLeaf, Does, Leads, Works, task_load, tasks_load, next_load}
use Rattle.iso_prep.proofs.TreeLemmas.{tree_more, leaf_ends, joint_ends, choice_ends}

-- ---- what is read of a control construct

unfoldable pub is_choice : Body → Bool
is_choice (bodies.If a b) = true
is_choice b = false

pub either_plain : (a b : Body) → is_choice a ≡ false → either a b ≡ bodies.Or a b
unfolding is_choice
either_plain bodies.Cut b h = refl
either_plain (Run t) b h = refl
either_plain (bodies.And x y) b h = refl
either_plain (bodies.Or x y) b h = refl
either_plain (bodies.If x y) b h = absurd (true≢false h)
either_plain (bodies.Choose x y z) b h = refl

pub either_no_choice : (a b : Body) → is_choice (either a b) ≡ false
unfolding is_choice
either_no_choice bodies.Cut b = refl
either_no_choice (Run t) b = refl
either_no_choice (bodies.And x y) b = refl
either_no_choice (bodies.Or x y) b = refl
either_no_choice (bodies.If x y) b = refl
either_no_choice (bodies.Choose x y z) b = refl

joined_no_choice : (o : Option Connective) (a b : Body) (t : Tree) → is_if o ≡ false → is_choice (read_joined o a b t) ≡ false
unfolding is_choice
joined_no_choice None a b t h = refl
joined_no_choice (Some connective.And) a b t h = refl
joined_no_choice (Some connective.Or) a b t h = either_no_choice a b
joined_no_choice (Some connective.If) a b t h = absurd (true≢false h)

read_no_choice : (t : Tree) → is_if (control_of t) ≡ false → is_choice (read t) ≡ false
unfolding is_choice
read_no_choice (Variable n) h = refl
read_no_choice (Integer z) h = refl
read_no_choice (Name a) h = elim (cases_Bool (bytes_eq a (codes "!"))) [ inl mark ↦ rw mark refl | inr other ↦ rw other refl ]
read_no_choice (Apply f (More a (More b End))) h = joined_no_choice (connective_of f) (read a) (read b) (two f a b) h
read_no_choice (Apply f t) h = refl
read_no_choice End h = refl
read_no_choice (More t ts) h = refl

-- parts that are no if-then-else's join as they are
pub read_plain : (k : Connective) (a b : Tree) → NoChoice k a → read (two (text_of k) a b) ≡ plain_join k (read a) (read b)
read_plain connective.And a b h = refl
read_plain connective.Or a b h = either_plain (read a) (read b) (read_no_choice a h)
read_plain connective.If a b h = refl

pub read_choice : (c t e : Tree) → read (two (text_of connective.Or) (two (text_of connective.If) c t) e) ≡ bodies.Choose (read c) (read t) (read e)
read_choice c t e = refl

-- ---- tasks

does_more : (parts ys : List (Node (Bor Term))) (x : Task) (b r : Body) → Does parts x b r → Does (parts ++ ys) x b r
does_more parts ys (Second k t) b r h = h
does_more parts ys (Join k i) b r h = (h.0, tree_more ys h.1, h.2)
does_more parts ys (Next t e) b r h = h
does_more parts ys (Other i e) b r h = (h.0, tree_more ys h.1, h.2)
does_more parts ys (Choose i j) b r h = (h.0, h.1, tree_more ys h.2, tree_more ys h.3, h.4)

pub leads_more : (parts ys : List (Node (Bor Term))) (xs : List Task) (b whole : Body) → Leads parts xs b whole → Leads (parts ++ ys) xs b whole
leads_more parts ys [] b whole h = h
leads_more parts ys (x ∷ xs) b whole h = (h.0, leads_more parts ys xs b h.0 h.1, does_more parts ys x h.0 whole h.2)

pub leads_push : (parts : List (Node (Bor Term))) (xs : List Task) (x : Task) (b m whole : Body) → Does parts x b m → Leads parts xs m whole → Leads parts (xs ++ x ∷ []) b whole
leads_push parts [] x b m whole does leads = (b, refl, subst (Does parts x b) leads does)
leads_push parts (y ∷ xs) x b m whole does leads = (leads.0, leads_push parts xs x b m leads.0 does leads.1, leads.2)

pub leads_popped : (parts : List (Node (Bor Term))) (xs : List Task) (x : Task) (b whole : Body) → Leads parts (xs ++ x ∷ []) b whole → (m : Body) × Does parts x b m × Leads parts xs m whole
leads_popped parts [] x b whole h = (whole, subst (λ c. Does parts x c whole) (sym h.1) h.2, refl)
leads_popped parts (y ∷ xs) x b whole h =
    let inner = leads_popped parts xs x b h.0 h.1 in
    (inner.0, inner.1, (h.0, inner.2, h.2))

pub tasks_load-push : (xs : List Task) (x : Task) → tasks_load (xs ++ x ∷ []) ≡ task_load x + tasks_load xs
tasks_load-push [] x = refl
tasks_load-push (y ∷ xs) x = omega (arith, tasks_load-push xs x)

pub tasks_load-more : (xs ys : List Task) (x : Task) → ys ≡ xs ++ x ∷ [] → tasks_load ys ≡ task_load x + tasks_load xs
tasks_load-more xs ys x more = ap tasks_load more ∙ tasks_load-push xs x

-- ---- reading a part

-- a part without parts was appended
pub leaf_works : (parts new : List (Node (Bor Term))) (tasks : List Task) (x : Node (Bor Term)) (b whole : Body) → IsLeaf x b → new ≡ parts ++ x ∷ [] → Leads parts tasks b whole → Works new tasks None whole
leaf_works parts new tasks x b whole h more leads =
    rw more (b, leaf_ends parts x b h, leads_more parts (x ∷ []) tasks b whole leads)

-- the first of two parts is the next to be read
module _ (parts : List (Node (Bor Term))) (xs ys : List Task) (t : Term) (k : Connective) (first second : Bor Term) (is : term_of t ≡ two (text_of k) (term_of first.now) (term_of second.now)) where
  pub second_left : NoChoice k (term_of first.now) → ys ≡ xs ++ Second k second ∷ [] → (whole : Body) → Leads parts xs (read (term_of t)) whole → Leads parts ys (read (term_of first.now)) whole
  second_left plain more whole leads =
      rw more (leads_push parts xs (Second k second) (read (term_of first.now)) (read (term_of t)) whole (ap read is ∙ read_plain k (term_of first.now) (term_of second.now) plain) leads)

  pub second_load : ys ≡ xs ++ Second k second ∷ [] → 1 + 4 * size (term_of first.now) + tasks_load ys < 1 + 4 * size (term_of t) + tasks_load xs
  second_load more =
      let all = tasks_load-more xs ys (Second k second) more in
      let whole = ap size is in
      omega arith

  -- or the condition, where it is an if-then-else
  module _ (condition next : Bor Term) (kind : k ≡ connective.Or) (inner : term_of first.now ≡ two (text_of connective.If) (term_of condition.now) (term_of next.now)) (more : ys ≡ xs ++ Next next second ∷ []) where
    whole_is : term_of t ≡ two (text_of connective.Or) (two (text_of connective.If) (term_of condition.now) (term_of next.now)) (term_of second.now)
    whole_is = is ∙ ap₂ (λ j u. two (text_of j) u (term_of second.now)) kind inner

    pub next_left : (whole : Body) → Leads parts xs (read (term_of t)) whole → Leads parts ys (read (term_of condition.now)) whole
    next_left whole leads = rw more (leads_push parts xs (Next next second) (read (term_of condition.now)) (read (term_of t)) whole (ap read whole_is) leads)

    pub next_load_left : 1 + 4 * size (term_of condition.now) + tasks_load ys < 1 + 4 * size (term_of t) + tasks_load xs
    next_load_left =
        let all = tasks_load-more xs ys (Next next second) more in
        let whole = ap size whole_is in
        omega arith

-- ---- going on behind a part

module _ (parts : List (Node (Bor Term))) (xs ys : List Task) (task : Task) (b m whole : Body) (ends : EndsWith IsBorrowed parts b) (does : Does parts task b m) (leads : Leads parts xs m whole) where
  pub after_first : (k : Connective) (t : Bor Term) (i : ℕ) → task ≡ Second k t → i ≡ length parts - 1 → ys ≡ xs ++ Join k i ∷ [] → Leads parts ys (read (term_of t.now)) whole
  after_first k t i is place more =
      let done = rw is at does in
      rw more (leads_push parts xs (Join k i) (read (term_of t.now)) m whole (b, subst (λ j. IsTree IsBorrowed parts j b) (sym place) ends.last, done) leads)

  pub after_condition : (t e : Bor Term) (i : ℕ) → task ≡ Next t e → i ≡ length parts - 1 → ys ≡ xs ++ Other i e ∷ [] → Leads parts ys (read (term_of t.now)) whole
  after_condition t e i is place more =
      let done = rw is at does in
      rw more (leads_push parts xs (Other i e) (read (term_of t.now)) m whole (b, subst (λ j. IsTree IsBorrowed parts j b) (sym place) ends.last, done) leads)

  pub after_next : (e : Bor Term) (i j : ℕ) → task ≡ Other i e → j ≡ length parts - 1 → ys ≡ xs ++ Choose i j ∷ [] → Leads parts ys (read (term_of e.now)) whole
  after_next e i j is place more =
      let done = rw is at does in
      rw more (leads_push parts xs (Choose i j) (read (term_of e.now)) m whole (done.0, b, done.1, subst (λ n. IsTree IsBorrowed parts n b) (sym place) ends.last, done.2) leads)

  pub after_second : (k : Connective) (i d : ℕ) (new : List (Node (Bor Term))) → task ≡ Join k i → d ≡ length parts - i → new ≡ parts ++ joint k d ∷ [] → Works new xs None whole
  after_second k i d new is back more =
      let done = rw is at does in
      rw more (m, subst (EndsWith IsBorrowed (parts ++ joint k d ∷ [])) (sym done.2) (joint_ends parts i d done.0 b done.1 ends back k), leads_more parts (joint k d ∷ []) xs m whole leads)

  pub after_other : (i j d e : ℕ) (new : List (Node (Bor Term))) → task ≡ Choose i j → d ≡ length parts - i → e ≡ length parts - j → new ≡ parts ++ node.Choose d e ∷ [] → Works new xs None whole
  after_other i j d e new is back behind more =
      let done = rw is at does in
      rw more (m, subst (EndsWith IsBorrowed (parts ++ node.Choose d e ∷ [])) (sym done.4) (choice_ends parts i d done.0 b done.2 ends back j e done.1 done.3 behind), leads_more parts (node.Choose d e ∷ []) xs m whole leads)

-- a task was taken where no term is read next
pub popped_works : (parts : List (Node (Bor Term))) (xs ys : List Task) (x : Task) (next : Option (Bor Term)) (whole : Body) → next ≡ None → ys ≡ xs ++ x ∷ [] → Works parts ys next whole
    → (b : Body) × (m : Body) × EndsWith IsBorrowed parts b × Does parts x b m × Leads parts xs m whole
popped_works parts xs ys x (Some t) whole none more works = cc
popped_works parts xs ys x None whole none more works =
    let left : Leads parts (xs ++ x ∷ []) works.0 whole = subst (λ zs. Leads parts zs works.0 whole) more works.2 in
    let p = leads_popped parts xs x works.0 whole left in
    (works.0, p.0, works.1, p.1, p.2)

pub popped_load : (xs ys : List Task) (x : Task) (next : Option (Bor Term)) → next ≡ None → ys ≡ xs ++ x ∷ [] → next_load next + tasks_load ys ≡ task_load x + tasks_load xs
popped_load xs ys x next none more =
    let load = ap next_load none in
    let all = tasks_load-more xs ys x more in
    omega arith
