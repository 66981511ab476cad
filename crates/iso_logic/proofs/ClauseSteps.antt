-- A clause that is tried: what is asked for follows from the goals that are left, and no leaf is lost, doubled or moved.
use Rattle.std.proofs.Common.{◌≡◌, ◌⊎◌, ℕ, ◌+◌, ◌≤◌, List, [], ◌∷◌, ◌++◌, IfSome, inl, inr, sym, ap, ◌∙◌, subst, codes, arith, if◌then◌else◌}
use Rattle.iso_model.specs.Terms.Trees.{Tree, Variable, Name}
use Rattle.iso_model.specs.Terms.Substitutions.{Subst, apply, compose, Extends}
use Rattle.iso_model.specs.Terms.Unifiers.{Unifier, NeverEqual}
use Rattle.iso_model.specs.Terms.UnifierLaws.{AllBelow, StaysBelow, UnifiesUnder}
use Rattle.iso_model.specs.Terms.Unification.Applied.{apply_apply, apply_absorbs}
use Rattle.iso_model.specs.Terms.Copies.{renamed}
use Rattle.iso_model.specs.Search.Bodies.{Body, Run, body_term, map_body}
use Rattle.iso_model.specs.Search.Databases.{Clause, Procedures}
use Rattle.iso_model.specs.Search.Walker.{Member, Goal, CutTo, Fail, Leave, Raise, Meet, Gather, before}
use Rattle.iso_logic.specs.Provability.{first, Proves, proves_true, proves_head}
use Rattle.iso_logic.specs.DefiniteClauses.{AreGoals, IsDefiniteClause}
use Rattle.iso_logic.specs.Leaves.{body_goals, images, renamed_all, EachBelow, Leaves, Branches, misses, enters, goals_of}
use Rattle.iso_model.proofs.OnTerms.UnifierLemmas.{under_some, unifies_under, unifying_stays_below}
use Rattle.iso_logic.proofs.GoalLemmas.{goals_not_true, term_mapped, below_more, renamed_below, stays_more, image_below, renamed_stays, goals_renamed}
use Rattle.iso_logic.proofs.GoalLemmas.{goals_more, images_join, images_images, images_renamed_stay, goals_mapped, each_join, goals_below, images_stay_below}
use Rattle.iso_logic.proofs.GoalLemmas.{parts_of, parts_are}
use Rattle.iso_logic.proofs.States.{GoodList, goals_in, Running, Trial, Here}

-- ---- lists

pub good_more : {k n : ℕ} → k ≤ n → (ms : List Member) → GoodList k ms → GoodList n ms
good_more le [] h = tt
good_more le (Goal b m ∷ ms) h = (goals_more le b h.0, good_more le ms h.1)
good_more le (CutTo x ∷ ms) h = absurd h
good_more le (Fail ∷ ms) h = absurd h
good_more le (Leave x ∷ ms) h = absurd h
good_more le (Raise ball ∷ ms) h = absurd h
good_more le (Meet ball catcher recovery ∷ ms) h = absurd h
good_more le (Gather x template ∷ ms) h = absurd h

pub list_below : (n : ℕ) (ms : List Member) → GoodList n ms → EachBelow n (goals_in ms)
list_below n [] h = tt
list_below n (Goal b m ∷ ms) h = each_join n (parts_of b) (goals_in ms) (goals_below n b h.0) (list_below n ms h.1)
list_below n (CutTo x ∷ ms) h = absurd h
list_below n (Fail ∷ ms) h = absurd h
list_below n (Leave x ∷ ms) h = absurd h
list_below n (Raise ball ∷ ms) h = absurd h
list_below n (Meet ball catcher recovery ∷ ms) h = absurd h
list_below n (Gather x template ∷ ms) h = absurd h

-- what is there for a list of goals
pub here_leaves : (ps : Procedures) (q : Tree) (n : ℕ) (s : Subst) (ms : List Member) (l : List Tree) → GoodList n ms → Here ps q s ms l
    → Leaves ps (images s (goals_in ms)) (apply s q) l
here_leaves ps q n s [] l h k = k
here_leaves ps q n s (Goal b m ∷ ms) l h k = k
here_leaves ps q n s (CutTo x ∷ ms) l h k = absurd h
here_leaves ps q n s (Fail ∷ ms) l h k = absurd h
here_leaves ps q n s (Leave x ∷ ms) l h k = absurd h
here_leaves ps q n s (Raise ball ∷ ms) l h k = absurd h
here_leaves ps q n s (Meet ball catcher recovery ∷ ms) l h k = absurd h
here_leaves ps q n s (Gather x template ∷ ms) l h k = absurd h

-- a body that is `true` or goals, before other members
before_by : (n v : ℕ) (b : Body) (mark : ℕ) (ms : List Member) (P : List Member → Type 0) → ((b ≡ Run (Name (codes "true"))) ⊎ AreGoals v b)
    → (b ≡ Run (Name (codes "true")) → P ms) → (AreGoals v b → P (Goal (map_body (λ x. Variable (n + x)) b) mark ∷ ms))
    → P (before (map_body (λ x. Variable (n + x)) b) mark ms)
before_by n v b mark ms P (inl e) fact goals = subst (λ x. P (before (map_body (λ x. Variable (n + x)) x) mark ms)) (sym e) (fact e)
before_by n v b mark ms P (inr g) fact goals =
    let c = map_body (λ x. Variable (n + x)) b in
    subst (λ x. P (if x then ms else Goal c mark ∷ ms)) (sym (goals_not_true (n + v) c (goals_renamed n v b g))) (goals g)

pub extends_back : (r u t : Subst) → Extends r u → Extends u t → Extends r t
extends_back r u t h k x = sym (apply_absorbs u t (r x) k) ∙ ap (apply t) (h x) ∙ k x

-- ---- a clause whose head has this unifier with the call

module _ (ps : Procedures) (q : Tree) (n : ℕ) (s : Subst) (call : Tree) (c : Clause) (cs : List Clause) (ms : List Member)
    (trial : Trial ps q n s call (c ∷ cs) ms) where
  head_stays : apply s (renamed n c.head) ≡ renamed n c.head
  head_stays = renamed_stays n s trial.below c.head

  fresh : AllBelow n call × EachBelow n (images s (goals_in ms)) × AllBelow n (apply s q)
  fresh = (trial.call_below, images_stay_below n s trial.below (goals_in ms) (list_below n ms trial.goals), image_below n s trial.below q trial.query)

  pub missed_branch : NeverEqual call (apply s (renamed n c.head)) → (m : List Tree) → Branches ps call cs (images s (goals_in ms)) (apply s q) m
      → Branches ps call (c ∷ cs) (images s (goals_in ms)) (apply s q) m
  missed_branch never m others = misses n fresh (subst (λ h. NeverEqual call h) head_stays never) others

  module _ (u : Subst) (found : Unifier call (apply s (renamed n c.head)) u) where
    lifted : Unifier (apply s call) (apply s (renamed n c.head)) u
    lifted = subst (λ t. Unifier t (apply s (renamed n c.head)) u) (sym trial.fixed) found

    unifies : UnifiesUnder s call (renamed n c.head) (compose s u)
    unifies = unifies_under s call (renamed n c.head) u trial.substitution lifted

    definite : IsDefiniteClause (trial.fine c first).key c
    definite = (trial.fine c first).definite

    stays : StaysBelow (n + c.variables) (compose s u)
    stays =
        subst (λ o. IfSome o (StaysBelow (n + c.variables))) (under_some s call (renamed n c.head) lifted)
        (unifying_stays_below (n + c.variables) s call (renamed n c.head) (stays_more (omega arith) trial.below)
        (below_more (omega arith) call trial.call_below) (renamed_below n c.variables c.head definite.below))

    -- where the clause's body is proved, the call is
    proved_call : (t : Subst) → Extends (compose s u) t → Proves ps (apply (compose (λ x. Variable (n + x)) t) (body_term c.body)) → Proves ps (apply t call)
    proved_call t goes_on body =
        subst (Proves ps)
        (sym (apply_apply (λ x. Variable (n + x)) t c.head) ∙ sym (apply_absorbs (compose s u) t (renamed n c.head) goes_on) ∙ ap (apply t) (sym unifies.equal)
        ∙ apply_absorbs (compose s u) t call goes_on)
        (proves_head (compose (λ x. Variable (n + x)) t) (trial.fine c first).has body)

    running_fact : c.body ≡ Run (Name (codes "true")) → Running ps q (n + c.variables) (compose s u) ms
    running_fact fact = record {
      substitution = unifies.substitution;
      below = stays;
      query = below_more (omega arith) q trial.query;
      goals = good_more (omega arith) ms trial.goals;
      sound = λ t goes_on holds. trial.sound t (extends_back s (compose s u) t unifies.extends goes_on)
          (proved_call t goes_on (subst (λ b. Proves ps (apply (compose (λ x. Variable (n + x)) t) (body_term b))) (sym fact) proves_true)) holds;
    }

    running_goals : (mark : ℕ) → AreGoals c.variables c.body
        → Running ps q (n + c.variables) (compose s u) (Goal (map_body (λ x. Variable (n + x)) c.body) mark ∷ ms)
    running_goals mark body = record {
      substitution = unifies.substitution;
      below = stays;
      query = below_more (omega arith) q trial.query;
      goals = (goals_renamed n c.variables c.body body, good_more (omega arith) ms trial.goals);
      sound = λ t goes_on holds. trial.sound t (extends_back s (compose s u) t unifies.extends goes_on)
          (proved_call t goes_on
          (subst (Proves ps) (ap (apply t) (term_mapped (λ x. Variable (n + x)) c.body) ∙ apply_apply (λ x. Variable (n + x)) t (body_term c.body)) holds.0))
          holds.1;
    }

    pub running_body : (mark : ℕ) → Running ps q (n + c.variables) (compose s u) (before (map_body (λ x. Variable (n + x)) c.body) mark ms)
    running_body mark = before_by n c.variables c.body mark ms (Running ps q (n + c.variables) (compose s u)) definite.body running_fact (running_goals mark)

    branch : (l m : List Tree) → Leaves ps (images u (renamed_all n (body_goals c) ++ images s (goals_in ms))) (apply u (apply s q)) l
        → Branches ps call cs (images s (goals_in ms)) (apply s q) m → Branches ps call (c ∷ cs) (images s (goals_in ms)) (apply s q) (l ++ m)
    branch l m leaves others = enters n u fresh (subst (λ h. Unifier call h u) head_stays found) leaves others

    -- what is there behind the clause's head is its branch's first part
    abbrev Becomes : List Member → Type 0
    Becomes list =
        (l : List Tree) → Here ps q (compose s u) list l → Leaves ps (images u (renamed_all n (body_goals c) ++ images s (goals_in ms))) (apply u (apply s q)) l

    moved : (xs : List Tree) (l : List Tree) → images (compose s u) xs ≡ images u (renamed_all n (body_goals c) ++ images s (goals_in ms))
        → Leaves ps (images (compose s u) xs) (apply (compose s u) q) l
        → Leaves ps (images u (renamed_all n (body_goals c) ++ images s (goals_in ms))) (apply u (apply s q)) l
    moved xs l e h =
        subst (λ t. Leaves ps (images u (renamed_all n (body_goals c) ++ images s (goals_in ms))) t l) (sym (apply_apply s u q))
        (subst (λ ys. Leaves ps ys (apply (compose s u) q) l) e h)

    becomes_fact : c.body ≡ Run (Name (codes "true")) → Becomes ms
    becomes_fact fact l h =
        moved (goals_in ms) l
        (sym (images_images s u (goals_in ms)) ∙ ap (λ b. images u (renamed_all n (goals_of (body_term b)) ++ images s (goals_in ms))) (sym fact))
        (here_leaves ps q n (compose s u) ms l trial.goals h)

    own_goals : AreGoals c.variables c.body → renamed_all n (body_goals c) ≡ parts_of (map_body (λ x. Variable (n + x)) c.body)
    own_goals body =
        ap (renamed_all n) (parts_are c.variables c.body body) ∙ sym (goals_mapped (λ x. Variable (n + x)) c.body)

    becomes_goals : (mark : ℕ) → AreGoals c.variables c.body → Becomes (Goal (map_body (λ x. Variable (n + x)) c.body) mark ∷ ms)
    becomes_goals mark body l h =
        let own = parts_of (map_body (λ x. Variable (n + x)) c.body) in
        let stay : images s own ≡ own = ap (images s) (sym (own_goals body)) ∙ images_renamed_stay n s trial.below (body_goals c) ∙ own_goals body in
        moved (own ++ goals_in ms) l
        (sym (images_images s u (own ++ goals_in ms))
        ∙ ap (images u) (images_join s own (goals_in ms) ∙ ap (λ xs. xs ++ images s (goals_in ms)) (stay ∙ sym (own_goals body))))
        h

    pub becomes : (mark : ℕ) → Becomes (before (map_body (λ x. Variable (n + x)) c.body) mark ms)
    becomes mark = before_by n c.variables c.body mark ms Becomes definite.body becomes_fact (becomes_goals mark)

    pub found_branch : (mark : ℕ) (l m : List Tree) → Here ps q (compose s u) (before (map_body (λ x. Variable (n + x)) c.body) mark ms) l
        → Branches ps call cs (images s (goals_in ms)) (apply s q) m → Branches ps call (c ∷ cs) (images s (goals_in ms)) (apply s q) (l ++ m)
    found_branch mark l m h others = branch l m (becomes mark l h) others
