-- Lifting: what a substitution of a goal and one of a clause have in common comes by the unifier of the two.
use Rattle.std.proofs.Common.{◌≡◌, ◌⊎◌, ℕ, ◌+◌, ◌-◌, ◌<◌, List, [], ◌∷◌, ◌++◌, true, inl, inr, refl, sym, ap, ap₂, ◌∙◌, subst, codes, arith, if◌then◌else◌}
use Rattle.std.specs.Prelude.{nat_lt}
use Rattle.std.proofs.lemmas.Bool.{lt-ltb, le-ltb}
use Rattle.iso_model.specs.Terms.Trees.{Tree, Variable, Name}
use Rattle.iso_model.specs.Terms.Sorts.{is_term}
use Rattle.iso_model.specs.Terms.Substitutions.{Subst, apply, compose, Extends}
use Rattle.iso_model.specs.Terms.Unifiers.{Unifier}
use Rattle.iso_model.specs.Terms.UnifierLaws.{AllBelow}
use Rattle.iso_model.specs.Terms.Unification.Applied.{apply_apply, apply_absorbs, apply_same}
use Rattle.iso_model.specs.Terms.Copies.{renamed}
use Rattle.iso_model.specs.Search.Bodies.{Body, Cut, Run, And, Or, If, Choose, body_term}
use Rattle.iso_model.specs.Search.Databases.{Clause}
use Rattle.iso_logic.specs.Provability.{Among, first, later}
use Rattle.iso_logic.specs.DefiniteClauses.{IsUserGoal, AreGoals}
use Rattle.iso_logic.specs.Leaves.{body_goals, images, renamed_all, EachBelow, goals_of}
use Rattle.iso_model.proofs.OnTerms.SortLemmas.{term_applied, unifier_gives_terms}
use Rattle.iso_logic.proofs.GoalLemmas.{key_applied, apply_below, images_join, images_absorb, images_below, parts_of, AreUserGoals, parts_are}

-- the one substitution on the variables below n, and the other on those from n on
abbrev pub joint : ℕ → Subst → Subst → Subst
joint n s r x = if nat_lt x n then s x else r (x - n)

pub joint_low : (n x : ℕ) (s r : Subst) → x < n → joint n s r x ≡ s x
joint_low n x s r low = ap (λ b. if b then s x else r (x - n)) (lt-ltb x n low)

pub joint_high : (n x : ℕ) (s r : Subst) → joint n s r (n + x) ≡ r x
joint_high n x s r =
    let same : n + x - n ≡ x = omega arith in
    ap (λ b. if b then s (n + x) else r (n + x - n)) (le-ltb (n + x) n (omega arith)) ∙ ap r same

pub joint_goal : (n : ℕ) (s r : Subst) (t : Tree) → AllBelow n t → apply (joint n s r) t ≡ apply s t
joint_goal n s r t below = apply_below n (joint n s r) s t below (λ x low. joint_low n x s r low)

pub joint_goals : (n : ℕ) (s r : Subst) (ts : List Tree) → EachBelow n ts → images (joint n s r) ts ≡ images s ts
joint_goals n s r ts below = images_below n (joint n s r) s ts below (λ x low. joint_low n x s r low)

pub joint_renamed : (n : ℕ) (s r : Subst) (t : Tree) → apply (joint n s r) (renamed n t) ≡ apply r t
joint_renamed n s r t =
    apply_apply (λ x. Variable (n + x)) (joint n s r) t ∙ apply_same (compose (λ x. Variable (n + x)) (joint n s r)) r t (λ x o. joint_high n x s r)

pub joint_renamed_all : (n : ℕ) (s r : Subst) (ts : List Tree) → images (joint n s r) (renamed_all n ts) ≡ images r ts
joint_renamed_all n s r [] = refl
joint_renamed_all n s r (t ∷ ts) = ap₂ (λ y ys. y ∷ ys) (joint_renamed n s r t) (joint_renamed_all n s r ts)

-- the two make the goal and the clause's head equal
pub joint_equal : (n : ℕ) (s r : Subst) (g h : Tree) → AllBelow n g → apply r h ≡ apply s g → apply (joint n s r) g ≡ apply (joint n s r) (renamed n h)
joint_equal n s r g h below same = joint_goal n s r g below ∙ sym same ∙ sym (joint_renamed n s r h)

-- and so they come from the goals under the unifier
pub joint_images : (n : ℕ) (s r u : Subst) (body gs : List Tree) → EachBelow n gs → Extends u (joint n s r)
    → images (joint n s r) (images u (renamed_all n body ++ gs)) ≡ images r body ++ images s gs
joint_images n s r u body gs below goes_on =
    images_absorb u (joint n s r) goes_on (renamed_all n body ++ gs) ∙ images_join (joint n s r) (renamed_all n body) gs
    ∙ ap₂ ◌++◌ (joint_renamed_all n s r body) (joint_goals n s r gs below)

pub joint_answer : (n : ℕ) (s r u : Subst) (t : Tree) → AllBelow n t → Extends u (joint n s r) → apply (joint n s r) (apply u t) ≡ apply s t
joint_answer n s r u t below goes_on = apply_absorbs u (joint n s r) t goes_on ∙ joint_goal n s r t below

-- ---- goals of user procedures stay so

pub goal_image : (u : Subst) → ((n : ℕ) → is_term (u n) ≡ true) → (t : Tree) → IsUserGoal t → IsUserGoal (apply u t)
goal_image u terms t h = (h.0, key_applied u t h.3 h.1, h.2, term_applied u t h.3 (λ n o. terms n))

pub goals_image : (u : Subst) → ((n : ℕ) → is_term (u n) ≡ true) → (ts : List Tree) → AreUserGoals ts → AreUserGoals (images u ts)
goals_image u terms [] h = tt
goals_image u terms (t ∷ ts) h = (goal_image u terms t h.0, goals_image u terms ts h.1)

pub user_join : (xs ys : List Tree) → AreUserGoals xs → AreUserGoals ys → AreUserGoals (xs ++ ys)
user_join [] ys h k = k
user_join (x ∷ xs) ys h k = (h.0, user_join xs ys h.1 k)

pub user_goals_of : (n : ℕ) (b : Body) → AreGoals n b → AreUserGoals (parts_of b)
user_goals_of n (Run t) h = (h.0, tt)
user_goals_of n (And a b) h = user_join (parts_of a) (parts_of b) (user_goals_of n a h.0) (user_goals_of n b h.1)
user_goals_of n Cut h = tt
user_goals_of n (Or a b) h = tt
user_goals_of n (If a b) h = tt
user_goals_of n (Choose a b c) h = tt

pub user_body : (n : ℕ) (b : Body) → ((b ≡ Run (Name (codes "true"))) ⊎ AreGoals n b) → AreUserGoals (goals_of (body_term b))
user_body n b (inl e) = subst (λ x. AreUserGoals (goals_of (body_term x))) (sym e) tt
user_body n b (inr g) = subst AreUserGoals (sym (parts_are n b g)) (user_goals_of n b g)

pub head_term : (n : ℕ) (h : Tree) → is_term h ≡ true → is_term (renamed n h) ≡ true
head_term n h term = term_applied (λ x. Variable (n + x)) h term (λ x o. refl)

-- so it is with a clause's goals before others, under the unifier of its head
pub user_entered : (n : ℕ) (u : Subst) (g : Tree) (c : Clause) (gs : List Tree) → Unifier g (renamed n c.head) u → IsUserGoal g → is_term c.head ≡ true
    → ((c.body ≡ Run (Name (codes "true"))) ⊎ AreGoals c.variables c.body) → AreUserGoals gs → AreUserGoals (images u (renamed_all n (body_goals c) ++ gs))
user_entered n u g c gs found user term body others =
    goals_image u (unifier_gives_terms found user.3 (head_term n c.head term)) (renamed_all n (body_goals c) ++ gs)
    (user_join (renamed_all n (body_goals c)) gs (goals_image (λ x. Variable (n + x)) (λ x. refl) (body_goals c) (user_body c.variables c.body body)) others)

pub among_cases : (c d : Clause) (cs : List Clause) → Among c (d ∷ cs) → (d ≡ c) ⊎ Among c cs
among_cases c d cs first = inl refl
among_cases c d cs (later h) = inr h
