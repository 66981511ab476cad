-- Lemmas on goals of user procedures, on lists of goals under substitutions, and on what clauses prove.
use Rattle.std.proofs.Common.{◌≡◌, ℕ, ◌+◌, ◌<◌, ◌≤◌, List, [], ◌∷◌, ◌++◌, Bool, true, false, Option, Some, None, inl, inr, refl, sym, ap, ap₂, ◌∙◌, subst}
use Rattle.std.proofs.Common.{codes, arith, ◌||◌, if◌then◌else◌}
use Rattle.std.proofs.lemmas.Bool.{eqb-true, cases_lt, false≢true}
use Rattle.std.proofs.lemmas.Slice.Eq.{bytes_eq-Decides}
use Rattle.iso_model.specs.Terms.Trees.{Tree, Variable, Integer, Name, Apply, End, More}
use Rattle.iso_model.specs.Terms.Sorts.{is_term}
use Rattle.iso_model.specs.Terms.Variables.{occurs}
use Rattle.iso_model.specs.Terms.Substitutions.{Subst, apply, compose, Extends}
use Rattle.iso_model.specs.Terms.UnifierLaws.{AllBelow, StaysBelow}
use Rattle.iso_model.specs.Terms.Unification.Applied.{apply_apply, apply_same, apply_absorbs, occurs_from}
use Rattle.iso_model.specs.Terms.Copies.{renamed}
use Rattle.iso_model.specs.Search.Bodies.{Body, Cut, Run, And, Or, If, Choose, two, body_term, map_body, is_true}
use Rattle.iso_model.specs.Search.Databases.{Key, key, key_of}
use Rattle.iso_model.specs.Search.Table.{built_in, is_built_in, is_some_built_in}
use Rattle.iso_model.specs.declared.built_ins.BuiltIn.{BuiltIn}
use Rattle.iso_logic.specs.DefiniteClauses.{IsUserGoal, AreGoals}
use Rattle.iso_logic.specs.Leaves.{images, renamed_all, EachBelow, goals_of}
use Rattle.iso_model.proofs.OnTerms.SortLemmas.{count-apply, row_of_arguments, term_applied}
use Rattle.std.specs.Str.{bytes_eq}

-- ---- keys

pub key_applied : (s : Subst) (t : Tree) {k : Key} → is_term t ≡ true → key_of t ≡ Some k → key_of (apply s t) ≡ Some k
key_applied s (Variable n) {k} term h = let clash : None ≡ Some k = h in cc
key_applied s (Integer z) term h = h
key_applied s (Name a) term h = h
key_applied s (Apply f ts) term h = ap (λ n. Some (key f n)) (count-apply s ts (row_of_arguments f ts term)) ∙ h
key_applied s End term h = h
key_applied s (More t ts) {k} term h = let clash : None ≡ Some k = h in cc

none_of : (b : Option BuiltIn) → is_some_built_in b ≡ false → b ≡ None
none_of None h = refl
none_of (Some b) h = absurd (false≢true (sym h))

or_both : (a b : Bool) → (a || b) ≡ false → (a ≡ false) × (b ≡ false)
or_both true b h = absurd (false≢true (sym h))
or_both false b h = (refl, h)

pub no_built_in : (k : Key) → is_built_in k ≡ false → built_in k ≡ None
no_built_in k h = none_of (built_in k) (or_both _ (is_some_built_in (built_in k)) h).1

-- a term whose key is that of a built-in is no goal of a user procedure
pub built_in_key : (t : Tree) (k j : Key) → key_of t ≡ Some k → key_of t ≡ Some j → is_built_in j ≡ true → is_built_in k ≡ false → ⊥
built_in_key t k j h e taken user = let same : Some k ≡ Some j = sym h ∙ e in let keys : k ≡ j = cc in false≢true (sym user ∙ ap is_built_in keys ∙ taken)

pub true_key : is_built_in (key (codes "true") 0) ≡ true
true_key = refl

pub and_key : is_built_in (key (codes ",") 2) ≡ true
and_key = refl

-- ---- bodies

name_true : (a : List ℕ) (k : Key) → key_of (Name a) ≡ Some k → is_built_in k ≡ false → is_true (Run (Name a)) ≡ false
name_true a k h user = go (is_true (Run (Name a))) refl where
  go : (b : Bool) → is_true (Run (Name a)) ≡ b → is_true (Run (Name a)) ≡ false
  go false e = e
  go true e =
      let same : a ≡ codes "true" = (bytes_eq-Decides a (codes "true")).0 e in
      absurd (built_in_key (Name a) k (key (codes "true") 0) h (ap (λ x. Some (key x 0)) same) true_key user)

pub goals_not_true : (n : ℕ) (b : Body) → AreGoals n b → is_true b ≡ false
goals_not_true n (Run (Variable x)) h = refl
goals_not_true n (Run (Integer z)) h = refl
goals_not_true n (Run (Name a)) h = name_true a h.0.0 h.0.1 h.0.2
goals_not_true n (Run (Apply f ts)) h = refl
goals_not_true n (Run End) h = refl
goals_not_true n (Run (More t ts)) h = refl
goals_not_true n (And a b) h = refl
goals_not_true n Cut h = absurd h
goals_not_true n (Or a b) h = absurd h
goals_not_true n (If a b) h = absurd h
goals_not_true n (Choose a b c) h = absurd h

pub term_mapped : (s : Subst) (b : Body) → body_term (map_body s b) ≡ apply s (body_term b)
term_mapped s Cut = refl
term_mapped s (Run t) = refl
term_mapped s (And a b) = ap₂ (two (codes ",")) (term_mapped s a) (term_mapped s b)
term_mapped s (Or a b) = ap₂ (two (codes ";")) (term_mapped s a) (term_mapped s b)
term_mapped s (If a b) = ap₂ (two (codes "->")) (term_mapped s a) (term_mapped s b)
term_mapped s (Choose a b c) = ap₂ (two (codes ";")) (ap₂ (two (codes "->")) (term_mapped s a) (term_mapped s b)) (term_mapped s c)

-- ---- variables below a number

pub below_more : {k n : ℕ} → k ≤ n → (t : Tree) → AllBelow k t → AllBelow n t
below_more le t h x o = let low = h x o in omega arith

pub renamed_below : (n v : ℕ) (t : Tree) → AllBelow v t → AllBelow (n + v) (renamed n t)
renamed_below n v t h y o =
    let f = occurs_from (λ x. Variable (n + x)) t y o in
    let low = h f.0 f.1 in
    let same : n + f.0 ≡ y = eqb-true (n + f.0) y f.2 in
    omega arith

pub stays_more : {k n : ℕ} {s : Subst} → k ≤ n → StaysBelow k s → StaysBelow n s
stays_more {k} {n} {s} le h = record {
  bound = λ x high. h.bound x (omega arith);
  values = λ x m low o. elim (cases_lt x k) [
    | inl less ↦ (let v = h.values x m less o in omega arith)
    | inr high ↦ (let same : x ≡ m = eqb-true x m (subst (λ t. occurs m t ≡ true) (h.bound x high) o) in omega arith)
  ];
}

pub image_below : (k : ℕ) (r : Subst) → StaysBelow k r → (t : Tree) → AllBelow k t → AllBelow k (apply r t)
image_below k r below t h x o = let f = occurs_from r t x o in below.values f.0 x (h f.0 f.1) f.2

pub apply_below : (n : ℕ) (s t : Subst) (u : Tree) → AllBelow n u → ((x : ℕ) → x < n → s x ≡ t x) → apply s u ≡ apply t u
apply_below n s t u h agree = apply_same s t u (λ x o. agree x (h x o))

-- a substitution of variables below n leaves a term alone whose variables were renamed from n on
pub renamed_stays : (n : ℕ) (s : Subst) → StaysBelow n s → (t : Tree) → apply s (renamed n t) ≡ renamed n t
renamed_stays n s below t =
    apply_apply (λ x. Variable (n + x)) s t ∙ apply_same (compose (λ x. Variable (n + x)) s) (λ x. Variable (n + x)) t
    (λ x o. below.bound (n + x) (omega arith))

goal_renamed : (n : ℕ) (t : Tree) → IsUserGoal t → IsUserGoal (renamed n t)
goal_renamed n t h = (h.0, key_applied (λ x. Variable (n + x)) t h.3 h.1, h.2, term_applied (λ x. Variable (n + x)) t h.3 (λ x o. refl))

pub goals_renamed : (n v : ℕ) (b : Body) → AreGoals v b → AreGoals (n + v) (map_body (λ x. Variable (n + x)) b)
goals_renamed n v (Run t) h = (goal_renamed n t h.0, renamed_below n v t h.1)
goals_renamed n v (And a b) h = (goals_renamed n v a h.0, goals_renamed n v b h.1)
goals_renamed n v Cut h = absurd h
goals_renamed n v (Or a b) h = absurd h
goals_renamed n v (If a b) h = absurd h
goals_renamed n v (Choose a b c) h = absurd h

pub goals_more : {k n : ℕ} → k ≤ n → (b : Body) → AreGoals k b → AreGoals n b
goals_more le (Run t) h = (h.0, below_more le t h.1)
goals_more le (And a b) h = (goals_more le a h.0, goals_more le b h.1)
goals_more le Cut h = absurd h
goals_more le (Or a b) h = absurd h
goals_more le (If a b) h = absurd h
goals_more le (Choose a b c) h = absurd h

-- ---- lists of goals

-- goals of user procedures
abbrev pub AreUserGoals : List Tree → Type 0
AreUserGoals [] = Unit {0}
AreUserGoals (t ∷ ts) = IsUserGoal t × AreUserGoals ts

-- the goals of a conjunction, in order
abbrev pub parts_of : Body → List Tree
parts_of (Run t) = t ∷ []
parts_of (And a b) = parts_of a ++ parts_of b
parts_of Cut = []
parts_of (Or a b) = []
parts_of (If a b) = []
parts_of (Choose a b c) = []

-- a name that stands for a goal of a user procedure is not this one
no_name : (f : List ℕ) (t : Tree) (g : List ℕ) (n : ℕ) → key_of t ≡ Some (key f n) → is_built_in (key g n) ≡ true → IsUserGoal t → bytes_eq f g ≡ false
no_name f t g n named taken user = go (bytes_eq f g) refl where
  go : (b : Bool) → bytes_eq f g ≡ b → bytes_eq f g ≡ false
  go false e = e
  go true e =
      let same : f ≡ g = (bytes_eq-Decides f g).0 e in
      absurd (built_in_key t user.0 (key g n) user.1 (named ∙ ap (λ x. Some (key x n)) same) taken user.2)

one_goal : (t : Tree) → IsUserGoal t → goals_of t ≡ t ∷ []
one_goal (Variable x) user = refl
one_goal (Integer z) user = refl
one_goal (Name a) user = ap (λ b. if b then [] else Name a ∷ []) (no_name a (Name a) (codes "true") 0 refl true_key user)
one_goal (Apply f (More a (More b End))) user =
    ap (λ c. if c then goals_of a ++ goals_of b else two f a b ∷ []) (no_name f (two f a b) (codes ",") 2 refl and_key user)
one_goal (Apply f ts) user = refl
one_goal End user = refl
one_goal (More t ts) user = refl

-- a conjunction's goals are those of its term
pub parts_are : (n : ℕ) (b : Body) → AreGoals n b → goals_of (body_term b) ≡ parts_of b
parts_are n (Run t) g = one_goal t g.0
parts_are n (And a b) g = ap₂ ◌++◌ (parts_are n a g.0) (parts_are n b g.1)
parts_are n Cut g = absurd g
parts_are n (Or a b) g = absurd g
parts_are n (If a b) g = absurd g
parts_are n (Choose a b c) g = absurd g

pub images_join : (s : Subst) (xs ys : List Tree) → images s (xs ++ ys) ≡ images s xs ++ images s ys
images_join s [] ys = refl
images_join s (x ∷ xs) ys = ap (λ zs. apply s x ∷ zs) (images_join s xs ys)

pub images_images : (s t : Subst) (xs : List Tree) → images t (images s xs) ≡ images (compose s t) xs
images_images s t [] = refl
images_images s t (x ∷ xs) = ap₂ (λ y ys. y ∷ ys) (apply_apply s t x) (images_images s t xs)

pub images_renamed_stay : (n : ℕ) (s : Subst) → StaysBelow n s → (xs : List Tree) → images s (renamed_all n xs) ≡ renamed_all n xs
images_renamed_stay n s below [] = refl
images_renamed_stay n s below (x ∷ xs) = ap₂ (λ y ys. y ∷ ys) (renamed_stays n s below x) (images_renamed_stay n s below xs)

pub images_absorb : (s t : Subst) → Extends s t → (xs : List Tree) → images t (images s xs) ≡ images t xs
images_absorb s t h [] = refl
images_absorb s t h (x ∷ xs) = ap₂ (λ y ys. y ∷ ys) (apply_absorbs s t x h) (images_absorb s t h xs)

pub images_below : (n : ℕ) (s t : Subst) (xs : List Tree) → EachBelow n xs → ((x : ℕ) → x < n → s x ≡ t x) → images s xs ≡ images t xs
images_below n s t [] h agree = refl
images_below n s t (x ∷ xs) h agree = ap₂ (λ y ys. y ∷ ys) (apply_below n s t x h.0 agree) (images_below n s t xs h.1 agree)

pub goals_mapped : (s : Subst) (b : Body) → parts_of (map_body s b) ≡ images s (parts_of b)
goals_mapped s Cut = refl
goals_mapped s (Run t) = refl
goals_mapped s (And a b) = ap₂ ◌++◌ (goals_mapped s a) (goals_mapped s b) ∙ sym (images_join s (parts_of a) (parts_of b))
goals_mapped s (Or a b) = refl
goals_mapped s (If a b) = refl
goals_mapped s (Choose a b c) = refl

pub each_join : (n : ℕ) (xs ys : List Tree) → EachBelow n xs → EachBelow n ys → EachBelow n (xs ++ ys)
each_join n [] ys h k = k
each_join n (x ∷ xs) ys h k = (h.0, each_join n xs ys h.1 k)

pub goals_below : (n : ℕ) (b : Body) → AreGoals n b → EachBelow n (parts_of b)
goals_below n (Run t) h = (h.1, tt)
goals_below n (And a b) h = each_join n (parts_of a) (parts_of b) (goals_below n a h.0) (goals_below n b h.1)
goals_below n Cut h = tt
goals_below n (Or a b) h = tt
goals_below n (If a b) h = tt
goals_below n (Choose a b c) h = tt

pub images_stay_below : (n : ℕ) (s : Subst) → StaysBelow n s → (xs : List Tree) → EachBelow n xs → EachBelow n (images s xs)
images_stay_below n s below [] h = tt
images_stay_below n s below (x ∷ xs) h = (image_below n s below x h.0, images_stay_below n s below xs h.1)
