-- Terms and bodies by their parts: keys, the goals that can be kept, and the terms of bodies.
use Rattle.std.proofs.Common.{◌≡◌, ◌<◌, ℕ, List, [], ◌∷◌, ◌++◌, refl, sym, ap, ◌∙◌, subst, arith, true, false, ◌&&◌, ◌||◌, ◌==◌, inl, inr, Option, Some, None, codes, String, Vec, Global, vec_len, nat_le}
use Rattle.std.specs.String.{string_bytes}
use Rattle.std.specs.Str.{bytes_eq}
use Rattle.std.proofs.lemmas.Bool.{cases_Bool, and_parts, or_cases, or_left, or_right, false≢true, leb-true}
use Rattle.iso_model.specs.declared.terms.Term.{Term}
use Rattle.iso_model.specs.declared.terms.Term.TheVariants.{Compound}
use Rattle.iso_model.specs.Terms.Trees.{Tree, Variable, Name, Apply, End, More, count}
use Rattle.iso_model.specs.Terms.TermOf.{term_of}
use Rattle.iso_model.specs.Terms.Sorts.{is_term}
use Rattle.iso_model.specs.Terms.Variables.{occurs}
use Rattle.iso_model.specs.Search.Bodies.{Body, Cut, Run, And, Or, If, Choose, body_term, converted, two}
use Rattle.iso_model.specs.Search.Databases.{Key, key_of}
use Rattle.iso_model.specs.Search.Errors.{key}
use Rattle.iso_model.proofs.OnTerms.RowLemmas.{term_of_compound, count_row_of}
use Rattle.iso_model.proofs.OnTerms.SortLemmas.{term_fits}
use Rattle.iso_prep.specs.declared.connectives.Connective.{Connective}
use Rattle.iso_prep.specs.Connectives.{connective_of, join_of}
use Rattle.iso_prep.specs.Classes.{goals_of}
use Rattle.iso_prep.proofs.ConversionLemmas.{by_connective, both_parts, converted_by_connective}
use Rattle.iso_prep.proofs.GoalLemmas.{goals_joined}
use Rattle.iso_program.specs.Written.{Fits}
use Rattle.iso_program.specs.Kept.{IsTemplate, AreTemplates}

pub key_of_compound : (t : Term) (f : String Global) (v : Vec Term Global) → t ≡ Compound f v → key_of (term_of t) ≡ Some (key (string_bytes f) (vec_len v))
key_of_compound t f v is =
    let n = count_row_of v.items ∙ sym v.ok.0 in
    rw (is, term_of_compound f v, n) refl

-- ---- goals that can be kept

templates-append : (n : ℕ) (xs ys : List Tree) → AreTemplates n xs → AreTemplates n ys → AreTemplates n (xs ++ ys)
templates-append n [] ys h k = k
templates-append n (x ∷ xs) ys h k = (h.0, templates-append n xs ys h.1 k)

by_templates : (n : ℕ) (o : Option Connective) (a b : Option Body) (goal : Tree) (c : Body) → by_connective o a b goal ≡ Some c → ((x : Body) → a ≡ Some x → AreTemplates n (goals_of x))
    → ((y : Body) → b ≡ Some y → AreTemplates n (goals_of y)) → IsTemplate n goal → AreTemplates n (goals_of c)
by_templates n None a b goal c e first second whole = let same : Run goal ≡ c = cc in subst (λ (d : Body). AreTemplates n (goals_of d)) same (whole, tt)
by_templates n (Some k) a b goal c e first second whole =
    let j = both_parts (join_of k) a b c e in
    let goals : goals_of c ≡ goals_of j.0 ++ goals_of j.1 = ap goals_of j.4 ∙ goals_joined k j.0 j.1 in
    rw goals (templates-append n (goals_of j.0) (goals_of j.1) (first j.0 j.2) (second j.1 j.3))

one_template : (n : ℕ) (t : Tree) (b : Body) (k : Key) → Run t ≡ b → is_term t ≡ true → key_of t ≡ Some k → ((x : ℕ) → occurs x t ≡ true → x < n) → AreTemplates n (goals_of b)
one_template n t b k same fits e below = subst (λ (c : Body). AreTemplates n (goals_of c)) same (record { is = fits; key = (k, e); below = below }, tt)

-- the goals of a body whose variables are below n
pub body_templates : (n : ℕ) (t : Tree) (b : Body) → converted t ≡ Some b → is_term t ≡ true → ((x : ℕ) → occurs x t ≡ true → x < n) → AreTemplates n (goals_of b)
body_templates n (Variable k) b e fits below =
    let same : Run (Apply (codes "call") (More (Variable k) End)) ≡ b = cc in
    one_template n (Apply (codes "call") (More (Variable k) End)) b (record { name = codes "call"; arity = 1 }) same refl refl (λ x o. below x (only x o))
  where
    only : (x : ℕ) → occurs x (Apply (codes "call") (More (Variable k) End)) ≡ true → occurs x (Variable k) ≡ true
    only x o = elim (or_cases (k == x) false o) [ inl here ↦ here | inr there ↦ absurd (false≢true there) ]
body_templates n (Name a) b e fits below =
    elim (cases_Bool (bytes_eq a (codes "!"))) [
      | inl cut ↦ (let d : Some Cut ≡ Some b = rw cut at e in let same : Cut ≡ b = cc in rw (← same) tt)
      | inr other ↦ (let d : Some (Run (Name a)) ≡ Some b = rw other at e in
          let same : Run (Name a) ≡ b = cc in
          one_template n (Name a) b (record { name = a; arity = 0 }) same fits refl below)
    ]
body_templates n (Apply f (More x (More y End))) b e fits below =
    let inner = and_parts (is_term x) (is_term y && true) fits in
    let second = and_parts (is_term y) true inner.1 in
    by_templates n (connective_of f) (converted x) (converted y) (two f x y) b (sym (converted_by_connective f x y) ∙ e)
    (λ c h. body_templates n x c h inner.0 (λ z o. below z (or_left (occurs z x) (occurs z y || false) o)))
    (λ c h. body_templates n y c h second.0 (λ z o. below z (or_right (occurs z x) (occurs z y || false) (or_left (occurs z y) false o))))
    (record { is = fits; key = (record { name = f; arity = count (More x (More y End)) }, refl); below = below })
body_templates n (Apply f t) b e fits below = let same : Run (Apply f t) ≡ b = cc in one_template n (Apply f t) b (record { name = f; arity = count t }) same fits refl below
body_templates n t b e fits below = cc

-- ---- the terms of bodies

-- a term of two arguments has the variables of both
pub two_fits : (n : ℕ) (f : List ℕ) (t u : Tree) → Fits n t → Fits n u → Fits n (two f t u)
two_fits n f t u h k = record {
  arities = rw (h.arities, k.arities) refl;
  below = λ x o.
      elim (or_cases (occurs x t) (occurs x u || false) o) [
        | inl here ↦ h.below x here
        | inr there ↦ elim (or_cases (occurs x u) false there) [ inl second ↦ k.below x second | inr none ↦ absurd (false≢true none) ]
      ];
}

pub templates-parts : (n : ℕ) (xs ys : List Tree) → AreTemplates n (xs ++ ys) → AreTemplates n xs × AreTemplates n ys
templates-parts n [] ys h = (tt, h)
templates-parts n (x ∷ xs) ys h = (let others = templates-parts n xs ys h.1 in ((h.0, others.0), others.1))

pub template_fits : (n : ℕ) (t : Tree) → IsTemplate n t → Fits n t
template_fits n t h = record { arities = term_fits t h.is; below = h.below }

-- a body fits where its goals can be kept
pub body_fits : (n : ℕ) (b : Body) → AreTemplates n (goals_of b) → Fits n (body_term b)
body_fits n Cut h = record { arities = refl; below = λ x o. absurd (false≢true o) }
body_fits n (Run t) h = template_fits n t h.0
body_fits n (And a b) h = (let both = templates-parts n (goals_of a) (goals_of b) h in two_fits n _ _ _ (body_fits n a both.0) (body_fits n b both.1))
body_fits n (Or a b) h = (let both = templates-parts n (goals_of a) (goals_of b) h in two_fits n _ _ _ (body_fits n a both.0) (body_fits n b both.1))
body_fits n (If a b) h = (let both = templates-parts n (goals_of a) (goals_of b) h in two_fits n _ _ _ (body_fits n a both.0) (body_fits n b both.1))
body_fits n (Choose a b c) h =
    let all = templates-parts n (goals_of a) (goals_of b ++ goals_of c) h in
    let others = templates-parts n (goals_of b) (goals_of c) all.1 in
    two_fits n _ _ _ (two_fits n _ _ _ (body_fits n a all.0) (body_fits n b others.0)) (body_fits n c others.1)

-- a term has few arguments
pub few_arguments : (t : Tree) (k : Key) → is_term t ≡ true → key_of t ≡ Some k → k.arity < 256
few_arguments (Name a) k fits e = (let same : record { name = a; arity = 0 } ≡ k = cc in rw (← same) (omega arith))
few_arguments (Apply f ts) k fits e =
    let same : record { name = f; arity = count ts } ≡ k = cc in
    let many = and_parts (nat_le 1 (count ts)) _ fits in
    let few = and_parts (nat_le (count ts) 255) _ many.1 in
    let most = leb-true _ _ few.0 in
    rw (← same) (omega (arith, most))
few_arguments t k fits e = cc
