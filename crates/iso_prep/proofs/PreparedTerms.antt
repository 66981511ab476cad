-- What is prepared of a term has terms.
use Rattle.std.proofs.Common.{◌≡◌, List, ◌&&◌, true, refl, sym, ap, ◌∙◌, subst, inl, inr, Option, Some, None, Ok, codes}
use Rattle.std.specs.Str.{bytes_eq}
use Rattle.std.specs.Prelude.{nat_lt, IfSome}
use Rattle.std.proofs.lemmas.Bool.{cases_Bool, and_parts}
use Rattle.iso_model.specs.declared.terms.Term.{Term}
use Rattle.iso_model.specs.Terms.Trees.{Tree, Variable, Integer, Name, Apply, End, More, arities_fit}
use Rattle.iso_model.specs.Terms.TermOf.{term_of}
use Rattle.iso_model.specs.Terms.Variables.{variable_count}
use Rattle.iso_model.specs.Terms.Copies.{copy_from}
use Rattle.iso_model.specs.Terms.Sorts.{is_term}
use Rattle.iso_model.specs.Search.Bodies.{Body, two, converted, body_term}
use Rattle.iso_model.specs.Search.Databases.{Key, key_of}
use Rattle.iso_model.specs.Search.Additions.{Check, Fits, Faulty, TooManyVariables, head_of, body_of, prepared, prepared_head, prepared_body, prepared_small, most_variables}
use Rattle.iso_model.proofs.OnTerms.SortLemmas.{copy_is_term}
use Rattle.iso_model.proofs.OnTerms.MeaningLemmas.{meaning_is_term}
use Rattle.iso_prep.specs.declared.connectives.Connective.{Connective}
use Rattle.iso_prep.specs.Connectives.{connective_of}
use Rattle.iso_prep.specs.Conversions.{joined, with_calls}
use Rattle.iso_prep.specs.Preparations.{Preparation, PreparesClause, PreparesGoal}
use Rattle.iso_prep.specs.PreparationLaws.{HasTerms, PreparedAreTerms}
use Rattle.iso_prep.proofs.ConversionLemmas.{converts}

-- ---- parts

both_terms : (f : List _) (a b : Tree) → is_term (two f a b) ≡ true → (is_term a ≡ true) × (is_term b ≡ true)
both_terms f a b h =
    let first = and_parts (is_term a) (is_term b && true) h in
    (first.0, (and_parts (is_term b) true first.1).0)

two_term : (f : List _) (a b : Tree) → is_term a ≡ true → is_term b ≡ true → is_term (two f a b) ≡ true
two_term f a b h k = rw (h, k) refl

parts_are_terms : (t : Tree) → is_term t ≡ true → (is_term (head_of t) ≡ true) × (is_term (body_of t) ≡ true)
parts_are_terms (Apply f (More h (More b End))) fits =
    elim (cases_Bool (bytes_eq f (codes ":-"))) [
      | inl same ↦ (let parts = both_terms f h b fits in (rw same parts.0, rw same parts.1))
      | inr other ↦ (rw other fits, rw other refl)
    ]
parts_are_terms t fits = (fits, refl)

-- ---- bodies

joined_is_term : (o : Option Connective) (f : List _) (a b whole : Tree) → is_term a ≡ true → is_term b ≡ true → is_term whole ≡ true → is_term (joined o f a b whole) ≡ true
joined_is_term (Some k) f a b whole h k' fits = two_term f a b h k'
joined_is_term None f a b whole h k fits = fits

calls_are_terms : (t : Tree) → is_term t ≡ true → is_term (with_calls t) ≡ true
calls_are_terms (Variable n) h = refl
calls_are_terms (Apply f (More a (More b End))) h =
    let parts = both_terms f a b h in
    joined_is_term (connective_of f) f (with_calls a) (with_calls b) (two f a b) (calls_are_terms a parts.0) (calls_are_terms b parts.1) h
calls_are_terms t h = h

converted_is_term : (t : Tree) (b : Body) → converted t ≡ Some b → is_term t ≡ true → is_term (body_term b) ≡ true
converted_is_term t b e h = ap is_term (converts t b e).term ∙ calls_are_terms t h

-- ---- what the checks found

small_found : (t : Tree) (j k : Key) (c b : Body) → prepared_small t j c ≡ Fits k b → c ≡ b
small_found t j k c b e =
    elim (cases_Bool (nat_lt most_variables (variable_count t))) [
      | inl large ↦ absurd (let bad : Faulty TooManyVariables ≡ Fits k b = rw large at e in cc)
      | inr small ↦ (let good : Fits j c ≡ Fits k b = rw small at e in cc)
    ]

body_found : (t : Tree) (j k : Key) (o : Option Body) (b : Body) → prepared_body t j o ≡ Fits k b → o ≡ Some b
body_found t j k None b e = cc
body_found t j k (Some c) b e = ap Some (small_found t j k c b e)

head_found : (t h : Tree) (o : Option Key) (k : Key) (b : Body) → prepared_head t h o ≡ Fits k b → converted (body_of (copy_from t 0)) ≡ Some b
head_found t (Variable n) o k b e = cc
head_found t (Integer z) None k b e = cc
head_found t (Integer z) (Some j) k b e = body_found t j k (converted (body_of (copy_from t 0))) b e
head_found t (Name a) None k b e = cc
head_found t (Name a) (Some j) k b e = body_found t j k (converted (body_of (copy_from t 0))) b e
head_found t (Apply f ts) None k b e = cc
head_found t (Apply f ts) (Some j) k b e = body_found t j k (converted (body_of (copy_from t 0))) b e
head_found t End None k b e = cc
head_found t End (Some j) k b e = body_found t j k (converted (body_of (copy_from t 0))) b e
head_found t (More u us) None k b e = cc
head_found t (More u us) (Some j) k b e = body_found t j k (converted (body_of (copy_from t 0))) b e

-- ---- the law

clause_has_terms : (t : Tree) (p : Preparation) → is_term t ≡ true → (c : Check) → prepared t ≡ c → PreparesClause (λ q. q) t c (Ok p) → HasTerms p
clause_has_terms t p fits (Fits k b) e is =
    let parts = parts_are_terms (copy_from t 0) (copy_is_term t 0 fits) in
    let found = head_found t (head_of t) (key_of (head_of t)) k b e in
    record {
      head = subst (λ h. IfSome h (λ head. is_term head ≡ true)) (sym (ap (λ q. q.head) is)) parts.0;
      body = ap (λ q. is_term (body_term q.body)) is ∙ converted_is_term (body_of (copy_from t 0)) b found parts.1;
    }
clause_has_terms t p fits (Faulty fault) e is = absurd is

goal_has_terms : (t : Tree) (p : Preparation) → is_term t ≡ true → (o : Option Body) → converted (copy_from t 0) ≡ o → PreparesGoal (λ q. q) t o (Ok p) → HasTerms p
goal_has_terms t p fits (Some b) e is = record {
  head = subst (λ h. IfSome h (λ head. is_term head ≡ true)) (sym (ap (λ q. q.head) is)) tt;
  body = ap (λ q. is_term (body_term q.body)) is ∙ converted_is_term (copy_from t 0) b e (copy_is_term t 0 fits);
}
goal_has_terms t p fits None e is = absurd is

pub clause_terms : (t : Term) (p : Preparation) → arities_fit (term_of t) ≡ true → PreparesClause (λ q. q) (term_of t) (prepared (term_of t)) (Ok p) → HasTerms p
clause_terms t p fits h = clause_has_terms (term_of t) p (meaning_is_term t ∙ fits) (prepared (term_of t)) refl h

pub goal_terms : (t : Term) (p : Preparation) → arities_fit (term_of t) ≡ true → PreparesGoal (λ q. q) (term_of t) (converted (copy_from (term_of t) 0)) (Ok p) → HasTerms p
goal_terms t p fits h = goal_has_terms (term_of t) p (meaning_is_term t ∙ fits) (converted (copy_from (term_of t) 0)) refl h

pub prepared_are_terms : PreparedAreTerms
prepared_are_terms t p fits = (clause_has_terms t p fits (prepared t) refl, goal_has_terms t p fits (converted (copy_from t 0)) refl)
