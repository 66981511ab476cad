-- A clause that is added is definite where its term is.
use Rattle.std.proofs.Common.{◌≡◌, ◌⊎◌, ℕ, ◌+◌, List, Bool, true, false, Some, inl, inr, refl, sym, ap, ◌∙◌, subst, codes, arith, if◌then◌else◌, ◌&&◌, ◌||◌}
use Rattle.std.proofs.lemmas.Bool.{or_cases, and_parts, and_from, false≢true}
use Rattle.std.proofs.lemmas.Slice.Eq.{bytes_eq-Decides}
use Rattle.std.specs.Str.{bytes_eq}
use Rattle.iso_model.specs.Terms.Trees.{Tree, Variable, Integer, Name, Apply, End, More}
use Rattle.iso_model.specs.Terms.Sorts.{is_term}
use Rattle.iso_model.specs.Terms.Variables.{variables, variable_count}
use Rattle.iso_model.specs.Terms.Substitutions.{Subst, apply}
use Rattle.iso_model.specs.Terms.UnifierLaws.{AllBelow}
use Rattle.iso_model.specs.Terms.Copies.{copy_from, place_of}
use Rattle.iso_model.specs.Search.Bodies.{Body, Run, two, converted, converted_name}
use Rattle.iso_model.specs.Search.Databases.{Key, key, key_of}
use Rattle.iso_model.specs.Search.Table.{is_built_in}
use Rattle.iso_model.specs.Search.Additions.{clause_of, head_of, body_of}
use Rattle.iso_logic.specs.DefiniteClauses.{AreGoals, IsDefiniteClause}
use Rattle.iso_model.proofs.OnTerms.SortLemmas.{count-apply, row_of_arguments, copy_is_term}
use Rattle.iso_model.proofs.OnTerms.CopyLemmas.{range_of_copy}
use Rattle.iso_logic.proofs.GoalLemmas.{key_applied}
use Rattle.iso_logic.proofs.Conversions.{user_key, pair_below, pair_terms, goals_convert}
use Rattle.iso_logic.specs.DefinitePrograms.{is_user, are_goals, is_definite_body, is_definite_clause}

-- ---- a clause whose variables are renumbered

-- the parts of a clause, by whether its name is `:-`
pub head_below : (n : ℕ) (t : Tree) → AllBelow n t → AllBelow n (head_of t)
head_below n (Apply f (More a (More b End))) h =
    elim (bytes_eq f (codes ":-")) as (λ c. AllBelow n (if c then a else two f a b)) [ true ↦ (pair_below n f a b h).0 | false ↦ h ]
head_below n t h = h

pub body_below : (n : ℕ) (t : Tree) → AllBelow n t → AllBelow n (body_of t)
body_below n (Apply f (More a (More b End))) h =
    elim (bytes_eq f (codes ":-")) as (λ c. AllBelow n (if c then b else Name (codes "true"))) [
      | true ↦ (pair_below n f a b h).1
      | false ↦ λ x o. absurd (false≢true o)
    ]
body_below n t h = λ x o. absurd (false≢true o)

pub head_term : (t : Tree) → is_term t ≡ true → is_term (head_of t) ≡ true
head_term (Apply f (More a (More b End))) h =
    elim (bytes_eq f (codes ":-")) as (λ c. is_term (if c then a else two f a b) ≡ true) [ true ↦ (pair_terms f a b h).0 | false ↦ h ]
head_term t h = h

pub body_term_is : (t : Tree) → is_term t ≡ true → is_term (body_of t) ≡ true
body_term_is (Apply f (More a (More b End))) h =
    elim (bytes_eq f (codes ":-")) as (λ c. is_term (if c then b else Name (codes "true")) ≡ true) [ true ↦ (pair_terms f a b h).1 | false ↦ refl ]
body_term_is t h = refl

module _ (r : ℕ → ℕ) where
  abbrev by : Subst
  by x = Variable (r x)

  pub head_by : (t : Tree) → head_of (apply by t) ≡ apply by (head_of t)
  head_by (Apply f (More a (More b End))) =
      elim (bytes_eq f (codes ":-")) as (λ c. (if c then apply by a else two f (apply by a) (apply by b)) ≡ apply by (if c then a else two f a b)) [
        | true ↦ refl
        | false ↦ refl
      ]
  head_by t = refl

  pub body_by : (t : Tree) → body_of (apply by t) ≡ apply by (body_of t)
  body_by (Apply f (More a (More b End))) =
      elim (bytes_eq f (codes ":-")) as (λ c. (if c then apply by b else Name (codes "true")) ≡ apply by (if c then b else Name (codes "true"))) [
        | true ↦ refl
        | false ↦ refl
      ]
  body_by t = refl

  pair_goals : (f : List ℕ) (a b : Tree) (c : Bool) → (are_goals a ≡ true → are_goals (apply by a) ≡ true)
      → (are_goals b ≡ true → are_goals (apply by b) ≡ true)
      → (if c then are_goals a && are_goals b else is_user (Some (key f 2))) ≡ true
      → (if c then are_goals (apply by a) && are_goals (apply by b) else is_user (Some (key f 2))) ≡ true
  pair_goals f a b true on_a on_b h =
      let p = and_parts (are_goals a) (are_goals b) h in and_from (are_goals (apply by a)) (are_goals (apply by b)) (on_a p.0) (on_b p.1)
  pair_goals f a b false on_a on_b h = h

  goals_by : (t : Tree) → is_term t ≡ true → are_goals t ≡ true → are_goals (apply by t) ≡ true
  goals_by (Variable n) term h = absurd (false≢true h)
  goals_by (Integer z) term h = absurd (false≢true h)
  goals_by (Name a) term h = h
  goals_by (Apply f (More a (More b End))) term h =
      let terms = pair_terms f a b term in pair_goals f a b (bytes_eq f (codes ",")) (goals_by a terms.0) (goals_by b terms.1) h
  goals_by (Apply f ts) term h = subst (λ n. is_user (Some (key f n)) ≡ true) (sym (count-apply by ts (row_of_arguments f ts term))) h
  goals_by End term h = absurd (false≢true h)
  goals_by (More t ts) term h = absurd (false≢true h)

  pub definite_by : (t : Tree) → is_term t ≡ true → is_definite_body t ≡ true → is_definite_body (apply by t) ≡ true
  definite_by (Name a) term h = h
  definite_by (Variable n) term h = absurd (false≢true h)
  definite_by (Integer z) term h = absurd (false≢true h)
  definite_by (Apply f ts) term h = goals_by (Apply f ts) term h
  definite_by End term h = absurd (false≢true h)
  definite_by (More t ts) term h = absurd (false≢true h)

-- a definite body is converted to `true` or to goals
name_converts : (n : ℕ) (a : List ℕ) (b : Body) → (bytes_eq a (codes "true") || is_user (Some (key a 0))) ≡ true → converted (Name a) ≡ Some b
    → AllBelow n (Name a) → (b ≡ Run (Name (codes "true"))) ⊎ AreGoals n b
name_converts n a b h is below = elim (or_cases (bytes_eq a (codes "true")) (is_user (Some (key a 0))) h) [
  | inl found ↦ (
      let same : a ≡ codes "true" = (bytes_eq-Decides a (codes "true")).0 found in
      let both : Some (Run (Name (codes "true"))) ≡ Some b = ap (λ x. Some (converted_name x)) (sym same) ∙ is in
      let body : b ≡ Run (Name (codes "true")) = cc in
      inl body)
  | inr user ↦ (
      let c = goals_convert n (Name a) user refl below in
      let both : Some c.body ≡ Some b = sym c.is ∙ is in
      let body : c.body ≡ b = cc in
      inr (subst (AreGoals n) body c.goals))
]

other_converts : (n : ℕ) (t : Tree) (b : Body) → are_goals t ≡ true → is_term t ≡ true → converted t ≡ Some b → AllBelow n t
    → (b ≡ Run (Name (codes "true"))) ⊎ AreGoals n b
other_converts n t b h term is below =
    let c = goals_convert n t h term below in
    let both : Some c.body ≡ Some b = sym c.is ∙ is in
    let body : c.body ≡ b = cc in
    inr (subst (AreGoals n) body c.goals)

body_converts : (n : ℕ) (t : Tree) (b : Body) → is_definite_body t ≡ true → is_term t ≡ true → converted t ≡ Some b → AllBelow n t
    → (b ≡ Run (Name (codes "true"))) ⊎ AreGoals n b
body_converts n (Name a) b h term is below = name_converts n a b h is below
body_converts n (Variable x) b h term is below = absurd (false≢true h)
body_converts n (Integer z) b h term is below = absurd (false≢true h)
body_converts n (Apply f ts) b h term is below = other_converts n (Apply f ts) b h term is below
body_converts n End b h term is below = absurd (false≢true h)
body_converts n (More t ts) b h term is below = absurd (false≢true h)

-- the clause that a definite term is
pub clause_definite : (t : Tree) (k : Key) (b : Body) (n : ℕ) → is_definite_clause t ≡ true → is_term t ≡ true → key_of (head_of t) ≡ Some k
    → converted (body_of (copy_from t 0)) ≡ Some b → IsDefiniteClause k (clause_of t b n)
clause_definite t k b n h term named is =
    let parts = and_parts (is_user (key_of (head_of t))) (is_definite_body (body_of t)) h in
    let u = user_key (key_of (head_of t)) parts.0 in
    let both : Some u.0 ≡ Some k = sym u.1 ∙ named in
    let same : u.0 ≡ k = cc in
    let r : ℕ → ℕ = λ x. 0 + place_of x (variables t) in
    let low : AllBelow (variable_count t) (copy_from t 0) = λ x o. (let range = (range_of_copy t 0 x o).1 in omega arith) in
    record {
      head = ap key_of (head_by r t) ∙ key_applied (λ x. Variable (r x)) (head_of t) (head_term t term) named;
      user = subst (λ x. is_built_in x ≡ false) same u.2;
      term = head_term (copy_from t 0) (copy_is_term t 0 term);
      below = head_below (variable_count t) (copy_from t 0) low;
      body = body_converts (variable_count t) (body_of (copy_from t 0)) b
          (subst (λ x. is_definite_body x ≡ true) (sym (body_by r t)) (definite_by r (body_of t) (body_term_is t term) parts.1))
          (body_term_is (copy_from t 0) (copy_is_term t 0 term)) is (body_below (variable_count t) (copy_from t 0) low);
    }
