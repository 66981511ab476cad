-- A program of definite clauses makes a definite database, which proves what the program does.
use Rattle.std.proofs.Common.{◌≡◌, ℕ, ◌+◌, List, [], ◌∷◌, true, Some, None, inl, inr, refl, sym, ap, ◌∙◌, subst, codes, arith, ◌||◌}
use Rattle.std.proofs.lemmas.Bool.{or_cases, and_parts, false≢true}
use Rattle.std.proofs.lemmas.Slice.Eq.{bytes_eq-Decides}
use Rattle.std.specs.Str.{bytes_eq}
use Rattle.iso_model.specs.Terms.Trees.{Tree, Variable, Integer, Name, Apply, End, More}
use Rattle.iso_model.specs.Terms.Sorts.{is_term}
use Rattle.iso_model.specs.Terms.Variables.{variables, variable_count}
use Rattle.iso_model.specs.Terms.Substitutions.{apply, compose}
use Rattle.iso_model.specs.Terms.Unification.Applied.{apply_apply}
use Rattle.iso_model.specs.Terms.UnifierLaws.{AllBelow}
use Rattle.iso_model.specs.Terms.Copies.{copy_from, place_of}
use Rattle.iso_model.specs.Search.Bodies.{Body, Run, converted, converted_name, body_term}
use Rattle.iso_model.specs.Search.Databases.{Clause, Database, key, key_of, no_clauses}
use Rattle.iso_model.specs.Search.Additions.{clause_of, head_of, body_of}
use Rattle.iso_logic.specs.Provability.{HasClause, Proves, proves_true, proves_both, proves_head}
use Rattle.iso_logic.specs.DefiniteClauses.{AreGoals, IsDefinite}
use Rattle.iso_logic.specs.Consulting.{Consulted, no_more, adds}
use Rattle.iso_logic.specs.ProgramLaws.{ProgramsProveTheSame}
use Rattle.iso_model.proofs.OnTerms.SortLemmas.{copy_is_term}
use Rattle.iso_model.proofs.OnTerms.CopyLemmas.{range_of_copy, copy_is_variant}
use Rattle.iso_logic.proofs.Conversions.{goals_convert, body_back}
use Rattle.iso_logic.specs.DefinitePrograms.{is_user, are_goals, is_definite_body, is_definite_clause, are_definite, are_terms}
use Rattle.iso_logic.specs.ProgramProofs.{IsOneOf, here, there, ProvedBy, by_true, by_both, by_head}
use Rattle.iso_logic.proofs.ClauseTerms.{head_by, body_by, definite_by, body_term_is, body_below, clause_definite}
use Rattle.iso_logic.proofs.ConsultedClauses.{with_definite, key_added, FromTerm, comes_from, goes_in}

pub consulted_definite : {ts : List Tree} {db last : Database} → Consulted ts db last → are_terms ts ≡ true → are_definite ts ≡ true → IsDefinite db.procedures
    → IsDefinite last.procedures
consulted_definite no_more terms definite old = old
consulted_definite (adds {t = t} {ts = ts} {db = db} {after = after} added others) terms definite old =
    let term = and_parts (is_term t) (are_terms ts) terms in
    let own = and_parts (is_definite_clause t) (are_definite ts) definite in
    let a = key_added t db after (head_of t) (key_of (head_of t)) added in
    let new =
    with_definite db.procedures a.procedure (clause_of t a.body db.added) old (clause_definite t a.procedure a.body db.added own.0 term.0 a.named a.is) in
    consulted_definite others term.1 own.1 (subst (λ d. IsDefinite d.procedures) (sym a.database) new)

-- the first database has no clause
pub nothing_definite : IsDefinite no_clauses.procedures
nothing_definite k cs at c among = let clash : None ≡ Some cs = at in cc

-- ---- what a program proves

one_is : (t : Tree) (ts : List Tree) → IsOneOf t ts → are_terms ts ≡ true → are_definite ts ≡ true → (is_term t ≡ true) × (is_definite_clause t ≡ true)
one_is t [] h terms definite = elim h [ ]
one_is t (u ∷ us) here terms definite = ((and_parts (is_term u) (are_terms us) terms).0, (and_parts (is_definite_clause u) (are_definite us) definite).0)
one_is t (u ∷ us) (there h) terms definite =
    one_is t us h (and_parts (is_term u) (are_terms us) terms).1 (and_parts (is_definite_clause u) (are_definite us) definite).1

-- a definite body was converted to itself
name_back : (n : ℕ) (a : List ℕ) (b : Body) → (bytes_eq a (codes "true") || is_user (Some (key a 0))) ≡ true → converted (Name a) ≡ Some b → AllBelow n (Name a)
    → body_term b ≡ Name a
name_back n a b h is below = elim (or_cases (bytes_eq a (codes "true")) (is_user (Some (key a 0))) h) [
  | inl here_ ↦ (
      let same : a ≡ codes "true" = (bytes_eq-Decides a (codes "true")).0 here_ in
      let both : Some (Run (Name (codes "true"))) ≡ Some b = ap (λ x. Some (converted_name x)) (sym same) ∙ is in
      let body : b ≡ Run (Name (codes "true")) = cc in
      ap body_term body ∙ ap Name (sym same))
  | inr user ↦ (
      let c = goals_convert n (Name a) user refl below in
      let both : Some c.body ≡ Some b = sym c.is ∙ is in
      let body : c.body ≡ b = cc in
      body_back n (Name a) b is (subst (AreGoals n) body c.goals))
]

goals_back : (n : ℕ) (t : Tree) (b : Body) → are_goals t ≡ true → is_term t ≡ true → converted t ≡ Some b → AllBelow n t → body_term b ≡ t
goals_back n t b h term is below =
    let c = goals_convert n t h term below in
    let both : Some c.body ≡ Some b = sym c.is ∙ is in
    let body : c.body ≡ b = cc in
    body_back n t b is (subst (AreGoals n) body c.goals)

term_back : (n : ℕ) (t : Tree) (b : Body) → is_definite_body t ≡ true → is_term t ≡ true → converted t ≡ Some b → AllBelow n t → body_term b ≡ t
term_back n (Name a) b h term is below = name_back n a b h is below
term_back n (Variable x) b h term is below = absurd (false≢true h)
term_back n (Integer z) b h term is below = absurd (false≢true h)
term_back n (Apply f ts) b h term is below = goals_back n (Apply f ts) b h term is below
term_back n End b h term is below = absurd (false≢true h)
term_back n (More t ts) b h term is below = absurd (false≢true h)

copied_body : (t : Tree) (b : Body) → is_term t ≡ true → is_definite_clause t ≡ true → converted (body_of (copy_from t 0)) ≡ Some b
    → body_term b ≡ body_of (copy_from t 0)
copied_body t b term definite is =
    let r : ℕ → ℕ = λ x. 0 + place_of x (variables t) in
    let parts = and_parts (is_user (key_of (head_of t))) (is_definite_body (body_of t)) definite in
    let low : AllBelow (variable_count t) (copy_from t 0) = λ x o. (let range = (range_of_copy t 0 x o).1 in omega arith) in
    term_back (variable_count t) (body_of (copy_from t 0)) b
    (subst (λ x. is_definite_body x ≡ true) (sym (body_by r t)) (definite_by r (body_of t) (body_term_is t term) parts.1))
    (body_term_is (copy_from t 0) (copy_is_term t 0 term)) is (body_below (variable_count t) (copy_from t 0) low)

module _ (program : List Tree) (db : Database) (made : Consulted program no_clauses db) (terms : are_terms program ≡ true)
    (definite : are_definite program ≡ true) where
  each_from : (c : Clause) → HasClause db.procedures c → FromTerm program c
  each_from c has = elim (comes_from made has.key has.clauses has.at c has.among) [
    | inl first_ones ↦ (let clash : None ≡ Some first_ones.clauses = first_ones.at in cc)
    | inr from ↦ from
  ]

  to_program : {t : Tree} → Proves db.procedures t → ProvedBy program t
  to_program proves_true = by_true
  to_program (proves_both p q) = by_both (to_program p) (to_program q)
  to_program (proves_head {c = c} s has body) =
      let f = each_from c has in
      let good = one_is f.term program f.among terms definite in
      let r : ℕ → ℕ = λ x. 0 + place_of x (variables f.term) in
      let head : apply (compose (λ x. Variable (r x)) s) (head_of f.term) ≡ apply s c.head =
      sym (apply_apply (λ x. Variable (r x)) s (head_of f.term)) ∙ ap (apply s) (sym (head_by r f.term)) ∙ ap (λ d. apply s d.head) (sym f.is) in
      let same : apply s (body_term c.body) ≡ apply (compose (λ x. Variable (r x)) s) (body_of f.term) =
      ap (λ d. apply s (body_term d.body)) f.is ∙ ap (apply s) (copied_body f.term f.body good.0 good.1 f.converts ∙ body_by r f.term)
      ∙ apply_apply (λ x. Variable (r x)) s (body_of f.term) in
      subst (ProvedBy program) head (by_head (compose (λ x. Variable (r x)) s) f.among (subst (ProvedBy program) same (to_program body)))

  from_program : {t : Tree} → ProvedBy program t → Proves db.procedures t
  from_program by_true = proves_true
  from_program (by_both p q) = proves_both (from_program p) (from_program q)
  from_program (by_head {c = t} s among body) =
      let d = goes_in made t among in
      let good = one_is t program among terms definite in
      let v = copy_is_variant t 0 in
      let own = clause_definite t d.procedure d.body d.number good.1 good.0 d.named d.converts in
      let head : apply (compose (λ x. Variable (v.0 x)) s) (head_of (copy_from t 0)) ≡ apply s (head_of t) =
      sym (apply_apply (λ x. Variable (v.0 x)) s (head_of (copy_from t 0))) ∙ ap (apply s) (sym (head_by v.0 (copy_from t 0)) ∙ ap head_of v.1) in
      let same : apply s (body_of t) ≡ apply (compose (λ x. Variable (v.0 x)) s) (body_term d.body) =
      ap (apply s) (ap body_of (sym v.1) ∙ body_by v.0 (copy_from t 0)) ∙ apply_apply (λ x. Variable (v.0 x)) s (body_of (copy_from t 0))
      ∙ ap (apply (compose (λ x. Variable (v.0 x)) s)) (sym (copied_body t d.body good.0 good.1 d.converts)) in
      let has : HasClause db.procedures (clause_of t d.body d.number) =
      record { key = d.procedure; clauses = d.stands.clauses; head = own.head; at = d.stands.at; among = d.stands.among } in
      subst (Proves db.procedures) head (proves_head {c = clause_of t d.body d.number} (compose (λ x. Variable (v.0 x)) s) has
      (subst (Proves db.procedures) same (from_program body)))

pub programs_prove : ProgramsProveTheSame
programs_prove program db made terms definite t = (to_program program db made terms definite, from_program program db made terms definite)
