-- A clause that was made ready is the clause that is added.
use Rattle.std.proofs.Common.{◌∷◌, ◌≡◌, ◌<◌, ◌≤◌, ℕ, ◌+◌, List, [], length, refl, sym, ap, ◌∙◌, subst, arith, true, false, ◌||◌, inl, inr, Option, Some, None, codes, Result, Ok, Err, IsErrAnd}
use Rattle.std.specs.Prelude.{IfSome}
use Rattle.std.specs.Str.{bytes_eq}
use Rattle.std.proofs.lemmas.Bool.{cases_Bool, eqb-true, or_left, or_right, false≢true}
use Rattle.iso_model.specs.Terms.Trees.{Tree, Variable, Name, Apply, End, More}
use Rattle.iso_model.specs.Terms.Sorts.{is_term}
use Rattle.iso_model.specs.Terms.TermOf.{term_of}
use Rattle.iso_model.specs.Terms.Variables.{is_in, occurs, variables, variable_count}
use Rattle.iso_model.specs.Terms.Substitutions.{apply}
use Rattle.iso_model.specs.Terms.Unification.Applied.{occurs_from}
use Rattle.iso_model.specs.Terms.Unification.Listed.{Covers, distinct_covers}
use Rattle.iso_model.specs.Terms.Copies.{place_of, copy_from}
use Rattle.iso_model.specs.Search.Bodies.{Body, converted}
use Rattle.iso_model.specs.Search.Databases.{Key, key_of}
use Rattle.iso_model.specs.Search.BuiltIns.{is_built_in}
use Rattle.iso_model.specs.Search.Additions.{head_of, body_of, most_variables, Check, Fits, Faulty, NotUser, checked, prepared, prepared_head, prepared_body, prepared_small, user_checked, fault_error}
use Rattle.iso_model.specs.declared.pauses.AddFault.{AddFault}
use Rattle.iso_model.specs.declared.pauses.AddFault.TheVariants as add
use Rattle.iso_prep.specs.Classes.{goals_of}
use Rattle.iso_prep.specs.Conversions.{numbers}
use Rattle.iso_prep.specs.Preparations.{Preparation, PreparesClause}
use Rattle.iso_prep.specs.PreparationLaws.{HasTerms}
use Rattle.iso_program.specs.declared.checked.Checked.{Checked}
use Rattle.iso_program.specs.Kept.{IsTemplate, AreTemplates, IsReady, IsRefused, IsAddition, ChecksUser, Prepares}
use Rattle.iso_prep.proofs.ConversionLemmas.{converts}
use Rattle.iso_prep.proofs.PreparedTerms.{prepared_are_terms}
use Rattle.iso_program.proofs.RenamingLemmas.{is_term-renamed, key-renamed, head-renamed, body-renamed}
use Rattle.iso_program.proofs.ClauseLemmas.{body_templates}

-- ---- a clause's variables, numbered

-- the place of a variable among others
place_known : (x : ℕ) (vs : List ℕ) → is_in x vs ≡ true → place_of x vs < length vs
place_known x [] h = absurd (false≢true h)
place_known x (v ∷ vs) h = grind (arith, place_known x vs)

-- where a variable of a numbered term is from
pub numbered_below : (vs : List ℕ) (t : Tree) → Covers vs t → (x : ℕ) → occurs x (apply (numbers vs) t) ≡ true → x < length vs
numbered_below vs t covers x o =
    let from = occurs_from (numbers vs) t x o in
    let at : 0 + place_of from.0 vs ≡ x = eqb-true (0 + place_of from.0 vs) x from.2 in
    let known = place_known from.0 vs (covers from.0 from.1) in
    omega (arith, at, known)

template : (vs : List ℕ) (t : Tree) (k : Key) → is_term t ≡ true → key_of t ≡ Some k → Covers vs t → IsTemplate (length vs) (apply (numbers vs) t)
template vs t k fits e covers = record {
  is = is_term-renamed (λ x. 0 + place_of x vs) t ∙ fits;
  key = (k, key-renamed (λ x. 0 + place_of x vs) t ∙ e);
  below = numbered_below vs t covers;
}

head_copied : (t : Tree) → head_of (copy_from t 0) ≡ apply (numbers (variables t)) (head_of t)
head_copied t = head-renamed (λ x. 0 + place_of x (variables t)) t

body_copied : (t : Tree) → body_of (copy_from t 0) ≡ apply (numbers (variables t)) (body_of t)
body_copied t = body-renamed (λ x. 0 + place_of x (variables t)) t

-- ---- the parts of a clause

parts_fit : (t : Tree) → is_term t ≡ true → (is_term (head_of t) ≡ true) × (is_term (body_of t) ≡ true)
parts_fit (Apply f (More h (More b End))) fits = (grind arith, grind arith)
parts_fit t fits = (fits, refl)

parts_covered : (t : Tree) (vs : List ℕ) → Covers vs t → Covers vs (head_of t) × Covers vs (body_of t)
parts_covered (Apply f (More h (More b End))) vs covers =
    elim (cases_Bool (bytes_eq f (codes ":-"))) [
      | inl same ↦ (let head : Covers vs h = λ x o. covers x (or_left (occurs x h) (occurs x b || false) o) in
          let body : Covers vs b = λ x o. covers x (or_right (occurs x h) (occurs x b || false) (or_left (occurs x b) false o)) in
          (rw same head, rw same body))
      | inr other ↦ (let nothing : Covers vs (Name (codes "true")) = λ x o. absurd (false≢true o) in (rw other covers, rw other nothing))
    ]
parts_covered t vs covers = (covers, λ x o. absurd (false≢true o))

-- ---- what the checks found

small_parts : (t : Tree) (j k : Key) (c b : Body) → prepared_small t j c ≡ Fits k b → (j ≡ k) × (c ≡ b) × (variable_count t ≤ most_variables)
small_parts t j k c b e = (grind arith, grind arith, grind arith)

body_parts : (t : Tree) (j k : Key) (o : Option Body) (b : Body) → prepared_body t j o ≡ Fits k b → (j ≡ k) × (o ≡ Some b) × (variable_count t ≤ most_variables)
body_parts t j k None b e = cc
body_parts t j k (Some c) b e = let found = small_parts t j k c b e in (found.0, ap Some found.1, found.2)

head_parts : (t h : Tree) (o : Option Key) (k : Key) (b : Body) → prepared_head t h o ≡ Fits k b → (o ≡ Some k) × (converted (body_of (copy_from t 0)) ≡ Some b) × (variable_count t ≤ most_variables)
head_parts t (Variable n) o k b e = cc
head_parts t h None k b e = cc
head_parts t h (Some j) k b e =
    let found = body_parts t j k (converted (body_of (copy_from t 0))) b e in
    (ap Some found.0, found.1, found.2)

-- ---- a clause that was made ready

pub ready : (t : Tree) (p : Preparation) → is_term t ≡ true → PreparesClause (λ p. p) t (prepared t) (Ok p) → IsReady p t
ready t p fits h = by_check (prepared t) refl h where
  by_check : (c : Check) → prepared t ≡ c → PreparesClause (λ p. p) t c (Ok p) → IsReady p t
  by_check (Fits k b) e h = record { key = k; body = b; term = fits; fits = e; is = h }
  by_check (Faulty f) e h = absurd h

module _ (t : Tree) (p : Preparation) (r : IsReady p t) where
  found : (key_of (head_of t) ≡ Some r.key) × (converted (body_of (copy_from t 0)) ≡ Some r.body) × (variable_count t ≤ most_variables)
  found = head_parts t (head_of t) (key_of (head_of t)) r.key r.body r.fits

  fit : (is_term (head_of t) ≡ true) × (is_term (body_of t) ≡ true)
  fit = parts_fit t r.term

  covered : Covers (variables t) (head_of t) × Covers (variables t) (body_of t)
  covered = parts_covered t (variables t) (distinct_covers [] t)

  -- it has a head, which is callable
  pub head_there : p.head ≡ Some (head_of (copy_from t 0))
  head_there = ap (λ q. q.head) r.is

  pub head_is_term : is_term (head_of (copy_from t 0)) ≡ true
  head_is_term = ap is_term (head_copied t) ∙ is_term-renamed (λ x. 0 + place_of x (variables t)) (head_of t) ∙ fit.0

  pub head_key : key_of (head_of (copy_from t 0)) ≡ Some r.key
  head_key = ap key_of (head_copied t) ∙ key-renamed (λ x. 0 + place_of x (variables t)) (head_of t) ∙ found.0

  -- its goals can be kept
  ready_goals : AreTemplates (variable_count t) (goals_of r.body)
  ready_goals =
      let u = body_of (copy_from t 0) in
      let term : is_term u ≡ true = ap is_term (body_copied t) ∙ is_term-renamed (λ x. 0 + place_of x (variables t)) (body_of t) ∙ fit.1 in
      let below : (x : ℕ) → occurs x u ≡ true → x < variable_count t = λ x o. numbered_below (variables t) (body_of t) covered.1 x (sym (ap (occurs x) (body_copied t)) ∙ o) in
      body_templates (variable_count t) u r.body found.1 term below

  -- its head and its body are terms
  pub ready_terms : HasTerms p
  ready_terms = (prepared_are_terms t p r.term).0 (subst (λ (c : Check). PreparesClause (λ q. q) t c (Ok p)) (sym r.fits) r.is)

  -- and what is kept of it is the clause
  pub addition : (kept : Checked) → kept.prepared ≡ p → is_built_in r.key ≡ false → IsAddition t kept
  addition kept same user = record {
    body = r.body;
    key = r.key;
    clause = λ m. record {
      head = ap (λ q. q.head) same ∙ head_there;
      body = ap (λ q. q.body) (same ∙ r.is);
      variables = ap (λ q. q.variables) (same ∙ r.is);
      numbered = record { clause = t; term = r.term; is = same ∙ r.is };
      terms = subst HasTerms (sym same) ready_terms;
      body_term = record { term = refl; body = (converts (body_of (copy_from t 0)) r.body found.1).again };
      few = found.2;
      head_template = subst (λ (x : Tree). IsTemplate (variable_count t) x) (sym (head_copied t)) (template (variables t) (head_of t) r.key fit.0 found.0 covered.0);
      goal_templates = ready_goals;
    };
    named = subst (λ (o : Option Tree). IfSome o (λ head. key_of head ≡ Some r.key)) (sym (ap (λ q. q.head) same ∙ head_there)) head_key;
    user = user;
    fits = ap user_checked r.fits ∙ rw user refl;
  }

  -- or it is that of a built-in
  pub built_in_refused : (by k : Key) (e : AddFault) (x : Result Checked AddFault) → k ≡ r.key → IsErrAnd x (λ y. y ≡ e) → ChecksUser by k (Err e) → Prepares by t x
  built_in_refused by k e (Ok c) same is h = absurd is
  built_in_refused by k (add.Refused ball) (Err y) same is h =
      let built : is_built_in r.key ≡ true = ap is_built_in (sym same) ∙ h.0 in
      let check : checked t ≡ Faulty (NotUser r.key) = ap user_checked r.fits ∙ rw built refl in
      let error : fault_error by (NotUser r.key) ≡ term_of ball.term.value = ap (λ j. fault_error by (NotUser j)) (sym same) ∙ sym h.1 in
      rw is (subst (λ (c : Check). IsRefused by c (term_of ball.term.value)) (sym check) error)
  built_in_refused by k add.NoMemory (Err y) same is h = rw is tt

-- ---- the head of a clause that is to be added

pub one_tree : {t u : Tree} → Some t ≡ Some u → t ≡ u
one_tree e = cc e

-- its key
pub checked_key : (t : Tree) (kept : Checked) (is : IsAddition t kept) (h : Tree) (k : Key) → kept.prepared.head ≡ Some h
    → key_of h ≡ Some k → k ≡ is.key
checked_key t kept is h k there named =
    let known : key_of h ≡ Some is.key = subst (λ (o : Option Tree). IfSome o (λ head. key_of head ≡ Some is.key)) there is.named in
    let same : Some k ≡ Some is.key = sym named ∙ known in cc same

-- ---- a clause that wasn't made ready
