-- A clause that was taken apart, checked and put together again is the one that the definitions prepare.
use Rattle.std.proofs.Common.{◌≡◌, ℕ, ◌<◌, ◌≤◌, List, [], ◌∷◌, length, map, refl, sym, ap, ap₂, ◌∙◌, true, false, inl, inr, Option, Some, None, is_some, option_map, codes, String, Vec, Global, Result, Ok, Err, IsErrAnd}
use Rattle.std.specs.String.{string_bytes}
use Rattle.std.specs.Str.{bytes_eq}
use Rattle.std.proofs.lemmas.Bool.{cases_Bool, false≢true, true≢false, lt-ltb}
use Rattle.std.proofs.lemmas.List.{length-map}
use Rattle.iso_model.specs.declared.terms.Term.{Term}
use Rattle.iso_model.specs.declared.terms.Term.TheVariants.{Compound}
use Rattle.iso_model.specs.Terms.Trees.{Tree, Variable, Integer, Name, Apply, End, More, row}
use Rattle.iso_model.specs.Terms.TermOf.{term_of}
use Rattle.iso_model.specs.Terms.Variables.{variables, variable_count}
use Rattle.iso_model.specs.Terms.Substitutions.{apply}
use Rattle.iso_model.specs.Terms.Copies.{copy_from}
use Rattle.iso_model.specs.Search.Bodies.{Body, converted, body_term}
use Rattle.iso_model.specs.Search.Databases.{Key, key_of}
use Rattle.iso_model.specs.Search.Additions.{head_of, body_of, prepared, prepared_head, prepared_body, most_variables}
use Rattle.iso_model.proofs.OnTerms.RowLemmas.{term_of_compound}
use Rattle.iso_prep.specs.declared.fault.Fault.{Fault}
use Rattle.iso_prep.specs.declared.fault.Fault.TheVariants as fault
use Rattle.iso_prep.specs.Conversions.{is_callable, with_calls, numbers, body_from, IsConverted}
use Rattle.iso_prep.specs.Preparations.{Preparation, PreparesClause, PreparesGoal}
use Rattle.iso_prep.specs.Assembling.{assembly, preparation_of, ChecksBody}
use Rattle.iso_prep.proofs.ClassLemmas.{not_less}
use Rattle.iso_prep.proofs.ConversionLemmas.{converts, callable_numbered}

-- ---- a clause in its parts

fact_of : (f : List ℕ) (ts : List Tree) → (length ts ≡ 2 → bytes_eq f (codes ":-") ≡ false) → (head_of (Apply f (row ts)) ≡ Apply f (row ts)) × (body_of (Apply f (row ts)) ≡ Name (codes "true"))
fact_of f [] h = (refl, refl)
fact_of f (a ∷ []) h = (refl, refl)
fact_of f (a ∷ b ∷ []) h = (rw (h refl) refl, rw (h refl) refl)
fact_of f (a ∷ b ∷ c ∷ ts) h = (refl, refl)

pub fact_of_compound : (t : Term) (f : String Global) (v : Vec Term Global) → t ≡ Compound f v → (length v.items ≡ 2 → bytes_eq (string_bytes f) (codes ":-") ≡ false)
    → (head_of (term_of t) ≡ term_of t) × (body_of (term_of t) ≡ Name (codes "true"))
fact_of_compound t f v is h = rw (is, term_of_compound f v) (fact_of (string_bytes f) (map term_of v.items) (λ e. h (sym (length-map v.items term_of) ∙ e)))

head_numbered : (vs : List ℕ) (t : Tree) → head_of (apply (numbers vs) t) ≡ apply (numbers vs) (head_of t)
head_numbered vs (Apply g (More h (More b End))) =
    elim (cases_Bool (bytes_eq g (codes ":-"))) [ inl same ↦ rw same refl | inr other ↦ rw other refl ]
head_numbered vs t = refl

body_numbered : (vs : List ℕ) (t : Tree) → body_of (apply (numbers vs) t) ≡ apply (numbers vs) (body_of t)
body_numbered vs (Apply g (More h (More b End))) =
    elim (cases_Bool (bytes_eq g (codes ":-"))) [ inl same ↦ rw same refl | inr other ↦ rw other refl ]
body_numbered vs t = refl

-- ---- what can be converted

some_body : (t : Tree) → is_callable t ≡ true → (b : Body) × (converted t ≡ Some b)
some_body t h = of (converted t) refl h where
  of : (o : Option Body) → converted t ≡ o → is_some o ≡ true → (b : Body) × (converted t ≡ Some b)
  of (Some b) e h = (b, e)
  of None e h = absurd (false≢true h)

no_body : (t : Tree) → is_callable t ≡ false → converted t ≡ None
no_body t h = of (converted t) refl h where
  of : (o : Option Body) → converted t ≡ o → is_some o ≡ false → converted t ≡ None
  of (Some b) e h = absurd (true≢false h)
  of None e h = e

-- the term that was built is a converted body, and the one of the definitions
module _ (vs : List ℕ) (t u : Tree) (can : is_callable t ≡ true) (is : u ≡ with_calls (apply (numbers vs) t)) where
  found : (b : Body) × (converted (apply (numbers vs) t) ≡ Some b)
  found = some_body (apply (numbers vs) t) (callable_numbered vs t ∙ can)

  pub is_converted : IsConverted u
  is_converted =
      let whole = converts (apply (numbers vs) t) found.0 found.1 in
      record { body = found.0; is = ap converted (is ∙ sym whole.term) ∙ whole.again; same = whole.term ∙ sym is }

  pub converted_again : converted u ≡ converted (apply (numbers vs) t)
  converted_again =
      let whole = converts (apply (numbers vs) t) found.0 found.1 in
      ap converted (is ∙ sym whole.term) ∙ whole.again ∙ sym found.1

-- a converted body gives its own term
pub term_of_body : (t : Tree) → IsConverted t → t ≡ body_term (body_from (converted t))
term_of_body t h = sym (ap (λ o. body_term (body_from o)) h.is ∙ h.same)

abbrev preparation : Option Tree → Body → ℕ → Preparation
preparation h b n = record { head = h; body = b; variables = n }

-- ---- the checks of a clause

head_found : (t h : Tree) (k : Option Key) → key_of h ≡ k → is_some k ≡ true → (j : Key) × (prepared_head t h k ≡ prepared_body t j (converted (body_of (copy_from t 0))))
head_found t h None e some = absurd (false≢true some)
head_found t (Variable n) (Some k) e some = cc
head_found t (Integer z) (Some k) e some = (k, refl)
head_found t (Name a) (Some k) e some = (k, refl)
head_found t (Apply f ts) (Some k) e some = (k, refl)
head_found t End (Some k) e some = (k, refl)
head_found t (More u us) (Some k) e some = (k, refl)

-- the head can be called
module _ (t : Tree) (key : is_some (key_of (head_of t)) ≡ true) where
  pub prepared_by_body : (j : Key) × (prepared t ≡ prepared_body t j (converted (apply (numbers (variables t)) (body_of t))))
  prepared_by_body =
      let p = head_found t (head_of t) (key_of (head_of t)) refl key in
      (p.0, p.1 ∙ ap (λ u. prepared_body t p.0 (converted u)) (body_numbered (variables t) t))

  -- and the body can't be converted
  module _ (bd : Tree) (same : bd ≡ body_of t) where
    pub refused_body : (e : Fault) (r : Result Preparation Fault) → IsErrAnd r (λ x. x ≡ e) → ChecksBody bd (Err e) → PreparesClause (λ p. p) t (prepared t) r
    refused_body e (Ok p) is h = absurd is
    refused_body (fault.Callable culprit) (Err x) is h =
        let p = prepared_by_body in
        let none : converted (apply (numbers (variables t)) (body_of t)) ≡ None = no_body (apply (numbers (variables t)) (body_of t)) (callable_numbered (variables t) (body_of t) ∙ ap is_callable (sym same) ∙ h.0) in
        rw (is, p.1, none) (h.1 ∙ same)
    refused_body fault.NoMemory (Err x) is h = rw is tt
    refused_body fault.Instantiation (Err x) is h = absurd h
    refused_body fault.TooManyVariables (Err x) is h = absurd h

    -- and it can
    module _ (can : is_callable bd ≡ true) where
      body_found : (b : Body) × (converted (apply (numbers (variables t)) (body_of t)) ≡ Some b)
      body_found = some_body (apply (numbers (variables t)) (body_of t)) (callable_numbered (variables t) (body_of t) ∙ ap is_callable (sym same) ∙ can)

      pub refused_large : most_variables < variable_count t → PreparesClause (λ p. p) t (prepared t) (Err fault.TooManyVariables)
      refused_large many =
          let p = prepared_by_body in
          let b = body_found in
          rw (p.1, b.1, lt-ltb most_variables (variable_count t) many) tt

      pub fits : (p : Preparation) → variable_count t ≤ most_variables → p ≡ assembly (variables t) (Some (head_of t)) bd → PreparesClause (λ p. p) t (prepared t) (Ok p)
      fits p few is =
          let q = prepared_by_body in
          let b = body_found in
          rw (q.1, b.1, not_less most_variables (variable_count t) few) (is ∙ ap₂ (λ h c. preparation h (body_from c) (variable_count t)) (ap Some (sym (head_numbered (variables t) t))) (ap (λ u. converted (apply (numbers (variables t)) u)) same ∙ b.1))

-- ---- the checks of a goal

pub refused_goal : (t : Tree) (e : Fault) (r : Result Preparation Fault) → IsErrAnd r (λ x. x ≡ e) → ChecksBody t (Err e) → PreparesGoal (λ p. p) t (converted (copy_from t 0)) r
refused_goal t e (Ok p) is h = absurd is
refused_goal t (fault.Callable culprit) (Err x) is h =
    let none : converted (apply (numbers (variables t)) t) ≡ None = no_body (apply (numbers (variables t)) t) (callable_numbered (variables t) t ∙ h.0) in
    rw (is, none) h.1
refused_goal t fault.NoMemory (Err x) is h = rw is tt
refused_goal t fault.Instantiation (Err x) is h = absurd h
refused_goal t fault.TooManyVariables (Err x) is h = absurd h

pub goal_fits : (t : Tree) (p : Preparation) → is_callable t ≡ true → p ≡ assembly (variables t) None t → PreparesGoal (λ p. p) t (converted (copy_from t 0)) (Ok p)
goal_fits t p can is =
    let b = some_body (apply (numbers (variables t)) t) (callable_numbered (variables t) t ∙ can) in
    rw b.1 (is ∙ ap (λ c. preparation None (body_from c) (variable_count t)) b.1)

-- ---- what is put together

pub assembled_is : (vs : List ℕ) (t u : Tree) (can : is_callable t ≡ true) (is : u ≡ with_calls (apply (numbers vs) t)) (h k : Option Tree) (n : ℕ) → h ≡ option_map (apply (numbers vs)) k → n ≡ length vs
    → preparation_of h u n ≡ assembly vs k t
assembled_is vs t u can is h k n head count =
    ap (λ c. preparation h (body_from c) n) (converted_again vs t u can is) ∙ ap₂ (λ g m. preparation g (body_from (converted (apply (numbers vs) t))) m) head count
