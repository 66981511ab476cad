-- Conversion of control constructs and of goals.
use Rattle.std.proofs.Common.{◌≡◌, ℕ, ◌+◌, ◌<◌, List, [], ◌∷◌, ◌++◌, Bool, true, false, ◌&&◌, refl, sym, ap, ap₂, ◌∙◌, arith, Option, Some, None, is_some, inl, inr, codes}
use Rattle.std.specs.Str.{bytes_eq}
use Rattle.std.proofs.lemmas.Bool.{cases_Bool}
use Rattle.std.proofs.lemmas.Slice.Eq.{bytes_eq-Decides}
use Rattle.std.specs.Borrow.{Bor}
use Rattle.iso_model.specs.declared.terms.Term.{Term}
use Rattle.iso_model.specs.Terms.Trees.{Tree, Variable, Integer, Name, Apply, End, More}
use Rattle.iso_model.specs.Terms.Substitutions.{apply}
use Rattle.iso_model.specs.Terms.TermOf.{term_of}
use Rattle.iso_model.specs.Terms.Sizes.{size}
use Rattle.iso_model.specs.Search.Bodies as body
use Rattle.iso_model.specs.Search.Bodies.{Body, Run, one, two, both, either, converted, converted_name, body_term}
use Rattle.iso_prep.specs.declared.connectives.Connective.{Connective}
use Rattle.iso_prep.specs.declared.connectives.Connective.TheVariants.{And, Or, If}
use Rattle.iso_prep.specs.Connectives.{text_of, join_of, connective_of, control_of}
use Rattle.iso_prep.specs.Conversions.{is_callable, are_callable, joined, with_calls, numbers}
use Rattle.iso_prep.proofs.ConnectiveLemmas.{named_by_text}
use Rattle.iso_prep.specs.Loads.{terms_load}

-- ---- control constructs

pub converted_control : (k : Connective) (a b : Tree) → converted (two (text_of k) a b) ≡ both (join_of k) (converted a) (converted b)
converted_control And a b = refl
converted_control Or a b = refl
converted_control If a b = refl

pub calls_of_control : (k : Connective) (a b : Tree) → with_calls (two (text_of k) a b) ≡ two (text_of k) (with_calls a) (with_calls b)
calls_of_control And a b = refl
calls_of_control Or a b = refl
calls_of_control If a b = refl

-- a compound that is no control construct
pub calls_kept : (vs : List ℕ) (f : List ℕ) (ts : Tree) → control_of (Apply f ts) ≡ None → with_calls (apply (numbers vs) (Apply f ts)) ≡ apply (numbers vs) (Apply f ts)
calls_kept vs f (More a (More b End)) none = rw none refl
calls_kept vs f ts none = refl

both_callable : (join : Body → Body → Body) (a b : Option Body) → is_some (both join a b) ≡ is_some a && is_some b
both_callable join (Some a) (Some b) = refl
both_callable join (Some a) None = refl
both_callable join None b = refl

callable_control : (k : Connective) (a b : Tree) → is_callable (two (text_of k) a b) ≡ is_callable a && is_callable b
callable_control k a b = ap is_some (converted_control k a b) ∙ both_callable (join_of k) (converted a) (converted b)

-- ---- parts that are left to be looked at

test_next : (a b c : Bool) → b && (a && c) ≡ a && (b && c)
test_next true b c = refl
test_next false true c = refl
test_next false false c = refl

tests_joined : (a b c : Bool) → a && (b && c) ≡ (a && b) && c
tests_joined true b c = refl
tests_joined false b c = refl

pub are_callable-push : (xs : List (Bor Term)) (x : Bor Term) → are_callable (xs ++ x ∷ []) ≡ is_callable (term_of x.now) && are_callable xs
are_callable-push [] x = refl
are_callable-push (y ∷ xs) x = ap (λ b. is_callable (term_of y.now) && b) (are_callable-push xs x) ∙ test_next (is_callable (term_of x.now)) (is_callable (term_of y.now)) (are_callable xs)

pub terms_load-push : (xs : List (Bor Term)) (x : Bor Term) → terms_load (xs ++ x ∷ []) ≡ size (term_of x.now) + terms_load xs
terms_load-push [] x = refl
terms_load-push (y ∷ xs) x = omega (arith, terms_load-push xs x)

-- a control construct's parts are left
module _ (k : Connective) (t : Term) (xs ys zs : List (Bor Term)) (first second : Bor Term) (is : term_of t ≡ two (text_of k) (term_of first.now) (term_of second.now)) (one : ys ≡ xs ++ second ∷ []) (other : zs ≡ ys ++ first ∷ []) where
  pub are_callable-parts : are_callable zs ≡ is_callable (term_of t) && are_callable xs
  are_callable-parts =
      ap are_callable other ∙ are_callable-push ys first ∙ ap (λ b. is_callable (term_of first.now) && b) (ap are_callable one ∙ are_callable-push xs second)
      ∙ tests_joined (is_callable (term_of first.now)) (is_callable (term_of second.now)) (are_callable xs)
      ∙ ap (λ b. b && are_callable xs) (sym (ap is_callable is ∙ callable_control k (term_of first.now) (term_of second.now)))

  pub terms_load-parts : terms_load zs < size (term_of t) + terms_load xs
  terms_load-parts =
      let outer = ap terms_load other ∙ terms_load-push ys first in
      let inner = ap terms_load one ∙ terms_load-push xs second in
      let whole = ap size is in
      omega arith

-- the last part was taken
module _ (xs ys : List (Bor Term)) (x : Bor Term) (more : ys ≡ xs ++ x ∷ []) where
  pub are_callable-popped : are_callable ys ≡ is_callable (term_of x.now) && are_callable xs
  are_callable-popped = ap are_callable more ∙ are_callable-push xs x

  pub terms_load-popped : terms_load ys ≡ size (term_of x.now) + terms_load xs
  terms_load-popped = ap terms_load more ∙ terms_load-push xs x

pub test_false : (b x y : Bool) → b ≡ false → b && x ≡ y → false ≡ y
test_false b x y h e = rw h at e

pub test_true : (b x y : Bool) → b ≡ true → b && x ≡ y → x ≡ y
test_true b x y h e = rw h at e

-- ---- what a compound of two arguments becomes

abbrev pub by_connective : Option Connective → Option Body → Option Body → Tree → Option Body
by_connective (Some k) x y whole = both (join_of k) x y
by_connective None x y whole = Some (Run whole)

pub converted_by_connective : (f : List ℕ) (a b : Tree) → converted (two f a b) ≡ by_connective (connective_of f) (converted a) (converted b) (two f a b)
converted_by_connective f a b =
    elim (cases_Bool (bytes_eq f (codes ","))) [
      | inl comma ↦ rw comma refl
      | inr no_comma ↦ elim (cases_Bool (bytes_eq f (codes ";"))) [
        | inl bar ↦ rw (no_comma, bar) refl
        | inr no_bar ↦ elim (cases_Bool (bytes_eq f (codes "->"))) [
          | inl arrow ↦ rw (no_comma, no_bar, arrow) refl
          | inr other ↦ rw (no_comma, no_bar, other) refl
        ]
      ]
    ]

-- a joined body's parts were converted
pub both_parts : (join : Body → Body → Body) (x y : Option Body) (d : Body) → both join x y ≡ Some d → (a b : Body) × (x ≡ Some a) × (y ≡ Some b) × (d ≡ join a b)
both_parts join (Some a) (Some b) d e = let same : d ≡ join a b = cc in (a, b, refl, refl, same)
both_parts join (Some a) None d e = cc
both_parts join None y d e = cc

either_term : (a b : Body) → body_term (either a b) ≡ two (codes ";") (body_term a) (body_term b)
either_term body.Cut b = refl
either_term (body.Run t) b = refl
either_term (body.And x y) b = refl
either_term (body.Or x y) b = refl
either_term (body.If x y) b = refl
either_term (body.Choose x y z) b = refl

joined_term : (k : Connective) (a b : Body) → body_term (join_of k a b) ≡ two (text_of k) (body_term a) (body_term b)
joined_term And a b = refl
joined_term Or a b = either_term a b
joined_term If a b = refl

-- the term of the body that comes of this term is this other term, and it is converted into the same body
pub record Converts (d : Body) (t : Tree) : Type 0 where
  pub term : body_term d ≡ t
  pub again : converted (body_term d) ≡ Some d

module _ (f : List ℕ) (a b : Tree) (x y : Option Body) (wa wb : Tree) (first : (c : Body) → x ≡ Some c → Converts c wa) (second : (c : Body) → y ≡ Some c → Converts c wb) where
  converts_joined : (o : Option Connective) (d : Body) → ((k : Connective) → o ≡ Some k → f ≡ text_of k) → converted (two f a b) ≡ by_connective o x y (two f a b) → by_connective o x y (two f a b) ≡ Some d
      → Converts d (joined o f wa wb (two f a b))
  converts_joined None d named whole e =
      let same : Run (two f a b) ≡ d = cc in
      record { term = ap body_term (sym same); again = ap (λ c. converted (body_term c)) (sym same) ∙ whole ∙ e }
  converts_joined (Some k) d named whole e =
      let p = both_parts (join_of k) x y d e in
      let one = first p.0 p.2 in
      let other = second p.1 p.3 in
      let term : body_term d ≡ two (text_of k) (body_term p.0) (body_term p.1) = ap body_term p.4 ∙ joined_term k p.0 p.1 in
      record {
        term = term ∙ ap₂ (two (text_of k)) one.term other.term ∙ ap (λ g. two g wa wb) (sym (named k refl));
        again = ap converted term ∙ converted_control k (body_term p.0) (body_term p.1) ∙ ap₂ (both (join_of k)) one.again other.again ∙ ap Some (sym p.4);
      }

name_converts : (a : List ℕ) (d : Body) → Some (converted_name a) ≡ Some d → Converts d (Name a)
name_converts a d e =
    elim (cases_Bool (bytes_eq a (codes "!"))) [
      | inl mark ↦ (let is : a ≡ codes "!" = (bytes_eq-Decides a (codes "!")).0 mark in
          let here : Some body.Cut ≡ Some d = rw mark at e in let same : body.Cut ≡ d = cc in
          record { term = ap body_term (sym same) ∙ ap Name (sym is); again = ap (λ c. converted (body_term c)) (sym same) ∙ ap Some same })
      | inr other ↦ (let here : Some (Run (Name a)) ≡ Some d = rw other at e in let same : Run (Name a) ≡ d = cc in
          record { term = ap body_term (sym same); again = ap (λ c. converted (body_term c)) (sym same) ∙ e })
    ]

goal_converts : (t : Tree) (d : Body) → converted t ≡ Some (Run t) → Some (Run t) ≡ Some d → Converts d t
goal_converts t d whole e =
    let same : Run t ≡ d = cc in
    record { term = ap body_term (sym same); again = ap (λ c. converted (body_term c)) (sym same) ∙ whole ∙ e }

pub converts : (t : Tree) (d : Body) → converted t ≡ Some d → Converts d (with_calls t)
converts (Variable n) d e = goal_converts (one (codes "call") (Variable n)) d refl e
converts (Integer z) d e = cc
converts (Name a) d e = name_converts a d e
converts (Apply f (More a (More b End))) d e =
    converts_joined f a b (converted a) (converted b) (with_calls a) (with_calls b) (converts a) (converts b) (connective_of f) d (named_by_text f) (converted_by_connective f a b) (sym (converted_by_connective f a b) ∙ e)
converts (Apply f t) d e = goal_converts (Apply f t) d refl e
converts End d e = cc
converts (More t ts) d e = cc

-- ---- numbered variables

callable_by_connective : (o : Option Connective) (x y u v : Option Body) (s t : Tree) → is_some x ≡ is_some u → is_some y ≡ is_some v → is_some (by_connective o x y s) ≡ is_some (by_connective o u v t)
callable_by_connective None x y u v s t p q = refl
callable_by_connective (Some k) x y u v s t p q = both_callable (join_of k) x y ∙ ap₂ ◌&&◌ p q ∙ sym (both_callable (join_of k) u v)

pub callable_numbered : (vs : List ℕ) (t : Tree) → is_callable (apply (numbers vs) t) ≡ is_callable t
callable_numbered vs (Variable n) = refl
callable_numbered vs (Integer z) = refl
callable_numbered vs (Name a) = refl
callable_numbered vs (Apply f (More a (More b End))) =
    ap is_some (converted_by_connective f (apply (numbers vs) a) (apply (numbers vs) b))
    ∙ callable_by_connective (connective_of f) (converted (apply (numbers vs) a)) (converted (apply (numbers vs) b)) (converted a) (converted b) (two f (apply (numbers vs) a) (apply (numbers vs) b)) (two f a b)
    (callable_numbered vs a) (callable_numbered vs b)
    ∙ sym (ap is_some (converted_by_connective f a b))
callable_numbered vs (Apply f t) = refl
callable_numbered vs End = refl
callable_numbered vs (More t ts) = refl
