-- What definite clauses are as Rust terms.
use Rattle.std.proofs.Common.{◌≡◌, ℕ, List, [], ◌∷◌, length, refl, ap, ◌∙◌, sym, Bool, true, false, ◌&&◌, not, codes, if◌then◌else◌, String, Vec, Global}
use Rattle.std.proofs.Common.{get_or, arith}
use Rattle.std.specs.Str.{bytes_eq}
use Rattle.std.specs.String.{string_bytes}
use Rattle.iso_model.specs.declared.terms.Term.{Term}
use Rattle.iso_model.specs.declared.terms.Term.TheVariants.{Compound}
use Rattle.iso_model.specs.Terms.Trees.{Tree, Name, Apply, More, End}
use Rattle.iso_model.specs.Terms.TermOf.{term_of, row_of}
use Rattle.iso_model.specs.Search.Keys.{key, key_of}
use Rattle.iso_model.specs.Search.Table.{is_built_in}
use Rattle.iso_model.proofs.OnTerms.RowLemmas.{count_row_of, term_of_compound}
use Rattle.iso_logic.specs.DefinitePrograms.{is_user, are_goals, is_definite_body, is_definite_clause}

goals_row : (f : List ℕ) (xs : List Term) → (length xs ≡ 2 → ⊥) → are_goals (Apply f (row_of xs)) ≡ not (is_built_in (key f (length xs)))
goals_row f [] h = refl
goals_row f (x ∷ []) h = refl
goals_row f (x ∷ y ∷ []) h = absurd (h refl)
goals_row f (x ∷ y ∷ z ∷ zs) h = ap (λ n. not (is_built_in (key f n))) (count_row_of (x ∷ y ∷ z ∷ zs))

goals_other : (t : Term) (f : String Global) (v : Vec Term Global) → t ≡ Compound f v → (length v.items ≡ 2 → ⊥)
    → are_goals (term_of t) ≡ not (is_built_in (key (string_bytes f) (length v.items)))
goals_other t f v is h = ap (λ x. are_goals (term_of x)) is ∙ ap are_goals (term_of_compound f v) ∙ goals_row (string_bytes f) v.items h

two_of : (xs : List Term) (x y : Term) → length xs ≡ 2 → x ≡ get_or xs 0 x → y ≡ get_or xs 1 y → xs ≡ x ∷ y ∷ []
two_of [] x y two a b = absurd (omega (arith, two))
two_of (p ∷ []) x y two a b = absurd (omega (arith, two))
two_of (p ∷ q ∷ []) x y two a b = let first : x ≡ p = a in let second : y ≡ q = b in rw (first, second) refl
two_of (p ∷ q ∷ z ∷ zs) x y two a b = absurd (omega (arith, two))

pub compound_two : (t : Term) (f : String Global) (v : Vec Term Global) (xs : List Term) (x y : Term) → t ≡ Compound f v → xs ≡ v.items → length xs ≡ 2
    → x ≡ get_or xs 0 x → y ≡ get_or xs 1 y
    → term_of t ≡ Apply (string_bytes f) (More (term_of x) (More (term_of y) End))
compound_two t f v xs x y is items two a b =
    ap term_of is ∙ term_of_compound f v ∙ ap (λ z. Apply (string_bytes f) (row_of z)) (sym items ∙ two_of xs x y two a b)

pub head_is : (t : Term) (f : String Global) (v : Vec Term Global) → t ≡ Compound f v
    → is_user (key_of (term_of t)) ≡ not (is_built_in (key (string_bytes f) (length v.items)))
head_is t f v is =
    ap (λ x. is_user (key_of (term_of x))) is ∙ ap (λ x. is_user (key_of x)) (term_of_compound f v) ∙ ap (λ n. not (is_built_in (key (string_bytes f) n)))
    (count_row_of v.items)

-- a compound that has not two arguments is one goal
pub goals_user : (t : Term) (f : String Global) (v : Vec Term Global) → t ≡ Compound f v → (length v.items ≡ 2 → ⊥)
    → is_user (key_of (term_of t)) ≡ are_goals (term_of t)
goals_user t f v is h = head_is t f v is ∙ sym (goals_other t f v is h)

-- a compound with two arguments is a conjunction where its name is the comma, and else one goal
pub goals_pair : (t : Tree) (f : List ℕ) (x y : Tree) → t ≡ Apply f (More x (More y End)) → bytes_eq f (codes ",") ≡ true
    → are_goals t ≡ (are_goals x && are_goals y)
goals_pair t f x y is named = ap are_goals is ∙ ap (λ b. if b then are_goals x && are_goals y else not (is_built_in (key f 2))) named

pub goals_single : (t : Tree) (f : List ℕ) (x y : Tree) → t ≡ Apply f (More x (More y End)) → bytes_eq f (codes ",") ≡ false
    → is_user (key_of t) ≡ are_goals t
goals_single t f x y is named =
    ap (λ z. is_user (key_of z)) is ∙ sym (ap are_goals is ∙ ap (λ b. if b then are_goals x && are_goals y else not (is_built_in (key f 2))) named)

body_is : (f : List ℕ) (xs : List Term) → is_definite_body (Apply f (row_of xs)) ≡ are_goals (Apply f (row_of xs))
body_is f xs = refl

pub definite_body_is : (t : Term) (f : String Global) (v : Vec Term Global) → t ≡ Compound f v → is_definite_body (term_of t) ≡ are_goals (term_of t)
definite_body_is t f v is =
    ap (λ x. is_definite_body (term_of x)) is ∙ ap is_definite_body (term_of_compound f v)
    ∙ sym (ap (λ x. are_goals (term_of x)) is ∙ ap are_goals (term_of_compound f v))

and_true : (b : Bool) → b && true ≡ b
and_true true = refl
and_true false = refl

clause_row : (f : List ℕ) (xs : List Term) → (length xs ≡ 2 → ⊥) → is_definite_clause (Apply f (row_of xs)) ≡ is_user (key_of (Apply f (row_of xs)))
clause_row f [] h = and_true _
clause_row f (x ∷ []) h = and_true _
clause_row f (x ∷ y ∷ []) h = absurd (h refl)
clause_row f (x ∷ y ∷ z ∷ zs) h = and_true _

pub clause_other : (t : Term) (f : String Global) (v : Vec Term Global) → t ≡ Compound f v → (length v.items ≡ 2 → ⊥)
    → is_definite_clause (term_of t) ≡ is_user (key_of (term_of t))
clause_other t f v is h =
    ap (λ x. is_definite_clause (term_of x)) is ∙ ap is_definite_clause (term_of_compound f v) ∙ clause_row (string_bytes f) v.items h
    ∙ sym (ap (λ x. is_user (key_of (term_of x))) is ∙ ap (λ x. is_user (key_of x)) (term_of_compound f v))

pub clause_rule : (t : Tree) (f : List ℕ) (x y : Tree) → t ≡ Apply f (More x (More y End)) → bytes_eq f (codes ":-") ≡ true
    → is_definite_clause t ≡ (is_user (key_of x) && is_definite_body y)
clause_rule t f x y is rule =
    ap is_definite_clause is ∙ ap (λ b. is_user (key_of (if b then x else Apply f (More x (More y End)))) && is_definite_body
    (if b then y else Name (codes "true"))) rule

pub clause_fact : (t : Tree) (f : List ℕ) (x y : Tree) → t ≡ Apply f (More x (More y End)) → bytes_eq f (codes ":-") ≡ false
    → is_definite_clause t ≡ is_user (key_of t)
clause_fact t f x y is none =
    ap is_definite_clause is ∙ ap (λ b. is_user (key_of (if b then x else Apply f (More x (More y End)))) && is_definite_body
    (if b then y else Name (codes "true"))) none ∙ and_true _ ∙ sym (ap (λ z. is_user (key_of z)) is)
