-- What the terms of a text are, and the goals of queries, by what a Rust term is.
use Rattle.std.proofs.Common.{◌≡◌, ℕ, Bool, true, false, ◌&&◌, if◌then◌else◌, List, [], ◌∷◌, length, get_or, codes, refl, sym, ap, ◌∙◌, String, Vec, Global}
use Rattle.std.specs.Str.{bytes_eq}
use Rattle.std.specs.String.{string_bytes}
use Rattle.iso_model.specs.Terms.Trees.{Tree, Apply, End, More, arities_fit}
use Rattle.iso_model.specs.Terms.Copies.{IsNumbered}
use Rattle.iso_model.specs.Search.Errors.{key}
use Rattle.iso_model.specs.Session.Sessions.{query_goal}
use Rattle.iso_model.specs.Session.Directives.{AClause, Directive, Initialization, PassedOver, passes_over, run_or_kept, directive_term, text_term}
use Rattle.iso_model.specs.declared.terms.Term.{Term}
use Rattle.iso_model.specs.declared.terms.Term.TheVariants.{Compound}
use Rattle.iso_model.specs.Terms.TermOf.{term_of, row_of}
use Rattle.iso_model.proofs.OnTerms.RowLemmas.{count_row_of, term_of_compound}

-- a compound that has another number of arguments than one is a query as it is
kept_row : (f : List ℕ) (ts : List Term) → (length ts ≡ 1 → ⊥) → query_goal (Apply f (row_of ts)) ≡ Apply f (row_of ts)
kept_row f [] other = refl
kept_row f (t ∷ []) other = absurd (other refl)
kept_row f (t ∷ u ∷ ts) other = refl

pub goal_kept : (t : Term) (f : String Global) (v : Vec Term Global) → t ≡ Compound f v → (length v.items ≡ 1 → ⊥) → term_of t ≡ query_goal (term_of t)
goal_kept t f v is other =
    let shape = ap term_of is ∙ term_of_compound f v in
    shape ∙ sym (kept_row (string_bytes f) v.items other) ∙ sym (ap query_goal shape)

passed_row : (f : List ℕ) (ts : List Term) → passes_over (key f (length ts)) ≡ true → directive_term (Apply f (row_of ts)) ≡ PassedOver
passed_row f ts passed = rw (count_row_of ts, passed) refl

-- a directive that is passed over
pub directive_passed : (t : Term) (f : String Global) (v : Vec Term Global) → t ≡ Compound f v → passes_over (key (string_bytes f) (length v.items)) ≡ true → PassedOver ≡ directive_term (term_of t)
directive_passed t f v is passed = sym (ap (λ x. directive_term (term_of x)) is ∙ ap directive_term (term_of_compound f v) ∙ passed_row (string_bytes f) v.items passed)

taken_row : (f : List ℕ) (ts : List Term) → passes_over (key f (length ts)) ≡ false → directive_term (Apply f (row_of ts)) ≡ run_or_kept (Apply f (row_of ts))
taken_row f ts passed = rw (count_row_of ts, passed) refl

-- a directive that is run, or whose goal is kept
pub directive_taken : (t : Term) (f : String Global) (v : Vec Term Global) → t ≡ Compound f v → passes_over (key (string_bytes f) (length v.items)) ≡ false → directive_term (term_of t) ≡ run_or_kept (term_of t)
directive_taken t f v is passed =
    let shape = ap term_of is ∙ term_of_compound f v in
    ap directive_term shape ∙ taken_row (string_bytes f) v.items passed ∙ sym (ap run_or_kept shape)

run_row : (f : List ℕ) (ts : List Term) → (length ts ≡ 1 → ⊥) → run_or_kept (Apply f (row_of ts)) ≡ Directive (Apply f (row_of ts))
run_row f [] other = refl
run_row f (t ∷ []) other = absurd (other refl)
run_row f (t ∷ u ∷ ts) other = refl

-- a directive whose goal has another number of arguments than one is run
pub directive_run : (t : Term) (f : String Global) (v : Vec Term Global) → t ≡ Compound f v → (length v.items ≡ 1 → ⊥) → Directive (term_of t) ≡ run_or_kept (term_of t)
directive_run t f v is other =
    let shape = ap term_of is ∙ term_of_compound f v in
    sym (ap run_or_kept shape ∙ run_row (string_bytes f) v.items other ∙ ap Directive (sym shape))

clause_row : (f : List ℕ) (ts : List Term) → (length ts ≡ 1 → ⊥) → (length ts ≡ 2 → ⊥) → text_term (Apply f (row_of ts)) ≡ AClause
clause_row f [] one two = refl
clause_row f (t ∷ []) one two = absurd (one refl)
clause_row f (t ∷ u ∷ []) one two = absurd (two refl)
clause_row f (t ∷ u ∷ x ∷ ts) one two = refl

-- a compound that has another number of arguments than one or two is a clause
pub clause_compound : (t : Term) (f : String Global) (v : Vec Term Global) → t ≡ Compound f v → (length v.items ≡ 1 → ⊥) → (length v.items ≡ 2 → ⊥) → AClause ≡ text_term (term_of t)
clause_compound t f v is one two =
    sym (ap (λ x. text_term (term_of x)) is ∙ ap text_term (term_of_compound f v) ∙ clause_row (string_bytes f) v.items one two)

-- a list of one
one_of : (xs : List Term) (x : Term) → length xs ≡ 1 → x ≡ get_or xs 0 x → xs ≡ x ∷ []
one_of [] x one is = cc
one_of (y ∷ []) x one is = ap (λ z. z ∷ []) (sym is)
one_of (y ∷ z ∷ xs) x one is = cc

-- a compound with one argument
pub compound_one : (t : Term) (f : String Global) (v : Vec Term Global) (xs : List Term) (x : Term) → t ≡ Compound f v → xs ≡ v.items → length xs ≡ 1 → x ≡ get_or xs 0 x
    → term_of t ≡ Apply (string_bytes f) (More (term_of x) End)
compound_one t f v xs x is items one at = ap term_of is ∙ term_of_compound f v ∙ ap (λ z. Apply (string_bytes f) (row_of z)) (sym items ∙ one_of xs x one at)

where_both : (b : Bool) → b && true ≡ true → b ≡ true
where_both true h = refl
where_both false h = h

fits_apply : (f : List ℕ) (g : Tree) → arities_fit (Apply f (More g End)) ≡ true → IsNumbered (Apply f (More g End)) → (arities_fit g ≡ true) × IsNumbered g
fits_apply f g fits numbered = (where_both (arities_fit g) fits, numbered)

-- its argument is well formed, and its variables are numbered in the order of their first occurrence, where it is so of the compound
pub fits_one : (t : Term) (f : List ℕ) (g : Tree) → term_of t ≡ Apply f (More g End) → arities_fit (term_of t) ≡ true → IsNumbered (term_of t) → (arities_fit g ≡ true) × IsNumbered g
fits_one t f g shape fits numbered = fits_apply f g (rw shape at fits) (rw shape at numbered)

kept_by : (f : List ℕ) (g : Tree) → bytes_eq f (codes "initialization") ≡ true → run_or_kept (Apply f (More g End)) ≡ Initialization g
kept_by f g named = rw named refl

run_by : (f : List ℕ) (g : Tree) → bytes_eq f (codes "initialization") ≡ false → run_or_kept (Apply f (More g End)) ≡ Directive (Apply f (More g End))
run_by f g named = rw named refl

-- a directive that keeps its goal
pub directive_kept : (t : Term) (f : List ℕ) (g : Tree) → term_of t ≡ Apply f (More g End) → bytes_eq f (codes "initialization") ≡ true → Initialization g ≡ run_or_kept (term_of t)
directive_kept t f g shape named = sym (ap run_or_kept shape ∙ kept_by f g named)

-- a directive whose goal has one argument and is run
pub directive_run_one : (t : Term) (f : List ℕ) (g : Tree) → term_of t ≡ Apply f (More g End) → bytes_eq f (codes "initialization") ≡ false → Directive (term_of t) ≡ run_or_kept (term_of t)
directive_run_one t f g shape named = sym (ap run_or_kept shape ∙ run_by f g named ∙ ap Directive (sym shape))

pair_row : (f : List ℕ) (ts : List Term) → length ts ≡ 2 → text_term (Apply f (row_of ts)) ≡ (if bytes_eq f (codes "-->") then PassedOver else AClause)
pair_row f [] two = cc
pair_row f (t ∷ []) two = cc
pair_row f (t ∷ u ∷ []) two = refl
pair_row f (t ∷ u ∷ x ∷ ts) two = cc

-- a compound with two arguments
pub text_pair : (t : Term) (f : String Global) (v : Vec Term Global) → t ≡ Compound f v → length v.items ≡ 2 → text_term (term_of t) ≡ (if bytes_eq (string_bytes f) (codes "-->") then PassedOver else AClause)
text_pair t f v is two = ap (λ x. text_term (term_of x)) is ∙ ap text_term (term_of_compound f v) ∙ pair_row (string_bytes f) v.items two
