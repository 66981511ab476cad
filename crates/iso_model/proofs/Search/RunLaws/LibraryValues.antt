-- What goals of the library come to is made of values, where the goal is one.
use Rattle.std.proofs.Common.{◌≡◌, ◌+◌, ℕ, zero, suc, ℤ, List, [], ◌∷◌, length, map, Bool, true, false, not, Ok, Err, Option, Some, None, refl, ap, codes, if◌then◌else◌, nat_lt, pos, negsuc, ◌||◌}
use Rattle.iso_model.specs.Terms.Trees.{Tree, Variable, Integer, Name, Apply, End, More, row}
use Rattle.iso_model.specs.Terms.Types.{is_variable, is_compound}
use Rattle.iso_model.specs.Terms.Lists.{elements, tail, is_partial_list}
use Rattle.std.specs.declared.cmp.Ordering.{Ordering}
use Rattle.iso_model.specs.Terms.Order.{term_cmp}
use Rattle.iso_model.specs.Terms.Sorting.{sorted, key_cmp, sorted_by_keys}
use Rattle.iso_model.specs.Terms.Variables.{variables}
use Rattle.iso_model.specs.Terms.Substitutions.{Subst, apply}
use Rattle.iso_model.specs.Terms.Arguments.{argument, arity}
use Rattle.iso_model.specs.Terms.Unification.{unifier_of}
use Rattle.iso_model.specs.Search.Keys.{Key, key}
use Rattle.iso_model.specs.Search.Errors.{instantiation_error, type_error, domain_error, max_arity_error}
use Rattle.iso_model.specs.Search.Replies.{Answer, Fail, Succeed, Equate, EquateCopy, Raise}
use Rattle.iso_model.specs.Search.Arithmetic.{Value, value}
use Rattle.iso_model.specs.Search.Library as table
use Rattle.iso_model.specs.Search.Library.{tested, differ, has_type, with_value_of, comparison_name, compares, equate, arg_key, argument_at, argument_of, argument_by, arg_answer, library_answer}
use Rattle.iso_model.proofs.Search.RunLaws.TermValues.{AreValues, argument_value, row_value, list_value, listed_values, elements_values, variables_values, ordered_values}
use Rattle.iso_model.specs.declared.kinds.Library.{Library}
use Rattle.iso_model.specs.declared.kinds.Library.TheVariants as library
use Rattle.iso_model.specs.Search.RunLaws.Sameness.{IsValue}

-- the terms that are unified are values
abbrev pub IsOwnAnswer : Subst → Answer → Type 0
IsOwnAnswer r Fail = Unit {0}
IsOwnAnswer r Succeed = Unit {0}
IsOwnAnswer r (Equate made a b) = IsValue r a × IsValue r b
IsOwnAnswer r (EquateCopy a b) = IsValue r a
IsOwnAnswer r (Raise error) = Unit {0}

value_own : (r : Subst) (v : Value) (k : Key) (goes_on : ℤ → Answer) → ((z : ℤ) → IsOwnAnswer r (goes_on z)) → IsOwnAnswer r (with_value_of v k goes_on)
value_own r (Ok z) k goes_on own = own z
value_own r (Err error) k goes_on own = tt

test_own : (r : Subst) (holds : Bool) → IsOwnAnswer r (tested holds)
test_own r true = tt
test_own r false = tt

argument_at_own : (r : Subst) (z : ℤ) (t a : Tree) → IsValue r t → IsValue r a → IsOwnAnswer r (argument_at z t a)
argument_at_own r (pos zero) t a own other = tt
argument_at_own r (pos (suc i)) t a own other = elim (nat_lt i (arity t)) as (λ x. IsOwnAnswer r (if x then equate (argument i t) a else Fail)) [
  | true ↦ (argument_value r i t own, other)
  | false ↦ tt
]
argument_at_own r (negsuc n) t a own other = tt

argument_of_own : (r : Subst) (z : ℤ) (t a : Tree) → IsValue r t → IsValue r a → IsOwnAnswer r (argument_of z t a)
argument_of_own r z (Apply f ts) a own other = argument_at_own r z (Apply f ts) a own other
argument_of_own r z (Variable n) a own other = tt
argument_of_own r z (Integer y) a own other = tt
argument_of_own r z (Name f) a own other = tt
argument_of_own r z End a own other = tt
argument_of_own r z (More t ts) a own other = tt

argument_by_own : (r : Subst) (n t a : Tree) → IsValue r t → IsValue r a → IsOwnAnswer r (argument_by n t a)
argument_by_own r (Integer z) t a own other = argument_of_own r z t a own other
argument_by_own r (Variable n) t a own other = tt
argument_by_own r (Name f) t a own other = tt
argument_by_own r (Apply f ts) t a own other = tt
argument_by_own r End t a own other = tt
argument_by_own r (More u us) t a own other = tt

arg_own : (r : Subst) (n t a : Tree) → IsValue r t → IsValue r a → IsOwnAnswer r (arg_answer n t a)
arg_own r n t a own other = elim (is_variable n || is_variable t) as (λ x. IsOwnAnswer r (if x then Raise (instantiation_error arg_key) else argument_by n t a)) [
  | true ↦ tt
  | false ↦ argument_by_own r n t a own other
]

list_own : (r : Subst) (l : Tree) (ts : List Tree) → IsValue r l → AreValues r ts → IsOwnAnswer r (table.equate_list l ts)
list_own r l ts own others = (own, list_value r ts others)

compound_own : (r : Subst) (t name : Tree) (n : ℕ) → IsValue r t → IsOwnAnswer r (table.new_compound t name n)
compound_own r t (Name f) n own = own
compound_own r t (Variable v) n own = tt
compound_own r t (Integer z) n own = tt
compound_own r t (Apply f ts) n own = tt
compound_own r t End n own = tt
compound_own r t (More u us) n own = tt

new_of_own : (r : Subst) (t name : Tree) (z : ℤ) → IsValue r t → IsValue r name → IsOwnAnswer r (table.new_term_of t name z)
new_of_own r t name (pos zero) own named = (own, named)
new_of_own r t name (pos (suc n)) own named = elim (nat_lt 254 n) as (λ x. IsOwnAnswer r (if x then Raise (max_arity_error table.functor_key) else table.new_compound t name (suc n))) [
  | true ↦ tt
  | false ↦ compound_own r t name (suc n) own
]
new_of_own r t name (negsuc n) own named = tt

new_by_own : (r : Subst) (t name a : Tree) → IsValue r t → IsValue r name → IsOwnAnswer r (table.new_term_by t name a)
new_by_own r t name (Integer z) own named = new_of_own r t name z own named
new_by_own r t name (Variable v) own named = tt
new_by_own r t name (Name f) own named = tt
new_by_own r t name (Apply f ts) own named = tt
new_by_own r t name End own named = tt
new_by_own r t name (More u us) own named = tt

new_own : (r : Subst) (t name a : Tree) → IsValue r t → IsValue r name → IsOwnAnswer r (table.new_term t name a)
new_own r t name a own named =
    elim (is_variable name || is_variable a) as (λ x. IsOwnAnswer r (if x then Raise (instantiation_error table.functor_key) else
    (if is_compound name then Raise (type_error (codes "atomic") name table.functor_key) else table.new_term_by t name a))) [
      | true ↦ tt
      | false ↦ elim (is_compound name) as (λ x. IsOwnAnswer r (if x then Raise (type_error (codes "atomic") name table.functor_key) else table.new_term_by t name a)) [
        | true ↦ tt
        | false ↦ new_by_own r t name a own named
      ]
    ]

name_value : (r : Subst) (t : Tree) → IsValue r t → IsValue r (table.name_of t)
name_value r (Apply f ts) own = refl
name_value r (Variable n) own = own
name_value r (Integer z) own = own
name_value r (Name f) own = own
name_value r End own = own
name_value r (More u us) own = own

functor_own : (r : Subst) (t name a : Tree) → IsValue r t → IsValue r name → IsValue r a → IsOwnAnswer r (table.functor_answer t name a)
functor_own r t name a own named counted =
    elim (is_variable t) as (λ x. IsOwnAnswer r (if x then table.new_term t name a else Equate 4 (row (name ∷ a ∷ [])) (row (table.name_of t ∷ Integer (pos (arity t)) ∷ [])))) [
      | true ↦ new_own r t name a own named
      | false ↦ (row_value r (name ∷ a ∷ []) (named, (counted, tt)), row_value r (table.name_of t ∷ Integer (pos (arity t)) ∷ []) (name_value r t own, (refl, tt)))
    ]

parts_values : (r : Subst) (t : Tree) → IsValue r t → AreValues r (table.parts t)
parts_values r (Apply f ts) own = let inner : apply r ts ≡ ts = cc in (refl, listed_values r ts inner)
parts_values r (Variable n) own = (own, tt)
parts_values r (Integer z) own = (own, tt)
parts_values r (Name f) own = (own, tt)
parts_values r End own = (own, tt)
parts_values r (More u us) own = (own, tt)

compound_parts_own : (r : Subst) (t name : Tree) (ts : List Tree) → IsValue r t → AreValues r ts → IsOwnAnswer r (table.compound_of_parts t name ts)
compound_parts_own r t (Name f) ts own others =
    elim (nat_lt 255 (length ts)) as (λ x. IsOwnAnswer r (if x then Raise (max_arity_error table.univ_key) else Equate (3 + length ts) t (Apply f (row ts)))) [
      | true ↦ tt
      | false ↦ (own, ap (Apply f) (row_value r ts others))
    ]
compound_parts_own r t (Variable n) ts own others = tt
compound_parts_own r t (Integer z) ts own others = tt
compound_parts_own r t (Apply f us) ts own others = tt
compound_parts_own r t End ts own others = tt
compound_parts_own r t (More u us) ts own others = tt

of_parts_own : (r : Subst) (t name : Tree) (ts : List Tree) → IsValue r t → IsValue r name → AreValues r ts → IsOwnAnswer r (table.term_of_parts t name ts)
of_parts_own r t name ts own named others =
    let alone = if is_compound name then Raise (type_error (codes "atomic") name table.univ_key) else equate t name in
    elim (is_variable name) as (λ x. IsOwnAnswer r (if x then Raise (instantiation_error table.univ_key) else (if nat_lt 0 (length ts) then table.compound_of_parts t name ts else alone))) [
      | true ↦ tt
      | false ↦ elim (nat_lt 0 (length ts)) as (λ x. IsOwnAnswer r (if x then table.compound_of_parts t name ts else alone)) [
        | true ↦ compound_parts_own r t name ts own others
        | false ↦ elim (is_compound name) as (λ x. IsOwnAnswer r (if x then Raise (type_error (codes "atomic") name table.univ_key) else equate t name)) [
          | true ↦ tt
          | false ↦ (own, named)
        ]
      ]
    ]

of_list_own : (r : Subst) (t : Tree) (ts : List Tree) → IsValue r t → AreValues r ts → IsOwnAnswer r (table.term_of_list t ts)
of_list_own r t [] own others = tt
of_list_own r t (h ∷ ts) own others = of_parts_own r t h ts own others.0 others.1

univ_own : (r : Subst) (t l : Tree) → IsValue r t → IsValue r l → IsOwnAnswer r (table.univ_answer t l)
univ_own r t l own listed =
    let made = if is_variable (tail l) then Raise (instantiation_error table.univ_key) else table.term_of_list t (elements l) in
    elim (not (is_partial_list l)) as (λ x. IsOwnAnswer r (if x then Raise (type_error (codes "list") l table.univ_key) else (if is_variable t then made else table.equate_list l (table.parts t)))) [
      | true ↦ tt
      | false ↦ elim (is_variable t) as (λ x. IsOwnAnswer r (if x then made else table.equate_list l (table.parts t))) [
        | true ↦ elim (is_variable (tail l)) as (λ x. IsOwnAnswer r (if x then Raise (instantiation_error table.univ_key) else table.term_of_list t (elements l))) [
          | true ↦ tt
          | false ↦ of_list_own r t (elements l) own (elements_values r l listed)
        ]
        | false ↦ list_own r l (table.parts t) listed (parts_values r t own)
      ]
    ]

variables_own : (r : Subst) (t l : Tree) → IsValue r t → IsValue r l → IsOwnAnswer r (table.term_variables_answer t l)
variables_own r t l own listed =
    elim (is_partial_list l) as (λ x. IsOwnAnswer r (if x then table.equate_list l (map Variable (variables t)) else Raise (type_error (codes "list") l (key (codes "term_variables") 2)))) [
      | true ↦ list_own r l (map Variable (variables t)) listed (variables_values r t own)
      | false ↦ tt
    ]

compare_own : (r : Subst) (t : Tree) (o : Ordering) → IsValue r t → IsOwnAnswer r (table.compare_answer t o)
compare_own r (Variable n) o own = (own, refl)
compare_own r (Name a) o own =
    elim (table.is_order_name a) as (λ x. IsOwnAnswer r (if x then equate (Name a) (table.order_atom o) else Raise (domain_error (codes "order") (Name a) table.compare_key))) [
      | true ↦ (own, refl)
      | false ↦ tt
    ]
compare_own r (Integer z) o own = tt
compare_own r (Apply f ts) o own = tt
compare_own r End o own = tt
compare_own r (More u us) o own = tt

lists_own : (r : Subst) (k : Key) (l s : Tree) (goes_on : Answer) → IsOwnAnswer r goes_on → IsOwnAnswer r (table.with_lists k l s goes_on)
lists_own r k l s goes_on own =
    let behind = if not (is_partial_list s) then Raise (type_error (codes "list") s k) else goes_on in
    elim (not (is_partial_list l)) as (λ x. IsOwnAnswer r (if x then Raise (type_error (codes "list") l k) else (if is_variable (tail l) then Raise (instantiation_error k) else behind))) [
      | true ↦ tt
      | false ↦ elim (is_variable (tail l)) as (λ x. IsOwnAnswer r (if x then Raise (instantiation_error k) else behind)) [
        | true ↦ tt
        | false ↦ elim (not (is_partial_list s)) as (λ x. IsOwnAnswer r (if x then Raise (type_error (codes "list") s k) else goes_on)) [
          | true ↦ tt
          | false ↦ own
        ]
      ]
    ]

keys_own : (r : Subst) (ts : List Tree) (goes_on : Answer) → IsOwnAnswer r goes_on → IsOwnAnswer r (table.with_keys ts goes_on)
keys_own r [] goes_on own = own
keys_own r (t ∷ ts) goes_on own =
    let behind = if table.has_key t then table.with_keys ts goes_on else Raise (type_error (codes "pair") t table.keysort_key) in
    elim (is_variable t) as (λ x. IsOwnAnswer r (if x then Raise (instantiation_error table.keysort_key) else behind)) [
      | true ↦ tt
      | false ↦ elim (table.has_key t) as (λ x. IsOwnAnswer r (if x then table.with_keys ts goes_on else Raise (type_error (codes "pair") t table.keysort_key))) [
        | true ↦ keys_own r ts goes_on own
        | false ↦ tt
      ]
    ]

sort_own : (r : Subst) (l s : Tree) → IsValue r l → IsValue r s → IsOwnAnswer r (table.sort_answer l s)
sort_own r l s own other =
    lists_own r (key (codes "sort") 2) l s (table.equate_list s (sorted (elements l))) (list_own r s (sorted (elements l)) other (ordered_values r true term_cmp (elements l) (elements_values r l own)))

keysort_own : (r : Subst) (l s : Tree) → IsValue r l → IsValue r s → IsOwnAnswer r (table.keysort_answer l s)
keysort_own r l s own other =
    let made = table.equate_list s (sorted_by_keys (elements l)) in
    lists_own r table.keysort_key l s (table.with_keys (elements l) made)
    (keys_own r (elements l) made (list_own r s (sorted_by_keys (elements l)) other (ordered_values r false key_cmp (elements l) (elements_values r l own))))

pub library_own : (r : Subst) (row : Library) (v : Tree) → IsValue r v → IsOwnAnswer r (library_answer row v)
library_own r library.Unify v own = (argument_value r 0 v own, argument_value r 1 v own)
library_own r library.Differ v own = differ_own (unifier_of (argument 0 v) (argument 1 v)) where
  differ_own : (o : Option Subst) → IsOwnAnswer r (differ o)
  differ_own (Some u) = tt
  differ_own None = tt
library_own r (library.Test type) v own = test_own r (has_type type (argument 0 v))
library_own r library.Is v own =
    value_own r (value (argument 1 v)) (key (codes "is") 2) (table.equate_integer (argument 0 v)) (λ z. (argument_value r 0 v own, refl))
library_own r (library.Compare c) v own =
    value_own r (value (argument 0 v)) (key (comparison_name c) 2) (λ x. with_value_of (value (argument 1 v)) (key (comparison_name c) 2) (λ y. tested (compares c x y)))
    (λ x. value_own r (value (argument 1 v)) (key (comparison_name c) 2) (λ y. tested (compares c x y)) (λ y. test_own r (compares c x y)))
library_own r library.Arg v own = arg_own r (argument 0 v) (argument 1 v) (argument 2 v) (argument_value r 1 v own) (argument_value r 2 v own)
library_own r library.CopyTerm v own = argument_value r 1 v own
library_own r library.Functor v own = functor_own r (argument 0 v) (argument 1 v) (argument 2 v) (argument_value r 0 v own) (argument_value r 1 v own) (argument_value r 2 v own)
library_own r library.Univ v own = univ_own r (argument 0 v) (argument 1 v) (argument_value r 0 v own) (argument_value r 1 v own)
library_own r library.TermVariables v own = variables_own r (argument 0 v) (argument 1 v) (argument_value r 0 v own) (argument_value r 1 v own)
library_own r (library.Order test) v own = test_own r (table.stands_so test (term_cmp (argument 0 v) (argument 1 v)))
library_own r library.CompareTerms v own = compare_own r (argument 0 v) (term_cmp (argument 1 v) (argument 2 v)) (argument_value r 0 v own)
library_own r library.Sort v own = sort_own r (argument 0 v) (argument 1 v) (argument_value r 0 v own) (argument_value r 1 v own)
library_own r library.Keysort v own = keysort_own r (argument 0 v) (argument 1 v) (argument_value r 0 v own) (argument_value r 1 v own)
