-- Built-ins that look at their arguments, or unify them: they run no goal (ISO/IEC 13211-1:1995, 8.2 to 8.7).
use Rattle.std.specs.Prelude.{◌+◌, ◌*◌, List, [], ◌∷◌, length, map, ℕ, zero, suc, ℤ, pos, negsuc, nat_lt, int_lt, Bool, false, not, ◌||◌, ◌==◌, Option, Some, None, Ok, Err, codes, if◌then◌else◌}
use Rattle.std.specs.Ordering.{int_eq, is_eq, is_lt, is_gt}
use Rattle.std.specs.Str.{bytes_eq}
use Rattle.std.specs.declared.cmp.Ordering.{Ordering}
use Rattle.iso_model.specs.Terms.Sizes.{integer_size}
use Rattle.iso_model.specs.Terms.Trees.{Tree, Variable, Integer, Name, Apply, End, More, row}
use Rattle.iso_model.specs.Terms.Variables.{variables, variable_count}
use Rattle.iso_model.specs.Terms.Types.{is_variable, is_integer, is_atom, is_compound}
use Rattle.iso_model.specs.Terms.Lists.{nil, list_of, elements, tail, is_partial_list}
use Rattle.iso_model.specs.Terms.Order.{term_cmp}
use Rattle.iso_model.specs.Terms.Sorting.{by_order, sorted, sorted_by_keys}
use Rattle.iso_model.specs.Terms.Substitutions.{Subst}
use Rattle.iso_model.specs.Terms.Unification.{unifier_of}
use Rattle.iso_model.specs.Terms.Arguments.{argument, arity, listed, variables_from}
use Rattle.iso_model.specs.Search.Keys.{Key, key}
use Rattle.iso_model.specs.Search.Errors.{raised, instantiation_error, type_error, domain_error, max_arity_error}
use Rattle.iso_model.specs.Search.Replies.{Answer, Fail, Succeed, Equate, EquateCopy, Raise}
use Rattle.iso_model.specs.Search.Arithmetic.{Value, value}
use Rattle.iso_model.specs.declared.kinds.Library.{Library}
use Rattle.iso_model.specs.declared.kinds.Library.TheVariants.{Unify, Differ, Test, Is, Compare, Arg, CopyTerm, Functor, Univ, TermVariables, Order, CompareTerms, Sort, Keysort}
use Rattle.iso_model.specs.declared.kinds.TypeTest.{TypeTest}
use Rattle.iso_model.specs.declared.kinds.TypeTest.TheVariants as test
use Rattle.iso_model.specs.declared.kinds.OrderTest.{OrderTest}
use Rattle.iso_model.specs.declared.kinds.OrderTest.TheVariants as order
use Rattle.iso_model.specs.declared.kinds.Comparison.{Comparison}
use Rattle.iso_model.specs.declared.kinds.Comparison.TheVariants.{Equal, Unequal, Less, AtMost, Greater, AtLeast}

-- what a test comes to
abbrev pub tested : Bool → Answer
tested holds = if holds then Succeed else Fail

-- nothing is bound where terms have a unifier or have none
abbrev pub differ : Option Subst → Answer
differ None = Succeed
differ (Some u) = Fail

-- goes on with the value of an expression; where it has none its error is raised by this procedure (7.9.2)
abbrev pub with_value_of : Value → Key → (ℤ → Answer) → Answer
with_value_of (Ok z) k goes_on = goes_on z
with_value_of (Err error) k goes_on = Raise (raised error k)

-- ---- type testing (8.3)

-- there are no floats (own); `callable/1` and `ground/1` are those of the second corrigendum
abbrev pub has_type : TypeTest → Tree → Bool
has_type test.Var t = is_variable t
has_type test.Nonvar t = not (is_variable t)
has_type test.Atom t = is_atom t
has_type test.Integer t = is_integer t
has_type test.Float t = false
has_type test.Number t = is_integer t
has_type test.Atomic t = is_atom t || is_integer t
has_type test.Compound t = is_compound t
has_type test.Callable t = is_atom t || is_compound t
has_type test.Ground t = variable_count t == 0

-- ---- arithmetic comparison (8.7)

abbrev pub comparison_name : Comparison → List ℕ
comparison_name Equal = codes "=:="
comparison_name Unequal = codes "=\\="
comparison_name Less = codes "<"
comparison_name AtMost = codes "=<"
comparison_name Greater = codes ">"
comparison_name AtLeast = codes ">="

abbrev pub compares : Comparison → ℤ → ℤ → Bool
compares Equal x y = int_eq x y
compares Unequal x y = not (int_eq x y)
compares Less x y = int_lt x y
compares AtMost x y = not (int_lt y x)
compares Greater x y = int_lt y x
compares AtLeast x y = not (int_lt x y)

-- of the two values, the left one's error comes first
abbrev pub compared : Comparison → Value → Value → Answer
compared c left right =
    with_value_of left (key (comparison_name c) 2) (λ x. with_value_of right (key (comparison_name c) 2) (λ y. tested (compares c x y)))

-- ---- the parts of a term (8.5)

-- two terms are unified, each an argument or a part of one, which counts 1 (own)
abbrev pub equate : Tree → Tree → Answer
equate a b = Equate 2 a b

-- the term is unified with an integer, which is made
abbrev pub equate_integer : Tree → ℤ → Answer
equate_integer t z = Equate (1 + integer_size z) t (Integer z)

-- what a list of so many parts counts: each compound 2, each part and the empty list 1 (own)
abbrev pub list_made : ℕ → ℕ
list_made n = 3 * n + 1

-- this argument is unified with the list of these parts
abbrev pub equate_list : Tree → List Tree → Answer
equate_list l ts = Equate (1 + list_made (length ts)) l (list_of ts)

abbrev pub functor_key : Key
functor_key = key (codes "functor") 3

-- what the name of a compound is; of another term the term itself
abbrev pub name_of : Tree → Tree
name_of (Apply f ts) = Name f
name_of t = t

-- the term is unified with the compound of this name and so many new variables
abbrev pub new_compound : Tree → Tree → ℕ → Answer
new_compound t (Name f) n = EquateCopy t (Apply f (variables_from 0 n))
new_compound t name n = Raise (type_error (codes "atom") name functor_key)

-- the arity is not negative and at most 255
abbrev pub new_term_of : Tree → Tree → ℤ → Answer
new_term_of t name (pos zero) = equate t name
new_term_of t name (pos (suc n)) = if nat_lt 254 n then Raise (max_arity_error functor_key) else new_compound t name (suc n)
new_term_of t name (negsuc n) = Raise (domain_error (codes "not_less_than_zero") (Integer (negsuc n)) functor_key)

abbrev pub new_term_by : Tree → Tree → Tree → Answer
new_term_by t name (Integer z) = new_term_of t name z
new_term_by t name a = Raise (type_error (codes "integer") a functor_key)

-- name and arity are bound, the name is no compound, the arity an integer
abbrev pub new_term : Tree → Tree → Tree → Answer
new_term t name a =
    if is_variable name || is_variable a then Raise (instantiation_error functor_key) else
    (if is_compound name then Raise (type_error (codes "atomic") name functor_key) else new_term_by t name a)

-- the name and the arity of a term, or the term of a name and an arity (8.5.1; the order of the checks is own)
abbrev pub functor_answer : Tree → Tree → Tree → Answer
functor_answer t name a =
    if is_variable t then new_term t name a else Equate 4 (row (name ∷ a ∷ [])) (row (name_of t ∷ Integer (pos (arity t)) ∷ []))

abbrev pub arg_key : Key
arg_key = key (codes "arg") 3

-- the argument at this place, from 1 on, where there is one
abbrev pub argument_at : ℤ → Tree → Tree → Answer
argument_at (pos zero) t a = Fail
argument_at (pos (suc i)) t a = if nat_lt i (arity t) then equate (argument i t) a else Fail
argument_at (negsuc n) t a = Raise (domain_error (codes "not_less_than_zero") (Integer (negsuc n)) arg_key)

abbrev pub argument_of : ℤ → Tree → Tree → Answer
argument_of z (Apply f ts) a = argument_at z (Apply f ts) a
argument_of z t a = Raise (type_error (codes "compound") t arg_key)

abbrev pub argument_by : Tree → Tree → Tree → Answer
argument_by (Integer z) t a = argument_of z t a
argument_by n t a = Raise (type_error (codes "integer") n arg_key)

-- both are bound, the place is an integer, the term a compound, and the place not negative (8.5.2; the order of the
-- checks is own)
abbrev pub arg_answer : Tree → Tree → Tree → Answer
arg_answer n t a = if is_variable n || is_variable t then Raise (instantiation_error arg_key) else argument_by n t a

abbrev pub univ_key : Key
univ_key = key (codes "=..") 2

-- the name of a compound and its arguments; another term alone
abbrev pub parts : Tree → List Tree
parts (Apply f ts) = Name f ∷ listed ts
parts t = t ∷ []

-- the compound of this name, an atom, and these arguments, at most 255
abbrev pub compound_of_parts : Tree → Tree → List Tree → Answer
compound_of_parts t (Name f) ts = if nat_lt 255 (length ts) then Raise (max_arity_error univ_key) else Equate (3 + length ts) t (Apply f (row ts))
compound_of_parts t name ts = Raise (type_error (codes "atom") name univ_key)

-- a name alone is an atom or an integer
abbrev pub term_of_parts : Tree → Tree → List Tree → Answer
term_of_parts t name ts =
    if is_variable name then Raise (instantiation_error univ_key) else
    (if nat_lt 0 (length ts) then compound_of_parts t name ts else
    (if is_compound name then Raise (type_error (codes "atomic") name univ_key) else equate t name))

abbrev pub term_of_list : Tree → List Tree → Answer
term_of_list t [] = Raise (domain_error (codes "non_empty_list") (Name nil) univ_key)
term_of_list t (h ∷ ts) = term_of_parts t h ts

-- the list of a term's parts, or the term of such a list, which has an end then (8.5.3; the order of the checks is own)
abbrev pub univ_answer : Tree → Tree → Answer
univ_answer t l =
    if not (is_partial_list l) then Raise (type_error (codes "list") l univ_key) else
    (if is_variable t then (if is_variable (tail l) then Raise (instantiation_error univ_key) else term_of_list t (elements l)) else equate_list l (parts t))

-- the list of a term's variables, by first occurrence (8.5.5 of the second corrigendum; the check is own)
abbrev pub term_variables_answer : Tree → Tree → Answer
term_variables_answer t l =
    if is_partial_list l then equate_list l (map Variable (variables t)) else Raise (type_error (codes "list") l (key (codes "term_variables") 2))

-- ---- the order of terms (8.4)

-- whether two terms that compare so stand so (8.4.1)
abbrev pub stands_so : OrderTest → Ordering → Bool
stands_so order.Identical o = is_eq o
stands_so order.NotIdentical o = not (is_eq o)
stands_so order.Before o = is_lt o
stands_so order.NotAfter o = not (is_gt o)
stands_so order.After o = is_gt o
stands_so order.NotBefore o = not (is_lt o)

abbrev pub compare_key : Key
compare_key = key (codes "compare") 3

-- the atom for an order
abbrev pub order_atom : Ordering → Tree
order_atom o = Name (by_order o (codes "<") (codes "=") (codes ">"))

abbrev pub is_order_name : List ℕ → Bool
is_order_name a = bytes_eq a (codes "<") || bytes_eq a (codes "=") || bytes_eq a (codes ">")

-- what is unified with the atom for this order is unbound, or one of these atoms (the checks are own)
abbrev pub compare_answer : Tree → Ordering → Answer
compare_answer (Variable n) o = equate (Variable n) (order_atom o)
compare_answer (Name a) o = if is_order_name a then equate (Name a) (order_atom o) else Raise (domain_error (codes "order") (Name a) compare_key)
compare_answer t o = Raise (type_error (codes "atom") t compare_key)

-- the first list has an end, and what is unified with the other is a partial list (the checks and their order are own)
abbrev pub with_lists : Key → Tree → Tree → Answer → Answer
with_lists k l s goes_on =
    if not (is_partial_list l) then Raise (type_error (codes "list") l k) else
    (if is_variable (tail l) then Raise (instantiation_error k) else
    (if not (is_partial_list s) then Raise (type_error (codes "list") s k) else goes_on))

abbrev pub sort_answer : Tree → Tree → Answer
sort_answer l s = with_lists (key (codes "sort") 2) l s (equate_list s (sorted (elements l)))

-- a key and a value, `K-V`
abbrev pub has_key : Tree → Bool
has_key (Apply f (More k (More v End))) = bytes_eq f (codes "-")
has_key t = false

abbrev pub keysort_key : Key
keysort_key = key (codes "keysort") 2

-- each element, from the left, is bound and has a key
abbrev pub with_keys : List Tree → Answer → Answer
with_keys [] goes_on = goes_on
with_keys (t ∷ ts) goes_on =
    if is_variable t then Raise (instantiation_error keysort_key) else
    (if has_key t then with_keys ts goes_on else Raise (type_error (codes "pair") t keysort_key))

abbrev pub keysort_answer : Tree → Tree → Answer
keysort_answer l s = with_lists keysort_key l s (with_keys (elements l) (equate_list s (sorted_by_keys (elements l))))

-- ---- the rows

abbrev pub library_arity : Library → ℕ
library_arity Unify = 2
library_arity Differ = 2
library_arity (Test type) = 1
library_arity Is = 2
library_arity (Compare c) = 2
library_arity Arg = 3
library_arity CopyTerm = 2
library_arity Functor = 3
library_arity Univ = 2
library_arity TermVariables = 2
library_arity (Order test) = 2
library_arity CompareTerms = 3
library_arity Sort = 2
library_arity Keysort = 2

-- what this goal comes to (8.2.1 to 8.2.3, 8.3 to 8.5, 8.6.1, 8.7)
abbrev pub library_answer : Library → Tree → Answer
library_answer Unify t = equate (argument 0 t) (argument 1 t)
library_answer Differ t = differ (unifier_of (argument 0 t) (argument 1 t))
library_answer (Test type) t = tested (has_type type (argument 0 t))
library_answer Is t = with_value_of (value (argument 1 t)) (key (codes "is") 2) (equate_integer (argument 0 t))
library_answer (Compare c) t = compared c (value (argument 0 t)) (value (argument 1 t))
library_answer Arg t = arg_answer (argument 0 t) (argument 1 t) (argument 2 t)
library_answer CopyTerm t = EquateCopy (argument 1 t) (argument 0 t)
library_answer Functor t = functor_answer (argument 0 t) (argument 1 t) (argument 2 t)
library_answer Univ t = univ_answer (argument 0 t) (argument 1 t)
library_answer TermVariables t = term_variables_answer (argument 0 t) (argument 1 t)
library_answer (Order test) t = tested (stands_so test (term_cmp (argument 0 t) (argument 1 t)))
library_answer CompareTerms t = compare_answer (argument 0 t) (term_cmp (argument 1 t) (argument 2 t))
library_answer Sort t = sort_answer (argument 0 t) (argument 1 t)
library_answer Keysort t = keysort_answer (argument 0 t) (argument 1 t)
