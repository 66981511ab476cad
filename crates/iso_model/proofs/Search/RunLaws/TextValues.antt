-- What goals on texts come to is made of values, where the goal is one.
use Rattle.std.proofs.Common.{ℕ, ℤ, List, [], ◌∷◌, true, false, not, ◌&&◌, Ok, Err, Option, Some, None, refl, codes, if◌then◌else◌, pos, negsuc, Result}
use Rattle.std.specs.Prelude.{map, chars}
use Rattle.std.specs.Fmt.{signed_decimal}
use Rattle.std.specs.List.{list_any}
use Rattle.iso_model.specs.Terms.Trees.{Tree, Variable, Integer, Name, Apply, End, More}
use Rattle.iso_model.specs.Terms.Types.{is_variable}
use Rattle.iso_model.specs.Terms.Lists.{elements, tail, is_list, is_partial_list}
use Rattle.iso_model.specs.Terms.Substitutions.{Subst}
use Rattle.iso_model.specs.Terms.Arguments.{argument}
use Rattle.iso_model.specs.Search.Keys.{Key, key}
use Rattle.iso_model.specs.Search.Errors.{instantiation_error, type_error}
use Rattle.iso_model.specs.Search.Library.{equate_list}
use Rattle.iso_model.specs.Search.Replies.{Answer, Raise}
use Rattle.iso_model.specs.Search.AtomTexts as table
use Rattle.iso_model.specs.Search.AtomTexts.{Form, Characters, Codes, element, text_elements, element_code, elements_codes, char_code_key, text_answer}
use Rattle.iso_model.proofs.Search.RunLaws.TermValues.{AreValues, argument_value, list_value}
use Rattle.iso_model.proofs.Search.RunLaws.LibraryValues.{IsOwnAnswer}
use Rattle.iso_model.specs.declared.kinds.Text.{Text}
use Rattle.iso_model.specs.declared.kinds.Text.TheVariants as text
use Rattle.iso_model.specs.Search.RunLaws.Sameness.{IsValue}

-- characters and codes are constants
elements_values : (r : Subst) (form : Form) (cs : List ℕ) → AreValues r (map (element form) cs)
elements_values r form [] = tt
elements_values r Characters (c ∷ cs) = (refl, elements_values r Characters cs)
elements_values r Codes (c ∷ cs) = (refl, elements_values r Codes cs)

list_own : (r : Subst) (form : Form) (l : Tree) (a : List ℕ) → IsValue r l → IsOwnAnswer r (equate_list l (text_elements form a))
list_own r form l a own = (own, list_value r (text_elements form a) (elements_values r form (chars a)))

length_by_own : (r : Subst) (count : ℕ) (l : Tree) → IsValue r l → IsOwnAnswer r (table.length_by count l)
length_by_own r count (Variable n) own = (own, refl)
length_by_own r count (Integer (pos n)) own = (refl, refl)
length_by_own r count (Integer (negsuc n)) own = tt
length_by_own r count (Name a) own = tt
length_by_own r count (Apply f ts) own = tt
length_by_own r count End own = tt
length_by_own r count (More t ts) own = tt

length_own : (r : Subst) (t l : Tree) → IsValue r l → IsOwnAnswer r (table.length_answer t l)
length_own r (Variable n) l own = tt
length_own r (Name a) l own = length_by_own r _ l own
length_own r (Integer z) l own = tt
length_own r (Apply f ts) l own = tt
length_own r End l own = tt
length_own r (More t ts) l own = tt

text_own : (r : Subst) (t : Tree) (found : Result (List ℕ) Tree) → IsValue r t → IsOwnAnswer r (table.equate_text t found)
text_own r t (Ok cs) own = (own, refl)
text_own r t (Err error) own = tt

atom_of_list_own : (r : Subst) (form : Form) (t l : Tree) (k : Key) → IsValue r t → IsOwnAnswer r (table.atom_of_list form t l k)
atom_of_list_own r form t l k own = elim (is_variable (tail l)) as (λ x. IsOwnAnswer r (if x then Raise (instantiation_error k) else table.equate_text t (elements_codes form (elements l) k))) [
  | true ↦ tt
  | false ↦ text_own r t (elements_codes form (elements l) k) own
]

partial_own : (r : Subst) (l : Tree) (k : Key) (goes_on : Answer) → IsOwnAnswer r goes_on → IsOwnAnswer r (table.with_partial_list l k goes_on)
partial_own r l k goes_on own = elim (is_partial_list l) as (λ x. IsOwnAnswer r (if x then goes_on else Raise (type_error (codes "list") l k))) [
  | true ↦ own
  | false ↦ tt
]

atom_list_own : (r : Subst) (form : Form) (t l : Tree) (k : Key) → IsValue r t → IsValue r l → IsOwnAnswer r (table.atom_list_answer form t l k)
atom_list_own r form (Variable n) l k own other = partial_own r l k (table.atom_of_list form (Variable n) l k) (atom_of_list_own r form (Variable n) l k own)
atom_list_own r form (Name a) l k own other = partial_own r l k (equate_list l (text_elements form a)) (list_own r form l a other)
atom_list_own r form (Integer z) l k own other = tt
atom_list_own r form (Apply f ts) l k own other = tt
atom_list_own r form End l k own other = tt
atom_list_own r form (More t ts) l k own other = tt

code_of_own : (r : Subst) (found : Result ℕ Tree) (n : Tree) → IsValue r n → IsOwnAnswer r (table.code_of found n)
code_of_own r (Ok code) n own = (own, refl)
code_of_own r (Err error) n own = tt

character_of_own : (r : Subst) (c : Tree) (found : Result ℕ Tree) → IsValue r c → IsOwnAnswer r (table.character_of c found)
character_of_own r (Variable n) (Ok code) own = (own, refl)
character_of_own r (Integer z) (Ok code) own = (own, refl)
character_of_own r (Name a) (Ok code) own = (own, refl)
character_of_own r (Apply f ts) (Ok code) own = (own, refl)
character_of_own r End (Ok code) own = (own, refl)
character_of_own r (More t ts) (Ok code) own = (own, refl)
character_of_own r c (Err error) own = tt

checked_own : (r : Subst) (found : Result ℕ Tree) (c n : Tree) → IsValue r c → IsOwnAnswer r (table.checked_code found c n)
checked_own r (Err error) c n own = tt
checked_own r (Ok code) c n own = character_of_own r c (element_code Codes n char_code_key) own

bound_own : (r : Subst) (c n : Tree) → IsValue r c → IsOwnAnswer r (table.checked_code (element_code Characters c char_code_key) c n)
bound_own r c n own = checked_own r (element_code Characters c char_code_key) c n own

-- the code of a character that is bound
known_own : (r : Subst) (c n : Tree) → IsValue r n → IsOwnAnswer r (table.code_of (element_code Characters c char_code_key) n)
known_own r c n own = code_of_own r (element_code Characters c char_code_key) n own

char_code_own : (r : Subst) (c n : Tree) → IsValue r c → IsValue r n → IsOwnAnswer r (table.char_code_answer c n)
char_code_own r (Variable v) n own other = character_of_own r (Variable v) (element_code Codes n char_code_key) own
char_code_own r c (Variable n) own other = known_own r c (Variable n) other
char_code_own r c n own other = bound_own r c n own

number_own : (r : Subst) (t : Tree) (k : Key) (found : Option ℤ) → IsValue r t → IsOwnAnswer r (table.equate_number t k found)
number_own r t k (Some z) own = (own, refl)
number_own r t k None own = tt

of_text_own : (r : Subst) (t : Tree) (k : Key) (found : Result (List ℕ) Tree) → IsValue r t → IsOwnAnswer r (table.number_of_text t k found)
of_text_own r t k (Ok cs) own = number_own r t k _ own
of_text_own r t k (Err error) own = tt

number_text_own : (r : Subst) (form : Form) (t l : Tree) (k : Key) → IsValue r l → IsOwnAnswer r (table.number_text form t l k)
number_text_own r form (Integer z) l k own = list_own r form l (signed_decimal z) own
number_text_own r form (Variable n) l k own = tt
number_text_own r form (Name a) l k own = tt
number_text_own r form (Apply f ts) l k own = tt
number_text_own r form End l k own = tt
number_text_own r form (More t ts) l k own = tt

by_list_own : (r : Subst) (form : Form) (t l : Tree) (k : Key) → IsValue r t → IsValue r l → IsOwnAnswer r (table.number_by_list form t l k)
by_list_own r form t l k own other =
    elim (is_list l && not (list_any is_variable (elements l))) as (λ x. IsOwnAnswer r (if x then table.number_of_text t k (elements_codes form (elements l) k) else table.number_text form t l k)) [
      | true ↦ of_text_own r t k (elements_codes form (elements l) k) own
      | false ↦ number_text_own r form t l k other
    ]

number_list_own : (r : Subst) (form : Form) (t l : Tree) (k : Key) → IsValue r t → IsValue r l → IsOwnAnswer r (table.number_list_answer form t l k)
number_list_own r form (Variable n) l k own other = partial_own r l k (table.number_by_list form (Variable n) l k) (by_list_own r form (Variable n) l k own other)
number_list_own r form (Integer z) l k own other = partial_own r l k (table.number_by_list form (Integer z) l k) (by_list_own r form (Integer z) l k own other)
number_list_own r form (Name a) l k own other = tt
number_list_own r form (Apply f ts) l k own other = tt
number_list_own r form End l k own other = tt
number_list_own r form (More t ts) l k own other = tt

pub texts_own : (r : Subst) (row : Text) (t : Tree) → IsValue r t → IsOwnAnswer r (text_answer row t)
texts_own r text.AtomLength t own = length_own r (argument 0 t) (argument 1 t) (argument_value r 1 t own)
texts_own r text.AtomChars t own = atom_list_own r Characters (argument 0 t) (argument 1 t) (key (codes "atom_chars") 2) (argument_value r 0 t own) (argument_value r 1 t own)
texts_own r text.AtomCodes t own = atom_list_own r Codes (argument 0 t) (argument 1 t) (key (codes "atom_codes") 2) (argument_value r 0 t own) (argument_value r 1 t own)
texts_own r text.CharCode t own = char_code_own r (argument 0 t) (argument 1 t) (argument_value r 0 t own) (argument_value r 1 t own)
texts_own r text.NumberChars t own = number_list_own r Characters (argument 0 t) (argument 1 t) (key (codes "number_chars") 2) (argument_value r 0 t own) (argument_value r 1 t own)
texts_own r text.NumberCodes t own = number_list_own r Codes (argument 0 t) (argument 1 t) (key (codes "number_codes") 2) (argument_value r 0 t own) (argument_value r 1 t own)
