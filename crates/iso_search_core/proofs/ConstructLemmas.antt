-- The control construct that a compound is.
use Rattle.std.proofs.Common.{◌≡◌, ℕ, List, true, sym, ap, ◌∙◌, arith, Some}
use Rattle.iso_model.specs.Terms.Trees.{Tree, Apply, End, More, count}
use Rattle.iso_model.specs.Terms.Sorts.{is_term}
use Rattle.iso_model.specs.Terms.Arguments.{member, argument}
use Rattle.iso_model.specs.Search.Bodies.{two}
use Rattle.iso_store_core.specs.Arguments.{members_from}
use Rattle.iso_prep.specs.declared.connectives.Connective.{Connective}
use Rattle.iso_prep.specs.Connectives.{text_of, connective_of}
use Rattle.iso_prep.proofs.ConnectiveLemmas.{named_by_text}
use Rattle.iso_search_core.proofs.GoalLemmas.{member_next, row_of_goal, row_whole}

-- one of two arguments
pub two_arguments : (f : List ℕ) (ts : Tree) → is_term (Apply f ts) ≡ true → count ts ≡ 2 → Apply f ts ≡ two f (member 0 ts) (member 1 ts)
two_arguments f ts h many =
    let fits = row_of_goal (Apply f ts) h in
    let first : members_from 0 ts ≡ More (member 0 ts) (members_from 1 ts) = member_next 0 ts fits (omega (arith, many)) in
    let second : members_from 1 ts ≡ More (member 1 ts) (members_from 2 ts) = member_next 1 ts fits (omega (arith, many)) in
    let end : members_from 2 ts ≡ End = ap (λ n. members_from n ts) (sym many) ∙ row_whole ts fits in
    ap (Apply f) (first ∙ ap (More (member 0 ts)) (second ∙ ap (More (member 1 ts)) end))

-- the parts of one, as arguments
pub control_parts : (t : Tree) (f : List ℕ) (ts : Tree) (k : Connective) (a b : Tree) → is_term t ≡ true → t ≡ Apply f ts → count ts ≡ 2 → connective_of f ≡ Some k → a ≡ argument 0 t → b ≡ argument 1 t
    → t ≡ two (text_of k) a b
control_parts t f ts k a b fits is many named first second =
    let name : f ≡ text_of k = named_by_text f k named in
    let parts : t ≡ two f (member 0 ts) (member 1 ts) = is ∙ two_arguments f ts (sym (ap is_term is) ∙ fits) many in
    let one : member 0 ts ≡ a = sym (first ∙ ap (argument 0) is) in
    let two_is : member 1 ts ≡ b = sym (second ∙ ap (argument 1) is) in
    parts ∙ (λ i. two (name i) (one i) (two_is i))
