-- The names that lists of names give, a name further.
use Rattle.std.proofs.Common.{◌≡◌, ◌≤◌, ◌⊎◌, ℕ, Bool, true, false, if◌then◌else◌, List, [], ◌∷◌, ◌++◌, length, Option, Some, None, option_map, ap, ◌∙◌, refl, sym, arith, append_assoc, inl, inr}
use Rattle.iso_model.specs.Terms.Trees.{Tree, Name, Apply, row}
use Rattle.iso_model.specs.Terms.Lists.{dot, elements, is_list}
use Rattle.iso_model.specs.Search.Bodies.{two}
use Rattle.iso_lint_core.specs.Names.{names_listed, texts_of}
use Rattle.iso_lint_core.specs.Shapes.{IsOther}

in_both : {A B : Type 0} (b : Bool) (f : A → B) (x : Option A) → (if b then option_map f x else None) ≡ option_map f (if b then x else None)
in_both true f x = refl
in_both false f x = refl

listed_pair : (a : List ℕ) (t : Tree) → names_listed (two dot (Name a) t) ≡ option_map (λ xs. a ∷ xs) (names_listed t)
listed_pair a t = in_both (is_list t) (λ xs. a ∷ xs) (texts_of (elements t))

joined : (found : List (List ℕ)) (a : List ℕ) (x : Option (List (List ℕ))) → option_map (λ xs. (found ++ a ∷ []) ++ xs) x ≡ option_map (λ xs. found ++ xs) (option_map (λ xs. a ∷ xs) x)
joined found a None = refl
joined found a (Some xs) = ap Some (append_assoc found (a ∷ []) xs)

pub listed_later : (found more : List (List ℕ)) (a : List ℕ) (t rest : Tree) (all : Option (List (List ℕ))) → rest ≡ two dot (Name a) t → more ≡ found ++ a ∷ []
    → option_map (λ xs. found ++ xs) (names_listed rest) ≡ all → option_map (λ xs. more ++ xs) (names_listed t) ≡ all
listed_later found more a t rest all shape is had =
    ap (λ ys. option_map (λ xs. ys ++ xs) (names_listed t)) is ∙ joined found a (names_listed t) ∙ ap (option_map (λ xs. found ++ xs)) (sym (listed_pair a t)) ∙ ap (λ r. option_map (λ xs. found ++ xs) (names_listed r)) (sym shape) ∙ had

other_row : (f : List ℕ) (ts : List Tree) (n : ℕ) → length ts ≡ n → (n ≡ 0) ⊎ (4 ≤ n) → names_listed (Apply f (row ts)) ≡ None
other_row f [] n count other = refl
other_row f (a ∷ []) n count other = refl
other_row f (a ∷ b ∷ []) n count (inl none) = absurd (omega arith)
other_row f (a ∷ b ∷ []) n count (inr many) = absurd (omega arith)
other_row f (a ∷ b ∷ c ∷ ts) n count other = refl

-- a compound of another number of arguments is no list
pub no_names : (f : List ℕ) (n : ℕ) (t : Tree) → IsOther f n t → names_listed t ≡ None
no_names f n t o = ap names_listed o.is ∙ other_row f o.arguments n o.count o.other
