-- What a term is converted to, by the control construct that it is.
use Rattle.std.proofs.Common.{◌≡◌, ℕ, List, Bool, true, false, refl, ap, inl, inr, Option, Some, None, codes}
use Rattle.std.specs.Str.{bytes_eq}
use Rattle.std.proofs.lemmas.Bool.{cases_Bool, true≢false}
use Rattle.iso_model.specs.Terms.Trees.{Tree, Name, Apply, End, More}
use Rattle.iso_model.specs.Search.Bodies as bodies
use Rattle.iso_model.specs.Search.Bodies.{Body, Run, two, both, either, converted, converted_two}
use Rattle.iso_prep.specs.declared.connectives.Connective.{Connective}
use Rattle.iso_prep.specs.declared.connectives.Connective.TheVariants as connective
use Rattle.iso_prep.specs.Connectives.{text_of, connective_of, control_of}
use Rattle.iso_prep.specs.Readings.{is_if, NoChoice}
use Rattle.iso_prep.proofs.ReadingLemmas.{is_choice, either_plain, either_no_choice}
use Rattle.iso_plain_core.specs.Conversions.{joined}

-- ---- what is no if-then

choice_of : Option Body → Bool
choice_of None = false
choice_of (Some b) = is_choice b

conjunction_no_choice : (x y : Option Body) → choice_of (both bodies.And x y) ≡ false
unfolding choice_of is_choice
conjunction_no_choice None y = refl
conjunction_no_choice (Some a) None = refl
conjunction_no_choice (Some a) (Some b) = refl

either_of_no_choice : (x y : Option Body) → choice_of (both either x y) ≡ false
unfolding choice_of
either_of_no_choice (Some a) (Some b) = either_no_choice a b
either_of_no_choice x y = refl

goal_no_choice : (t : Tree) → choice_of (Some (Run t)) ≡ false
unfolding choice_of is_choice
goal_no_choice t = refl

two_no_choice : (f : List ℕ) (x y : Option Body) (t : Tree) → is_if (connective_of f) ≡ false → choice_of (converted_two f x y t) ≡ false
two_no_choice f x y t h =
    elim (cases_Bool (bytes_eq f (codes ","))) [
      | inl comma ↦ rw comma (conjunction_no_choice x y)
      | inr no_comma ↦ elim (cases_Bool (bytes_eq f (codes ";"))) [
        | inl bar ↦ rw (no_comma, bar) (either_of_no_choice x y)
        | inr no_bar ↦ elim (cases_Bool (bytes_eq f (codes "->"))) [
          | inl arrow ↦ (let is : true ≡ false = rw (no_comma, no_bar, arrow) at h in absurd (true≢false is))
          | inr other ↦ rw (no_comma, no_bar, other) (goal_no_choice t)
        ]
      ]
    ]

name_no_choice : (a : List ℕ) → choice_of (converted (Name a)) ≡ false
unfolding choice_of is_choice
name_no_choice a = elim (cases_Bool (bytes_eq a (codes "!"))) [ inl mark ↦ rw mark refl | inr other ↦ rw other refl ]

no_choice : (t : Tree) → is_if (control_of t) ≡ false → choice_of (converted t) ≡ false
unfolding choice_of is_choice
no_choice (Name a) h = name_no_choice a
no_choice (Apply f (More a (More b End))) h = two_no_choice f (converted a) (converted b) (two f a b) h
no_choice t h = refl

-- ---- control constructs

disjunction : (x y : Option Body) → choice_of x ≡ false → both either x y ≡ both bodies.Or x y
unfolding choice_of
disjunction (Some a) (Some b) h = ap Some (either_plain a b h)
disjunction x y h = refl

pub converted_joined : (k : Connective) (a b : Tree) → NoChoice k a → converted (two (text_of k) a b) ≡ joined k (converted a) (converted b)
converted_joined connective.Or a b h = disjunction (converted a) (converted b) (no_choice a h)
converted_joined k a b h = refl
