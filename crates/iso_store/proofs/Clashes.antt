-- Terms that nothing makes equal.
use Rattle.std.proofs.Common.{◌≡◌, ◌≢◌, ℕ, ◌<◌, List, [], length, true, ap, ap₂, sym, ◌∙◌, refl, Some, inl, inr}
use Rattle.std.proofs.lemmas.Bool.{cases_eq}
use Rattle.std.proofs.lemmas.Option.{slice_get-get_or}
use Rattle.iso_atoms.specs.Texts.{text_at, EachOnce}
use Rattle.iso_model.specs.Terms.Trees.{Tree, Integer, Name, Apply, count}
use Rattle.iso_model.specs.Terms.Sorts.{is_term}
use Rattle.iso_model.specs.Terms.Substitutions.{apply}
use Rattle.iso_model.specs.Terms.Unifiers.{NeverEqual}
use Rattle.iso_model.proofs.OnTerms.SortLemmas.{count-apply}
use Rattle.iso_store_core.specs.declared.shapes.Shape.{Shape}
use Rattle.iso_store_core.specs.declared.shapes.Shape.TheVariants.{Var, Int, Atom, Compound}
use Rattle.iso_store_core.specs.Shapes.{IsShape}
use Rattle.iso_store_core.specs.Arguments.{arity}
use Rattle.iso_store.proofs.ArgumentLemmas.{row_of_term}

-- compounds with different numbers of arguments
pub never-arity : (a b : Tree) (f g : List ℕ) (ts us : Tree) → a ≡ Apply f ts → b ≡ Apply g us → is_term a ≡ true → is_term b ≡ true → count ts ≢ count us → NeverEqual a b
never-arity a b f g ts us left right first second differ t e =
    let row = row_of_term f ts (ap is_term (sym left) ∙ first) in
    let other = row_of_term g us (ap is_term (sym right) ∙ second) in
    let same : Apply f (apply t ts) ≡ Apply g (apply t us) = ap (apply t) (sym left) ∙ e ∙ ap (apply t) right in
    differ (sym (count-apply t ts row.2) ∙ ap arity same ∙ count-apply t us other.2)

-- atoms of one name are one atom
pub one-atom : (names : List (List ℕ)) (f g : ℕ) → EachOnce names → f < length names → g < length names → text_at names f ≡ text_at names g → f ≡ g
one-atom names f g once here there same =
    once.one_place f g (text_at names f) (slice_get-get_or names f [] here) (slice_get-get_or names g [] there ∙ ap Some (sym same))

-- a compound, and what has another shape and is no variable
pub never-compound : (names : List (List ℕ)) (f n : ℕ) (other : Shape) (a b : Tree) → EachOnce names → IsShape names (Compound f n) a → IsShape names other b → is_term a ≡ true → is_term b ≡ true → ((x : ℕ) → other ≢ Var x) → Compound f n ≢ other → NeverEqual a b
never-compound names f n (Var x) a b once first second left right bound differ t e = absurd (bound x refl)
never-compound names f n (Int z) a b once first second left right bound differ t e =
    let both : Apply (text_at names f) (apply t first.1) ≡ Integer z = ap (apply t) (sym first.2) ∙ e ∙ ap (apply t) second in
    absurd (cc)
never-compound names f n (Atom g) a b once first second left right bound differ t e =
    let both : Apply (text_at names f) (apply t first.1) ≡ Name (text_at names g) = ap (apply t) (sym first.2) ∙ e ∙ ap (apply t) second.1 in
    absurd (cc)
never-compound names f n (Compound g m) a b once first second left right bound differ t e =
    elim (cases_eq n m) [
      | inl same ↦
          let both : Apply (text_at names f) (apply t first.1) ≡ Apply (text_at names g) (apply t second.1) = ap (apply t) (sym first.2) ∙ e ∙ ap (apply t) second.2 in
          let name : text_at names f ≡ text_at names g = cc in
          absurd (differ (ap₂ Compound (one-atom names f g once first.0 second.0 name) same))
      | inr more ↦ never-arity a b _ _ _ _ first.2 second.2 left right (λ q. more (sym first.3 ∙ q ∙ second.3)) t e
    ]
