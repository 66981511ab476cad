-- Terms that can't be made equal, by their names and the number of their arguments.
use Rattle.std.proofs.Common.{◌≡◌, ◌≢◌, ℕ, ◌+◌, List, [], ◌∷◌, length, map, Bool, true, false, Some, sym, ap, ◌∙◌, refl, arith}
use Rattle.std.specs.Str.{bytes_eq}
use Rattle.std.specs.List.{slice_get}
use Rattle.std.proofs.lemmas.Slice.Eq.{bytes_eq-Decides}
use Rattle.iso_atoms.specs.Texts.{text_at}
use Rattle.iso_model.specs.Terms.Trees.{Tree, Name, Apply, row, count}
use Rattle.iso_model.specs.Terms.Sorts.{is_term}
use Rattle.iso_model.specs.Terms.Substitutions.{Subst, apply}
use Rattle.iso_model.specs.Terms.Unifiers.{NeverEqual}
use Rattle.iso_model.proofs.OnTerms.SortLemmas.{count-apply, row_of_arguments}
use Rattle.iso_store_core.proofs.AtomLemmas.{text-is}

module _ (names : List (List ℕ)) (a : ℕ) (t u : Tree) (named text : List ℕ) (answer : Bool) (there : slice_get names a ≡ Some named) (eq : answer ≡ bytes_eq named text) (off : answer ≡ false) where
  apart : named ≡ text → ⊥
  apart same =
      let on : bytes_eq named text ≡ true = (bytes_eq-Decides named text).1 same in
      let no : false ≡ true = sym off ∙ (eq ∙ on) in
      cc no

  -- an atom of another text
  pub other_atom : t ≡ Name (text_at names a) → u ≡ Name text → (r s : Subst) → NeverEqual t (apply s (apply r u))
  other_atom is is_u r s x e =
      let here : text_at names a ≡ named = text-is names a named there in
      let both : Name (text_at names a) ≡ Name text = ap (apply x) (sym is) ∙ e ∙ ap (λ v. apply x (apply s (apply r v))) is_u in
      apart (sym here ∙ cc)

  -- a compound of another name
  pub other_name : (ts us : Tree) → t ≡ Apply (text_at names a) ts → u ≡ Apply text us → (r s : Subst) → NeverEqual t (apply s (apply r u))
  other_name ts us is is_u r s x e =
      let here : text_at names a ≡ named = text-is names a named there in
      let both : Apply (text_at names a) (apply x ts) ≡ Apply text (apply x (apply s (apply r us))) = ap (apply x) (sym is) ∙ e ∙ ap (λ v. apply x (apply s (apply r v))) is_u in
      apart (sym here ∙ cc)

-- a substituted list of arguments has as many
arguments_counted : (x s r : Subst) (us : List Tree) → count (apply x (apply s (apply r (row us)))) ≡ length us
arguments_counted x s r [] = refl
arguments_counted x s r (u ∷ us) = let before = arguments_counted x s r us in omega (arith, before)

-- a compound of another number of arguments
pub other_count : (t u : Tree) (name text : List ℕ) (ts : Tree) (us : List Tree) → is_term t ≡ true → t ≡ Apply name ts → u ≡ Apply text (row us) → count ts ≢ length us → (r s : Subst) → NeverEqual t (apply s (apply r u))
other_count t u name text ts us term is is_u apart r s x e =
    let both : Apply name (apply x ts) ≡ Apply text (apply x (apply s (apply r (row us)))) = ap (apply x) (sym is) ∙ e ∙ ap (λ v. apply x (apply s (apply r v))) is_u in
    let same : apply x ts ≡ apply x (apply s (apply r (row us))) = cc in
    apart (sym (count-apply x ts (row_of_arguments name ts (rw is at term))) ∙ ap count same ∙ arguments_counted x s r us)
