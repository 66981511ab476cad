-- Rows of parts of atoms are unified with those arguments that are not the atom itself.
use Rattle.std.proofs.Common.{◌≡◌, ℕ, List, [], ◌∷◌, take, drop, chars, pos, Bool, true, false, Some, sym, ap, subst, ◌∙◌}
use Rattle.std.specs.Str.{encode_utf8_all, bytes_eq}
use Rattle.std.specs.List.{slice_get}
use Rattle.std.proofs.lemmas.Slice.Eq.{bytes_eq-Decides}
use Rattle.iso_atoms.specs.Texts.{text_at}
use Rattle.iso_store_core.proofs.AtomLemmas.{text-is}
use Rattle.iso_model.specs.Terms.Trees.{Tree, Integer, Name, More, row}
use Rattle.iso_model.specs.Terms.Arguments.{arity, argument}
use Rattle.iso_model.specs.Terms.Substitutions.{Subst, apply}
use Rattle.iso_model.specs.Terms.Unifiers.{NeverEqual}
use Rattle.iso_store_core.specs.Presents.{Present, IsUnification}
use Rattle.iso_lib.specs.Settlements.{arguments_from}
use Rattle.iso_text.specs.Parts.{part_row, text_of}
use Rattle.iso_text.specs.declared.parts.SubAtom.{SubAtom}
use Rattle.iso_text.specs.declared.parts.Part.TheVariants as part
use Rattle.iso_search_core.specs.Offers.{goal_arguments}

-- terms that are made equal by the same substitutions
unified_as : {W : Type 0} (p q : Present W) (a b c d : Tree) (answer : Bool) → ((s : Subst) → apply s a ≡ apply s b → apply s c ≡ apply s d) → ((s : Subst) → apply s c ≡ apply s d → apply s a ≡ apply s b)
    → IsUnification p q a b answer → IsUnification p q c d answer
unified_as p q a b c d true to from h = (h.0, record { equal = to h.0 (h.1).equal; most_general = λ s e. (h.1).most_general s (from s e); least = (h.1).least }, h.2)
unified_as p q a b c d false to from h = λ s e. h s (from s e)

module _ {W : Type 0} (p q : Present W) (t : Tree) (answer : Bool) where
  abbrev at : ℕ → Tree
  at i = argument i t

  pub sub_row : (s : SubAtom) (text : List ℕ) → arity t ≡ 5 → text ≡ encode_utf8_all (take s.length (chars (drop s.start (text_of (argument 0 t)))))
      → IsUnification p q (row (at 1 ∷ at 2 ∷ at 3 ∷ at 4 ∷ [])) (row (Integer (pos s.before) ∷ Integer (pos s.length) ∷ Integer (pos s.behind) ∷ Name text ∷ [])) answer
      → IsUnification p q (goal_arguments t) (part_row t (part.Sub s)) answer
  sub_row s text five is h =
      let right = row (at 0 ∷ Integer (pos s.before) ∷ Integer (pos s.length) ∷ Integer (pos s.behind) ∷ Name text ∷ []) in
      let all : IsUnification p q (row (arguments_from 0 5 t)) right answer =
      unified_as p q (row (at 1 ∷ at 2 ∷ at 3 ∷ at 4 ∷ [])) (row (Integer (pos s.before) ∷ Integer (pos s.length) ∷ Integer (pos s.behind) ∷ Name text ∷ [])) (row (arguments_from 0 5 t)) right answer
      (λ r e. ap (More (apply r (at 0))) e)
      (λ r e. cc) h in
      subst (λ (n : ℕ). IsUnification p q (row (arguments_from 0 n t)) (part_row t (part.Sub s)) answer) (sym five)
      (subst (λ (w : List ℕ). IsUnification p q (row (arguments_from 0 5 t)) (row (at 0 ∷ Integer (pos s.before) ∷ Integer (pos s.length) ∷ Integer (pos s.behind) ∷ Name w ∷ [])) answer) is all)

-- an atom of another text
pub other_atom : (names : List (List ℕ)) (a : ℕ) (t : Tree) (named text : List ℕ) (answer : Bool) → t ≡ Name (text_at names a) → slice_get names a ≡ Some named → answer ≡ bytes_eq named text → answer ≡ false → NeverEqual t (Name text)
other_atom names a t named text answer is there eq off s e =
    let here : text_at names a ≡ named = text-is names a named there in
    let both : Name (text_at names a) ≡ Name text = ap (apply s) (sym is) ∙ e in
    let same : named ≡ text = sym here ∙ cc in
    let on : bytes_eq named text ≡ true = (bytes_eq-Decides named text).1 same in
    let no : false ≡ true = sym off ∙ (eq ∙ on) in
    cc no
