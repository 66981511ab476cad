-- The numbers of the parts without a key, as parts come.
use Rattle.std.proofs.Common.{◌≡◌, ◌≢◌, ◌<◌, ◌++◌, ◌∷◌, [], ℕ, List, length, set, get_or, Option, Some, None, true, false, is_some, refl, sym, ap, ◌∙◌, ⊎_elim, true≢false}
use Rattle.std.specs.List.{slice_get}
use Rattle.std.proofs.lemmas.Option.{same_Some}
use Rattle.std.proofs.lemmas.List.{get_or-set_same, get_or-set_other}
use Rattle.std.proofs.lemmas.Bool.Decides.{eqb_tells}
use Rattle.iso_db.specs.Parts.{IsNumbered}
use Rattle.iso_db.specs.declared.parts.Part.{Part}
use Rattle.iso_clauses.specs.declared.keys.FirstKey.{FirstKey}
use Rattle.iso_db.proofs.ListLemmas.{slice_get-push_last, slice_get-pushed, slice_get-pushed_before, slice_get-pushed_last}

-- the part of a procedure without a key
abbrev pub unkeyed : ℕ → Part
unkeyed place = record { place = place; key = None }

pub no_key : (key : Option FirstKey) → is_some key ≡ false → key ≡ None
no_key None absent = refl
no_key (Some k) absent = absurd (true≢false absent)

pub same_unkeyed : (place : ℕ) (key : Option FirstKey) → key ≡ None → ◌≡◌ {A = Part} (record { place = place; key = key }) (unkeyed place)
same_unkeyed place key none = ap (λ k. let x : Part = record { place = place; key = k } in x) none

-- the same numbers stand, in a longer list
pub IsNumbered-same : (old new : List (Option ℕ)) (parts : List Part) → ((p : ℕ) → get_or new p None ≡ get_or old p None) → IsNumbered old parts → IsNumbered new parts
IsNumbered-same old new parts same numbered = record {
  each = λ place n at. same place ∙ numbered.each place n at;
  no_other = λ place n at. numbered.no_other place n (sym (same place) ∙ at);
}

-- a part with a key came
pub IsNumbered-keyed : (numbers : List (Option ℕ)) (parts : List Part) (part : Part) → is_some part.key ≡ true → IsNumbered numbers parts → IsNumbered numbers (parts ++ part ∷ [])
IsNumbered-keyed numbers parts part keyed numbered = record {
  each = λ place n at. numbered.each place n (slice_get-pushed_before parts part n (unkeyed place) at (λ last. true≢false (sym keyed ∙ ap (λ (p : Part). is_some p.key) (slice_get-pushed_last parts part n (unkeyed place) at last))));
  no_other = λ place n at. slice_get-pushed parts part n (unkeyed place) (numbered.no_other place n at);
}

-- a part without a key came, and its number is noted
pub IsNumbered-unkeyed : (numbers : List (Option ℕ)) (parts : List Part) (place : ℕ) (part : Part) → part ≡ unkeyed place → place < length numbers → ((n : ℕ) → slice_get parts n ≢ Some part) → IsNumbered numbers parts
    → IsNumbered (set numbers place (Some (length parts))) (parts ++ part ∷ [])
IsNumbered-unkeyed numbers parts place part is within absent numbered = record {
  each = λ other n at.
      ⊎_elim
      (λ last. last_one other n at last.1)
      (λ e. before other n (slice_get-pushed_before parts part n (unkeyed other) at e.1))
      (eqb_tells n (length parts));
  no_other = λ other n at.
      ⊎_elim
      (λ here. at_place other n at here.1)
      (λ e. slice_get-pushed parts part n (unkeyed other) (numbered.no_other other n (sym (get_or-set_other numbers place other (Some (length parts)) None e.1) ∙ at)))
      (eqb_tells other place);
}
  where
    more : List (Option ℕ)
    more = set numbers place (Some (length parts))

    here_stands : get_or more place None ≡ Some (length parts)
    here_stands = get_or-set_same numbers place (Some (length parts)) None within

    -- the part that came is that of this place alone
    of_place : (other : ℕ) → other ≡ place → unkeyed other ≡ part
    of_place other here = ap unkeyed here ∙ sym is

    last_one : (other n : ℕ) → slice_get (parts ++ part ∷ []) n ≡ Some (unkeyed other) → n ≡ length parts → get_or more other None ≡ Some n
    last_one other n at last =
        let here : place ≡ other = ap (λ (p : Part). p.place) (sym is ∙ slice_get-pushed_last parts part n (unkeyed other) at last) in
        ap (λ p. get_or more p None) (sym here) ∙ here_stands ∙ ap Some (sym last)

    before : (other n : ℕ) → slice_get parts n ≡ Some (unkeyed other) → get_or more other None ≡ Some n
    before other n at = get_or-set_other numbers place other (Some (length parts)) None (λ here. absent n (at ∙ ap Some (of_place other here))) ∙ numbered.each other n at

    at_place : (other n : ℕ) → get_or more other None ≡ Some n → other ≡ place → slice_get (parts ++ part ∷ []) n ≡ Some (unkeyed other)
    at_place other n at here =
        let last : length parts ≡ n = same_Some (length parts) n (sym here_stands ∙ ap (λ p. get_or more p None) (sym here) ∙ at) in
        ap (slice_get (parts ++ part ∷ [])) (sym last) ∙ slice_get-push_last parts part ∙ ap Some (sym (of_place other here))
