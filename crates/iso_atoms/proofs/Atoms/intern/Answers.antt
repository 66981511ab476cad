-- A known text is found; a new one is stored behind the others.
use Rattle.std.proofs.Common.{◌≡◌, true, false, sym, ap, ◌∙◌, subst, true≢false, map, ◌++◌, ◌∷◌, []}
use Rattle.std.specs.String.{string_bytes}
use Rattle.iso_atoms.specs.Texts.{has_text, EachOnce, KeepsTexts}
use Rattle.iso_atoms.proofs.TextLemmas.{has_text-stored, found_stands, EachOnce-more, inserted, stored_stands, numbered-new, numbered-known, keeps_before}
use Rattle.iso_atoms.proofs.Atoms.intern.Goals as goal

pub returns-in-Some-clause-numbers : goal.returns-in-Some-clause-numbers
returns-in-Some-clause-numbers c =
    sym (numbered-known _ _ (has_text-stored c.self.inside.names.keys _ c.args.text.now true c.self.view_is c.in-Some.ensures.found))

pub returns-in-Some-clause-place : goal.returns-in-Some-clause-place
returns-in-Some-clause-place c = rw (← c.self.view_is) (found_stands c.self.inside.names.keys c.args.text.now c.in-Some.place (sym c.in-Some.ensures.index))

pub returns-in_err-name-clause-known : goal.returns-in_err-name-clause-known
returns-in_err-name-clause-known c = λ known.
    let fresh = has_text-stored c.self.inside.names.keys _ c.args.text.now false c.self.view_is c.in_default.ensures.found in
    absurd (true≢false (sym known ∙ fresh))

pub returns-in_err-place-clause-known : goal.returns-in_err-place-clause-known
returns-in_err-place-clause-known c = λ known.
    let fresh = has_text-stored c.self.inside.names.keys _ c.args.text.now false c.self.view_is c.in_default.ensures.found in
    absurd (true≢false (sym known ∙ fresh))

-- the texts after the insert
more : (c : goal.In_ok-place) → map string_bytes c.insert_full.new.self.keys ≡ map string_bytes c.self.inside.names.keys ++ c.args.text.now ∷ []
more c = inserted c.self.inside.names.keys c.insert_full.new.self.keys c.in_ok-name.name c.args.text.now c.in_ok-name.ensures.ok (sym c.in_default.ensures.found) c.in_ok-place.ensures.keys

pub invariant_of-self-2 : goal.invariant_of-self-2
invariant_of-self-2 c =
    let fresh = has_text-stored c.self.inside.names.keys _ c.args.text.now false c.self.view_is c.in_default.ensures.found in
    subst EachOnce (sym (more c)) (EachOnce-more _ _ c.self.invariant (ap (λ texts. has_text texts c.args.text.now) c.self.view_is ∙ fresh))

pub returns-clause-each_once : goal.returns-clause-each_once
returns-clause-each_once c = invariant_of-self-2 c

pub returns-clause-numbers : goal.returns-clause-numbers
returns-clause-numbers c =
    let fresh = has_text-stored c.self.inside.names.keys _ c.args.text.now false c.self.view_is c.in_default.ensures.found in
    more c ∙ ap (λ texts. texts ++ c.args.text.now ∷ []) c.self.view_is ∙ sym (numbered-new _ _ fresh)

pub returns-clause-kept : goal.returns-clause-kept
returns-clause-kept c =
    subst (KeepsTexts c.args.self.now) (sym (more c ∙ ap (λ texts. texts ++ c.args.text.now ∷ []) c.self.view_is)) (keeps_before c.args.self.now c.args.text.now)

pub returns-clause-place : goal.returns-clause-place
returns-clause-place c = stored_stands c.insert_full.new.self.keys c.in_ok-place.place c.in_ok-name.name c.args.text.now c.in_ok-name.ensures.ok c.in_ok-place.ensures.stored
