use Rattle.std.proofs.Common.{◌∙◌, refl, sym, subst, chars}
use Rattle.std.proofs.lemmas.Str.{scalars-chars}
use Rattle.iso_text.specs.Bounds.{text_of, suits_here, length_suits, ArePartsAt}
use Rattle.iso_text.proofs.SuitLemmas.{pass_same, suits_by_length, none_suits}
use Rattle.iso_text.proofs.sub_atoms.parts_at.Goals as goal

pub returns-in_err-lengths : goal.returns-in_err-lengths
returns-in_err-lengths c =
    let after = chars c.args.text.now in
    subst (ArePartsAt c.args.asked (text_of c.args.part) after c.args.place) (sym c.from_residual.ensures)
    (λ n within. none_suits c.args.asked (text_of c.args.part) c.args.place.before c.args.place.rest n after c.requires.counted c.requires.rest (scalars-chars c.args.text.now c.utf8.text) within
    (λ h. sym h.2 ∙ c.in_err-lengths.ensures n within))

pub returns-then-not-may_begin : goal.returns-then-not-may_begin
returns-then-not-may_begin c = λ n within.
    (let after = chars c.args.text.now in
    none_suits c.args.asked (text_of c.args.part) c.args.place.before c.args.place.rest n after c.requires.counted c.requires.rest (scalars-chars c.args.text.now c.utf8.text) within
    (λ h. sym h.0 ∙ sym c.may_begin.ensures ∙ c.if-not-may_begin.true))

pub returns : goal.returns
returns c =
    let after = chars c.args.text.now in
    let asked = c.args.asked in
    let place = c.args.place in
    let text = text_of c.args.part in
    let lengths = c.in_ok-lengths.lengths in (
      lengths.least,
      refl,
      pass_same (suits_here asked text place.before after) (length_suits asked place.rest) place.rest lengths.least lengths.more
          (λ n within. suits_by_length asked text place.before place.rest n after c.requires.counted c.requires.rest (scalars-chars c.args.text.now c.utf8.text) within (sym c.allows.ensures ∙ c.if-not-allows.false) (sym c.may_begin.ensures ∙ c.if-not-may_begin.false))
          c.in_ok-lengths.ensures,
    )
