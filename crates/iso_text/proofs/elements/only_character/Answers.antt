use Rattle.std.proofs.Common.{sym, ◌∙◌}
use Rattle.iso_text.proofs.CharacterLemmas.{one_character, two_characters}
use Rattle.iso_text.proofs.elements.only_character.Goals as goal

pub returns-in-None : goal.returns-in-None
returns-in-None c =
    one_character c.args.text.now _ c.in_ok-first.first c.utf8.text (sym c.chars-characters.ensures.rest ∙ c.in_ok-first.ensures.steps.0) c.in-None.ensures.steps.0.0

pub returns-in-Some : goal.returns-in-Some
returns-in-Some c =
    two_characters c.args.text.now _ _ c.in_ok-first.first c.in-Some.field-0 c.utf8.text (sym c.chars-characters.ensures.rest ∙ c.in_ok-first.ensures.steps.0) c.in-Some.ensures.steps.0
