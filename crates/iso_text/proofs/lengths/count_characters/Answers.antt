use Rattle.std.proofs.Common.{chars, length, sym, ap, ◌∙◌}
use Rattle.std.proofs.lemmas.Str.{encodes-chars, Chars-Drains}
use Rattle.iso_text.proofs.lengths.count_characters.Goals as goal

pub returns-clause-count : goal.returns-clause-count
returns-clause-count c =
    let text = c.args.text.now in
    let ran = c.count.ensures.ran in
    ran.2 ∙ ap length (Chars-Drains (chars text) ran.0 c.chars.result (encodes-chars text c.utf8.text ∙ sym c.chars.ensures.rest) ran.1)
