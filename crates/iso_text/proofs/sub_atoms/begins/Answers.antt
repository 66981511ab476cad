use Rattle.std.proofs.lemmas.Str.Pattern.{starts_text}
use Rattle.iso_text.proofs.BeginLemmas.{begins_same}
use Rattle.iso_text.proofs.sub_atoms.begins.Goals as goal

pub returns : goal.returns
returns c =
    let r = c.starts_with.result in
    let a = c.args.part.now in
    let text = c.args.text.now in
    begins_same r a text c.utf8.part c.utf8.text (starts_text r a text c.starts_with.ensures.cases)
