use Rattle.std.proofs.Common.{◌∙◌, ap, map, ◌∷◌, []}
use Rattle.std.proofs.lemmas.List.{map-append}
use Rattle.iso_ops.specs.Entries.{text_of}
use Rattle.iso_lint_core.proofs.NameLemmas.{listed_later}
use Rattle.iso_lint_core.proofs.names.listed_names.Goals as goal

pub loop-name-preserved : goal.loop-name-preserved
loop-name-preserved c =
    let old = c.loop-name.found.items in
    listed_later (map text_of old) (map text_of c.push.new.self.items) _ _ _ _ c.in-Name.ensures (ap (map text_of) c.in_ok-push-in-Name.ensures.items ∙ map-append text_of old (c.in-Name.name ∷ [])) c.loop-name.invariant
