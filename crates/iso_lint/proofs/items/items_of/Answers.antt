use Rattle.std.proofs.Common.{◌∷◌, [], ◌++◌, ◌∙◌, ap, map, length}
use Rattle.std.proofs.lemmas.List.{map-append}
use Rattle.iso_model.specs.Syntax.Tokens.{tokens}
use Rattle.iso_lint.specs.Findings.{item}
use Rattle.iso_lint.specs.ItemViews.{item_of}
use Rattle.iso_lint.specs.Parts.{parts, behind_read}
use Rattle.iso_lint.proofs.ItemLemmas.{later, at_last}
use Rattle.iso_lint.proofs.items.items_of.Goals as goal

pub loop-items-preserved : goal.loop-items-preserved
loop-items-preserved c =
    let size = length c.args.text.now in
    let part = c.in-Some.part in
    let s = c.loop-items.settings in
    let cut = rw c.in-Some.is at c.in_ok-part.ensures.cut in
    let shorter = rw c.in-Some.is at c.in_ok-part.ensures.shorter in
    let h = c.in_ok-item.ensures in
    let old = map item_of c.loop-items.items.items in
    let made = ap (map item_of) c.in_ok-push.ensures.items ∙ map-append item_of c.loop-items.items.items (c.in_ok-item.item ∷ []) ∙ ap (λ x. old ++ x ∷ []) h in
    let set = c.in_ok-set_by.ensures ∙ ap (λ x. behind_read x.term s) h in
    later size (map (item size) (parts (tokens c.args.text.now))) _ _ _ _ s c.set_by.new.settings part cut shorter made set c.loop-items.invariant

pub returns : goal.returns
returns c =
    let size = length c.args.text.now in
    let none = rw c.in_default.is at c.in_ok-part.ensures.cut in
    at_last size _ _ _ _ none c.loop-items.invariant
