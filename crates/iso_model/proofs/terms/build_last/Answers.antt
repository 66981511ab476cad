use Rattle.std.proofs.Common.{◌≡◌, ap, ◌∙◌, ◌-◌, length, take, drop}
use Rattle.iso_model.proofs.OnTerms.CopyingLemmas.{map-built}
use Rattle.iso_model.proofs.terms.build_last.Goals as goal

pub returns : goal.returns
returns c =
    let xs = c.args.copies.now.items in
    let at : c.saturating_sub.result ≡ length xs - c.args.count = c.saturating_sub.ensures ∙ ap (λ k. k - c.args.count) (c.len.ensures ∙ c.args.copies.now.ok.0) in
    map-built xs _ _ c.in_ok-name.name _ c.args.count c.in_ok-arguments.arguments (c.in_ok-arguments.ensures.items ∙ ap (λ k. take k xs) at) (c.in_ok-arguments.ensures.tail ∙ ap (λ k. drop k xs) at)
    c.in_ok-name.ensures.ok c.in_ok-push.ensures.items
