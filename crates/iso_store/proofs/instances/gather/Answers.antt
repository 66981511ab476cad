use Rattle.std.proofs.Common.{◌≡◌, ◌-◌, ◌++◌, ◌∷◌, [], length, drop, take, ap, ◌∙◌}
use Rattle.std.proofs.lemmas.List.{take_rest}
use Rattle.iso_atoms.specs.Texts.{text_at}
use Rattle.iso_store.proofs.InstanceLemmas.{made-compound}
use Rattle.iso_store.proofs.instances.gather.Goals as goal

pub returns-clause-gathers : goal.returns-clause-gathers
returns-clause-gathers g c =
    let ws = c.args.words.now.items in
    let first : c.saturating_sub-first.result ≡ length ws - c.args.count = c.saturating_sub-first.ensures ∙ ap (λ k. k - c.args.count) (c.len.ensures ∙ c.args.words.now.ok.0) in
    let items = c.deref.ensures.value in
    let from = c.saturating_sub-first.result in
    let last = ap (λ vs. take (length vs - from) (drop from vs)) items ∙ take_rest ws from ∙ ap (λ k. drop k ws) first in
    let more = c.in_ok-push.ensures.items ∙ ap (λ vs. vs ++ c.in_ok-word.word ∷ []) (c.truncate.ensures.items ∙ ap (λ k. take k ws) first) in
    made-compound ws c.push.new.self.items c.in_ok-word.word c.requires.words _ (text_at (g.S.Primitives.names c.args.store.now) c.args.name) c.args.count last c.in_ok-word.ensures.made more
