use Rattle.std.proofs.Common.{[], ◌∷◌, ◌++◌, ap, ◌∙◌, append_assoc}
use Rattle.iso_model.specs.Terms.TermOf.{term_of}
use Rattle.iso_model.specs.Session.Lines.{text_in, text_of}
use Rattle.iso_session_core.proofs.composed.finish_with_term.Goals as goal

pub returns : goal.returns
returns c =
    let table = c.args.ops.now in
    let t = term_of c.args.term.now in
    let old = c.args.line.now.items in
    let text = c.in_ok-append_term.ensures.text ∙ ap (λ seen. old ++ text_in table seen t) c.new-seen.ensures in
    c.in_ok-push.ensures.items ∙ ap (λ z. z ++ 10 ∷ []) text ∙ append_assoc old (text_of table t) (10 ∷ [])
