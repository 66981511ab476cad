use Rattle.std.proofs.Common.{◌++◌, [], List, ℕ, ap, ◌∙◌}
use Rattle.iso_model.specs.Syntax.Pieces.{text_at}
use Rattle.iso_model.specs.Terms.Trees.{Tree}
use Rattle.iso_model.specs.Terms.TermOf.{term_of}
use Rattle.iso_model.specs.Terms.Variables.{distinct_from}
use Rattle.iso_write.specs.Styles.{style_of}
use Rattle.iso_text.proofs.outputs.written.Goals as goal

pub returns : goal.returns
returns g c =
    let s = style_of c.args.style in
    let table = c.args.ops.now in
    let t = term_of c.in_ok-term.term in
    c.in_ok-write_to.ensures.text
    ∙ ap (λ (bytes : List ℕ). bytes ++ text_at s table (distinct_from c.new-seen.result t) 1200 t) c.new-text.ensures.items
    ∙ ap (λ (seen : List ℕ). text_at s table (distinct_from seen t) 1200 t) c.new-seen.ensures
    ∙ ap (λ (u : Tree). text_at s table (distinct_from [] u) 1200 u) c.in_ok-term.ensures.value
