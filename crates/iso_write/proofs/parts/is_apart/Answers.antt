use Rattle.std.proofs.Common.{rules, ◌≡◌, ◌==◌, ◌&&◌, ◌||◌, codes, sym, ◌∙◌}
use Rattle.std.specs.Str.{bytes_eq}
use Rattle.iso_model.specs.Syntax.Characters.{is_digit}
use Rattle.iso_model.specs.Terms.TermOf.{term_of}
use Rattle.iso_write.specs.Styles.{style_of}
use Rattle.iso_write.specs.Forms.{operator_of, written}
use Rattle.iso_write.proofs.LeadLemmas.{apart_by}
use Rattle.iso_write.proofs.parts.is_apart.Goals as goal

pub returns-then-eq : goal.returns-then-eq
returns-then-eq c = λ seen.
    let o = operator_of c.args.operator in
    let first = c.unwrap_or-first.result in
    let by : c.is_ascii_digit.result ≡ (first == 40 || (bytes_eq o.name (codes "-") && is_digit first)) = search rules in
    by ∙ apart_by o (written (style_of c.args.style) c.args.ops.now seen (term_of c.args.term.now)) c.leading_byte.result first
    (sym c.is_symbolic.ensures ∙ c.if-not-is_symbolic.false) (c.leading_byte.ensures seen) c.unwrap_or-first.ensures

pub returns-else-eq : goal.returns-else-eq
returns-else-eq c = λ seen.
    let o = operator_of c.args.operator in
    let first = c.unwrap_or-first.result in
    let by : c.eq.result ≡ (first == 40 || (bytes_eq o.name (codes "-") && is_digit first)) = search rules in
    by ∙ apart_by o (written (style_of c.args.style) c.args.ops.now seen (term_of c.args.term.now)) c.leading_byte.result first
    (sym c.is_symbolic.ensures ∙ c.if-not-is_symbolic.false) (c.leading_byte.ensures seen) c.unwrap_or-first.ensures
