use Rattle.std.proofs.Common.{sym, ◌∙◌, refl}
use Rattle.iso_token.specs.Shows.{shown}
use Rattle.iso_lint.proofs.CountLemmas.{counted_more, counted_past}
use Rattle.iso_lint.proofs.once.count.Goals as goal

pub returns-in_ok-insert : goal.returns-in_ok-insert
returns-in_ok-insert c = λ ts counted.
    counted_more c.args.token.now.text (shown c.args.token.now) c.args.counts.now c.insert.new.self c.contains_key-again.result ts (sym c.is_variable.ensures ∙ c.if-is_variable.true) refl c.contains_key-again.ensures c.in_ok-insert.ensures.updates counted

pub returns-else-is_variable : goal.returns-else-is_variable
returns-else-is_variable c = λ ts counted. counted_past (shown c.args.token.now) c.args.counts.now ts (sym c.is_variable.ensures ∙ c.if-is_variable.false) counted
