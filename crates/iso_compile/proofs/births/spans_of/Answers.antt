use Rattle.std.proofs.Common.{sym, ap, ◌∙◌}
use Rattle.std.proofs.lemmas.List.{drop_all}
use Rattle.iso_compile.specs.Births.{with_code}
use Rattle.iso_compile.proofs.BirthLemmas.{code_spans}
use Rattle.iso_compile.proofs.births.spans_of.Goals as goal

pub returns-clause-spans : goal.returns-clause-spans
returns-clause-spans c =
    (code_spans c.args.code.now c.in_ok-spans.spans.items c.loop-address.spans.items
    (ap (λ is. with_code c.loop-address.address is c.loop-address.spans.items) (sym (drop_all c.loop-address.address c.args.code.now c.loop-address-test.false)) ∙ c.loop-address.invariant.0)).0

pub returns-clause-many : goal.returns-clause-many
returns-clause-many c =
    (code_spans c.args.code.now c.in_ok-spans.spans.items c.loop-address.spans.items
    (ap (λ is. with_code c.loop-address.address is c.loop-address.spans.items) (sym (drop_all c.loop-address.address c.args.code.now c.loop-address-test.false)) ∙ c.loop-address.invariant.0)).1 ∙ c.loop-address.invariant.1
