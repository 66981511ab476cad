use Rattle.std.proofs.Common.{◌≡◌, false, ap, sym, ◌∙◌}
use Rattle.iso_lint.specs.Findings as spec
use Rattle.iso_lint_core.specs.KeyViews.{key_view, keys_view}
use Rattle.iso_lint.proofs.KeyLemmas.{noted_more}
use Rattle.iso_lint.proofs.unknown.note_unknown.Goals as goal

pub returns : goal.returns
returns c = λ ks table.
    let unknown : spec.is_known ks (key_view c.args.key) ≡ false = sym (c.knows.ensures ks table) ∙ c.if-knows.false in
    rw unknown (ap keys_view c.in_ok-insert.ensures.keys ∙ noted_more c.args.noted.now.keys c.args.key)
