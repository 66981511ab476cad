use Rattle.std.proofs.Common.{sym, ◌∙◌}
use Rattle.iso_atoms.specs.Texts.{text_at}
use Rattle.iso_store.proofs.OrderLemmas.{alike, arguments-decide}
use Rattle.iso_store.proofs.order.compare_compounds.Goals as goal

pub returns : goal.returns
returns g c =
    let names = g.S.Primitives.names c.args.store.now in
    λ ts us many other.
    arguments-decide c.args.one_count c.args.other_count (text_at names c.args.one) (text_at names c.args.other) ts us (sym c.cmp-arities.ensures ∙ alike c.cmp-arities.result (sym c.ne.ensures ∙ c.if-ne.false))
    (sym c.compare_names-names.ensures ∙ alike c.compare_names-names.result (sym c.ne-2.ensures ∙ c.if-ne-2.false)) many other
