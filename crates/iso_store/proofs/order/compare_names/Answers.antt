use Rattle.std.proofs.Common.{◌≡◌, [], ap, ap₂, sym, ◌∙◌}
use Rattle.std.proofs.lemmas.Bool.{eqb-true}
use Rattle.std.proofs.lemmas.Cmp.{tied_itself}
use Rattle.std.proofs.lemmas.Option.{get_or_from_slice_get}
use Rattle.std.specs.Cmp.Lexicographic.{slice_cmp, nat_list_cmp_total}
use Rattle.std.specs.Ordering.{nat_cmp}
use Rattle.iso_atoms.specs.Texts.{text_at}
use Rattle.iso_store.proofs.order.compare_names.Goals as goal

pub returns-then-eq : goal.returns-then-eq
returns-then-eq g c =
    let names = g.S.Primitives.names c.args.store.now in
    let same : c.args.one ≡ c.args.other = eqb-true c.args.one c.args.other (sym c.eq.ensures ∙ c.if-eq.true) in
    sym (tied_itself nat_list_cmp_total (text_at names c.args.one)) ∙ ap (λ n. slice_cmp nat_cmp (text_at names c.args.one) (text_at names n)) same

pub returns : goal.returns
returns g c =
    let names = g.S.Primitives.names c.args.store.now in
    c.cmp.ensures
    ∙ ap₂ (slice_cmp nat_cmp) (sym (get_or_from_slice_get names c.args.one c.text.result.now [] c.text.ensures)) (sym (get_or_from_slice_get names c.args.other c.text-2.result.now [] c.text-2.ensures))
