use Rattle.std.proofs.Common.{◌≡◌, ◌++◌, ◌∷◌, [], ◌-◌, length, get_or, map, ap, ◌∙◌}
use Rattle.iso_store_core.specs.Presents.{Gathers}
use Rattle.iso_store_core.specs.declared.patterns.Part.TheVariants.{Compound}
use Rattle.iso_store.specs.Plans.{made_known}
use Rattle.iso_store.proofs.PlanMade.{gathers-known, gathers-none}
use Rattle.iso_store.proofs.duplicates.make_planned.Goals as goal

pub returns-in_ok-push-clause-known : goal.returns-in_ok-push-clause-known
returns-in_ok-push-clause-known g c =
    let p = g.S.Primitives.present c.args.store.now in
    let q = g.S.Primitives.present c.make_part.new.store in
    let names = g.S.Primitives.names c.args.store.now in
    let ws = c.make_part.new.words.items in
    let known = c.args.known.now.items in
    let so = rw c.in-Compound.is at c.in_ok-make_part.ensures.gathers in
    let index : c.len.result - 1 ≡ length ws - 1 = ap (λ n. n - 1) (c.len.ensures ∙ c.make_part.new.words.ok.0) in
    let last : c.index.result.now ≡ get_or ws (length ws - 1) c.index.result.now = c.index.ensures ∙ ap (λ n. get_or ws n c.index.result.now) index in
    let both = gathers-known known ws _ _ c.index.result.now c.requires.known so last in
    let made : Gathers p q (known ++ c.index.result.now ∷ []) (map p.term known ++ made_known names (Compound c.in-Compound.field-0 c.in-Compound.field-1) (map p.term c.args.words.now.items)) = both in
    rw (c.in_ok-push.ensures.items, c.in-Compound.is) made

pub returns-in_default-clause-known : goal.returns-in_default-clause-known
returns-in_default-clause-known g c =
    let names = g.S.Primitives.names c.args.store.now in
    let so = c.in_ok-make_part.ensures.gathers in
    gathers-none names c.args.part c.args.known.now.items _ c.in_default.not-Compound so.words so.substitution c.requires.known
