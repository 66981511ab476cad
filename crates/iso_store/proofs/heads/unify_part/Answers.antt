use Rattle.std.proofs.Common.{◌-◌, length, take, drop, arith, refl}
use Rattle.iso_store_core.specs.Patterns.{IsPattern}
use Rattle.iso_store.specs.Reading.{term_between}
use Rattle.iso_store.proofs.Gathering.{grows-on}
use Rattle.iso_store.proofs.UnifiedLater.{later-pattern, made-meaning, unified-result}
use Rattle.iso_store.proofs.heads.unify_part.Given.{Over}
use Rattle.iso_store.proofs.heads.unify_part.Goals.{Start}
use Rattle.iso_store.proofs.heads.unify_part.Goals as goal

pattern : (g : Over) (c : Start g) → IsPattern (g.S.Primitives.names c.args.store.now) (take (c.args.part.past - c.args.part.from) (drop c.args.part.from c.args.head.now)) (term_between (g.S.Primitives.names c.args.store.now) c.args.head.now c.args.part.from c.args.part.past)
pattern g c = later-pattern (g.S.Primitives.present c.args.store.now) (g.S.Primitives.names c.args.store.now) c.args.head.now c.args.head.now (length c.args.words.now) c.args.part refl c.requires.later

pub make_parts-requires-clause-pattern : goal.make_parts-requires-clause-pattern
make_parts-requires-clause-pattern g c = (_, pattern g (goal.at.make_parts-requires-clause-pattern g c).Start, c.requires.later.fits, c.requires.later.places)

pub unify_made-requires-clause-one : goal.unify_made-requires-clause-one
unify_made-requires-clause-one g c = (c.in_ok-made.ensures.made _ (pattern g (goal.at.unify_made-requires-clause-one g c).Start)).words.stand c.args.part.word c.requires.later.holds

pub unify_made-requires-clause-other : goal.unify_made-requires-clause-other
unify_made-requires-clause-other g c = (c.in_ok-made.ensures.made _ (pattern g (goal.at.unify_made-requires-clause-other g c).Start)).holds

pub returns-clause-unified : goal.returns-clause-unified
returns-clause-unified g c =
    let t = term_between (g.S.Primitives.names c.args.store.now) c.args.head.now c.args.part.from c.args.part.past in
    let later = c.requires.later in
    let made = c.in_ok-made.ensures.made t (pattern g (goal.at.returns-clause-unified g c).Start) in
    unified-result (g.S.Primitives.present c.unify_made.new.store) c.in_ok-made.made c.args.part.word _ _ made c.in_ok-made.ensures.numbers later.holds (made-meaning c.args.words.now t c.in_ok-made.made later.places made) c.unify_made.result c.unify_made.ensures.unified

pub returns-in_err-made-clause-cells : goal.returns-in_err-made-clause-cells
returns-in_err-made-clause-cells g c = c.make_parts.ensures.cells _ (pattern g (goal.at.returns-in_err-made-clause-cells g c).Start)

pub returns-clause-cells : goal.returns-clause-cells
returns-clause-cells g c =
    let made = c.in_ok-made.ensures.cells _ (pattern g (goal.at.returns-clause-cells g c).Start) in
    grows-on _ made c.unify_made.ensures.cells (omega arith)
