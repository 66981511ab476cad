use Rattle.std.proofs.Common.{◌≡◌, ◌-◌, ◌<◌, ◌++◌, ◌∷◌, [], length, Some, None, slice_get, refl, ◌∙◌, arith}
use Rattle.std.proofs.lemmas.Option.{slice_get_read}
use Rattle.iso_store.proofs.PartShows.{part-variable}
use Rattle.iso_store.proofs.ReadingLemmas.{argument-index}
use Rattle.iso_store.proofs.ReadOn.{length-set-here}
use Rattle.iso_store.proofs.ReadUnread.{some-parts, read-one}
use Rattle.iso_model.specs.Terms.Trees.{Variable}
use Rattle.iso_store.specs.Reading.{first_terms}
use Rattle.iso_store.proofs.reading.read_variables.Given.{Over}
use Rattle.iso_store.proofs.reading.read_variables.Goals.{At-loop-count, In-Variable}
use Rattle.iso_store.proofs.reading.read_variables.Goals as goal

-- a part is left for an argument that is
some : (g : Over) (c : At-loop-count g) → 0 < c.loop-count.count → 0 < c.loop-count.at
some g c more =
    let p = g.S.Primitives.present c.args.store.now in
    let names = g.S.Primitives.names c.args.store.now in
    let so = c.loop-count.invariant in
    let r = c.requires.read in
    let is = c.requires.unread (omega (arith, more, so.within)) in
    some-parts p c.args.word c.args.many names c.args.head.now (length c.args.values.now.items) c.args.past c.args.values.now.items is c.loop-count.values.items c.loop-count.count c.loop-count.at more so.within r.0 r.1 (so.read r.0 r.1 r.2).read

-- and where it is a variable, that has a place
variable : (g : Over) (c : In-Variable g) → 0 < c.loop-count.at → (c.in-Variable.place < length c.loop-count.values.items)
    × (first_terms (g.S.Primitives.names c.args.store.now) c.args.head.now c.loop-count.at ≡ first_terms (g.S.Primitives.names c.args.store.now) c.args.head.now (c.loop-count.at - 1) ++ Variable c.in-Variable.place ∷ [])
variable g c part =
    let so = c.loop-count.invariant in
    let r = c.requires.read in
    let t = c.requires.count in
    let is = part-variable (g.S.Primitives.names c.args.store.now) c.args.head.now c.requires.exact (length c.args.values.now.items) t.0 t.1 t.2 t.3 c.loop-count.at part (so.read r.0 r.1 r.2).read.within c.index-head-at.result c.index-head-at.is _ c.in-Variable.is in
    (omega (arith, is.0, so.values), is.1)

pub overflow_sub-part : goal.overflow_sub-part
overflow_sub-part g c = omega (arith, some g (goal.at.overflow_sub-part g c).At-loop-count c.loop-count-test.true)

pub index-requires : goal.index-requires
index-requires g c =
    let at = goal.at.index-requires g c in
    omega (arith, (variable g at.In-Variable (some g at.At-loop-count c.loop-count-test.true)).0, c.loop-count.values.ok.0)

pub arg-requires-clause-index : goal.arg-requires-clause-index
arg-requires-clause-index g c =
    let within = c.loop-count.invariant.within in
    let is = c.requires.unread (omega (arith, c.loop-count-test.true, within)) in
    argument-index (c.loop-count.count - 1) is.arity _ is.compound (omega (arith, c.loop-count-test.true, within, is.within))

pub index_mut-requires : goal.index_mut-requires
index_mut-requires g c =
    let at = goal.at.index_mut-requires g c in
    omega (arith, (variable g at.In-Variable (some g at.At-loop-count c.loop-count-test.true)).0, c.loop-count.values.ok.0)

pub overflow_sub-at : goal.overflow_sub-at
overflow_sub-at g c = omega (arith, some g (goal.at.overflow_sub-at g c).At-loop-count c.loop-count-test.true)

pub loop-count-preserved : goal.loop-count-preserved
loop-count-preserved g c =
    let so = c.loop-count.invariant in
    let is = c.requires.unread (omega (arith, c.loop-count-test.true, so.within)) in
    let at = goal.at.loop-count-preserved g c in
    let part = some g at.At-loop-count c.loop-count-test.true in
    let place = variable g at.In-Variable part in
    let none : slice_get c.loop-count.values.items c.in-Variable.place ≡ Some None = slice_get_read c.loop-count.values.items (length c.loop-count.values.items) c.in-Variable.place None refl place.0 (rw c.in-None.is at c.index.ensures) in
    record {
      within = omega (arith, so.within);
      parts = omega (arith, so.parts, part, c.loop-count-test.true);
      values = length-set-here c.loop-count.values.items c.in-Variable.place (Some c.arg.result) ∙ so.values;
      read = read-one (g.S.Primitives.present c.args.store.now) c.args.word c.args.many (g.S.Primitives.names c.args.store.now) c.args.head.now (length c.args.values.now.items) c.args.past c.args.values.now.items is c.loop-count.values.items c.loop-count.count c.loop-count.at c.loop-count-test.true so.within _ c.in-Variable.place c.arg.result part
          c.arg.ensures.holds c.arg.ensures.value place.0 none refl place.1 so.read;
    }
