use Rattle.std.proofs.Common.{rules, ◌≡◌, ◌-◌, ◌++◌, ◌∷◌, [], length, ◌∙◌, refl, arith}
use Rattle.iso_store.specs.declared.reading.Unread.{Unread}
use Rattle.iso_store.specs.Reading.{HasArguments, first_arguments, left_terms}
use Rattle.iso_store.proofs.UnifyLemmas.{All-front, All-last}
use Rattle.iso_store.proofs.ReadingLemmas.{argument-index}
use Rattle.iso_store.proofs.ReadUnread.{ReadOver, left-push, last-left, over-left, over-variables, over-compound}
use Rattle.iso_store.proofs.reading.next_word.Given.{Over}
use Rattle.iso_store.proofs.reading.next_word.Goals.{After-read_variables-count}
use Rattle.iso_store.proofs.reading.next_word.Goals as goal

pub read_variables-count-requires-clause-read : goal.read_variables-count-requires-clause-read
read_variables-count-requires-clause-read g c =
    let so = c.loop-inner.invariant in
    let us = c.loop-inner.left.items in
    let u = c.loop-inner.inner in
    let r = c.requires.read in
    (left_terms (g.S.Primitives.present c.args.store.now) us, r.0, over-left _ _ _ _ _ _ _ _ _ (length c.loop-inner.values.items) u.count so.values u.word us (us ++ u ∷ []) refl so.read r.0 r.1)

-- what is left when variables were read
over : (g : Over) (c : After-read_variables-count g) → ReadOver (g.S.Primitives.present c.args.store.now) (g.S.Primitives.names c.args.store.now) c.args.head.now (length c.args.values.now.items) c.args.past c.args.values.now.items
    (left_terms (g.S.Primitives.present c.args.store.now) (c.args.left.now.items ++ c.args.inner.now ∷ [])) c.read_variables-count.new.values.items
    (left_terms (g.S.Primitives.present c.args.store.now) c.loop-inner.left.items ++ first_arguments (g.S.Primitives.present c.args.store.now) c.loop-inner.inner.word c.read_variables-count.result.0) c.read_variables-count.result.1
over g c =
    let so = c.loop-inner.invariant in
    let us = c.loop-inner.left.items in
    let u = c.loop-inner.inner in
    over-variables _ _ _ _ _ _ _ _ _ (length c.loop-inner.values.items) u.count so.values u.word us (us ++ u ∷ []) refl so.read _ _ c.read_variables-count.result.0 c.read_variables-count.ensures.read

pub arg-word-requires-clause-index : goal.arg-word-requires-clause-index
arg-word-requires-clause-index g c =
    let so = c.loop-inner.invariant in
    let is = so.inner (omega (arith, c.if-count-gt0.true, c.read_variables-count.ensures.fewer)) in
    let met = c.read_variables-count.ensures in
    argument-index (c.read_variables-count.result.0 - 1) is.arity _ is.compound (omega (arith, c.if-count-gt0.true, met.fewer, is.within))

pub returns-then-count-gt0-clause-read : goal.returns-then-count-gt0-clause-read
returns-then-count-gt0-clause-read g c = λ later before.
    (let p = g.S.Primitives.present c.args.store.now in
    let so = c.loop-inner.invariant in
    let us = c.loop-inner.left.items in
    let u = c.loop-inner.inner in
    let is = so.inner (omega (arith, c.if-count-gt0.true, c.read_variables-count.ensures.fewer)) in
    let met = c.read_variables-count.ensures in
    let k = c.read_variables-count.result.0 in
    let inner : Unread _ = record { word = u.word; count = k - 1 } in
    let here = last-left p u.word u.count is us (us ++ inner ∷ []) k c.arg-word.result c.if-count-gt0.true met.fewer (left-push p us (us ++ inner ∷ []) inner refl) c.arg-word.ensures.value in
    (c.arg-word.ensures.holds, omega (arith, met.parts, met.fewer, so.fewer), rw here (over g (goal.at.returns-then-count-gt0-clause-read g c).After-read_variables-count later before)))

pub returns-then-count-gt0-clause-inner : goal.returns-then-count-gt0-clause-inner
returns-then-count-gt0-clause-inner g c = λ some.
    (let so = c.loop-inner.invariant in
    let is = so.inner (omega (arith, c.if-count-gt0.true, c.read_variables-count.ensures.fewer)) in
    let met = c.read_variables-count.ensures in
    record { holds = is.holds; arity = is.arity; compound = is.compound; some = some; within = omega (arith, met.fewer, is.within) })

pub returns-in_default-clause-read : goal.returns-in_default-clause-read
returns-in_default-clause-read g c = λ later before.
    (let none : c.loop-inner.left.items ≡ [] = search rules in
    let on = over-compound _ _ _ _ _ _ _ _ c.loop-inner.left.items c.loop-inner.inner.word _ _ (omega (arith, c.if-count-gt0.false)) (over g (goal.at.returns-in_default-clause-read g c).After-read_variables-count) in
    (c.read_variables-count.result.1, rw none at on later before))

pub loop-inner-preserved : goal.loop-inner-preserved
loop-inner-preserved g c =
    let p = g.S.Primitives.present c.args.store.now in
    let so = c.loop-inner.invariant in
    let met = c.read_variables-count.ensures in
    let more = c.in-Some.ensures.items in
    record {
      fewer = omega (arith, met.parts, met.fewer, so.fewer);
      values = met.values ∙ so.values;
      unread = All-front (λ v. HasArguments p v.word v.count) c.pop.new.self.items c.in-Some.unread (rw more at so.unread);
      inner = λ some. All-last (λ v. HasArguments p v.word v.count) c.pop.new.self.items c.in-Some.unread (rw more at so.unread);
      read = rw (← more) (over-compound _ _ _ _ _ _ _ _ c.loop-inner.left.items c.loop-inner.inner.word _ _ (omega (arith, c.if-count-gt0.false)) (over g (goal.at.loop-inner-preserved g c).After-read_variables-count));
    }
