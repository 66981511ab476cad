-- One entry after another is forgotten.
use Rattle.std.proofs.Common.{◌≡◌, ◌<◌, ◌∙◌, ap, sym, length, map, refl, arith}
use Rattle.iso_clauses.specs.Blocks.{forgotten}
use Rattle.iso_clauses.proofs.ForgetLemmas.{forgotten-set, forgotten-more, forgotten-all}
use Rattle.iso_clauses.proofs.tidying.forget_blocks.Goals as goal

pub loop-entry-init : goal.loop-entry-init
loop-entry-init c = record { same = refl; done = refl }

pub loop-entry-preserved : goal.loop-entry-preserved
loop-entry-preserved c =
    let items = c.loop-entry.entry-items in
    let k = c.loop-entry.entry-index in
    let old = c.entry-item.result in
    let is : c.forget_older.new.self ≡ forgotten old = c.forget_older.ensures ∙ ap forgotten (sym c.entry-item.is) in
    let within : k < length items = omega (arith, c.loop-entry-test.true, c.loop-entry.auto.entry-items) in
    record {
      same = forgotten-set items k old c.forget_older.new.self c.entry-item.is is ∙ c.loop-entry.invariant.same;
      done = forgotten-more items k old c.forget_older.new.self within is c.loop-entry.invariant.done;
    }

pub returns : goal.returns
returns c =
    let entries = c.args.entries.now.items in
    let now = c.loop-entry.entry-items in
    let size : length now ≡ length entries = c.loop-entry.auto.entry-items ∙ ap length c.deref_mut-entry-items.ensures.value in
    forgotten-all entries now c.args.entries.now.len c.loop-entry.entry-index (omega (arith, size, c.args.entries.now.ok.0)) (omega (arith, size, c.loop-entry-test.false, c.loop-entry.auto.entry-items)) (c.loop-entry.invariant.same ∙ ap (map forgotten) c.deref_mut-entry-items.ensures.value) c.loop-entry.invariant.done
