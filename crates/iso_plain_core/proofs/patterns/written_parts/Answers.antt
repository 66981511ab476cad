use Rattle.std.proofs.Common.{◌∙◌, refl}
use Rattle.iso_plain_core.proofs.WrittenLemmas.{written_push}
use Rattle.iso_plain_core.proofs.patterns.written_parts.Goals as goal

pub loop-part-init : goal.loop-part-init
loop-part-init g c = record { written = rw c.in_ok-written.ensures.items tt; names = λ place text h. h; present = refl; marks = λ m p h. h }

pub loop-part-preserved : goal.loop-part-preserved
loop-part-preserved g c =
    let before = c.loop-part.invariant in
    let old = g.S.Store.names c.loop-part.store in
    let new = g.S.Store.names c.written_part.new.store in
    let made = c.in_ok-goal.ensures in
    record {
      written = rw c.in_ok-push.ensures.items (written_push old new made.rest.names c.args.parts.now c.loop-part.written.items c.loop-part.part-index c.part-item.result c.in_ok-goal.goal c.loop-part-test.true c.part-item.is before.written made.written);
      names = λ place text h. made.rest.names place text (before.names place text h);
      present = made.present ∙ before.present;
      marks = λ m p h. made.rest.marks m p (before.marks m p h);
    }
