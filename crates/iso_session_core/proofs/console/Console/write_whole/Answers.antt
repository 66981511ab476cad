use Rattle.std.proofs.Common.{arith}
use Rattle.iso_session_core.proofs.WrittenLemmas.{begins_stopped, takes_more, keeps_none}
use Rattle.iso_session_core.proofs.console.Console.write_whole.Goals as goal

pub returns-in_default-clause-err : goal.returns-in_default-clause-err
returns-in_default-clause-err g c = begins_stopped _ _ _ c.loop-done.done c.args.bytes.now c.loop-done-test.true c.loop-done.invariant.written c.in_default.ensures.bytes

pub returns-then-count-eq0-clause-err : goal.returns-then-count-eq0-clause-err
returns-then-count-eq0-clause-err g c =
    let none = rw c.if-count-eq0.true at c.in-Ok.ensures.bytes in
    begins_stopped _ _ _ c.loop-done.done c.args.bytes.now c.loop-done-test.true c.loop-done.invariant.written (keeps_none _ _ none)

pub loop-done-preserved : goal.loop-done-preserved
loop-done-preserved g c = record {
  in_range = omega (arith, c.in-Ok.ensures.bound);
  within = c.loop-done.invariant.within;
  writer = c.loop-done.invariant.writer;
  written = takes_more _ _ _ c.loop-done.done c.in-Ok.count c.args.bytes.now c.loop-done.invariant.written c.in-Ok.ensures.bytes;
}
