use Rattle.std.proofs.Common.{◌≡◌, ◌∙◌, ◌+◌, suc, add-one, arith}
use Rattle.iso_store.proofs.Gathering.{gathers-variable, takes-more, free-more, grows-both}
use Rattle.iso_store.proofs.copies.variables_from.Goals as goal

pub loop-place-preserved : goal.loop-place-preserved
loop-place-preserved g c =
    let i = c.loop-place.place in
    let index : i + 1 ≡ suc i = add-one i in
    let grown = rw c.if-is_err.ensures.negation at c.push.ensures.items in
    let so = c.loop-place.invariant in
    record {
      gathers = rw (grown, index) (gathers-variable c.args.first i so.gathers c.in_ok-word.ensures.made);
      numbers = takes-more c.args.first i so.numbers c.in_ok-word.ensures.numbers;
      free = rw index (free-more c.args.first i c.in_ok-word.ensures.numbers so.free);
      cells = grows-both _ _ so.cells c.in_ok-word.ensures.cells (omega arith) (omega arith);
      each_cell = let before = so.each_cell in let more = c.in_ok-word.ensures.cell in omega arith;
      names = c.in_ok-word.ensures.names ∙ so.names;
      marks = λ m q h. c.variable.ensures.marks m q (so.marks m q h);
    }
