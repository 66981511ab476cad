-- A step of the view.
use Rattle.std.proofs.Common.{arith}
use Rattle.iso_program.proofs.LeavingLemmas.{next_is_left}
use Rattle.iso_program.proofs.left_clauses.next_left.Goals as goal

pub returns-clause-left : goal.returns-clause-left
returns-clause-left g c = λ names ks cs gives are few.
    (let next = c.next_in.ensures in
    let less = next.never_rises in
    next_is_left names c.args.db.now c.next_in.new.view ks cs c.next_in.result are (next.stand ks gives) (next.first ks gives) (next.rest ks gives) (omega (arith, few, less)))
