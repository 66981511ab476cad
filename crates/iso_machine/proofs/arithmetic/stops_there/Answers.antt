use Rattle.std.proofs.Common.{◌<◌, length, sym, subst, arith}
use Rattle.iso_instructions.specs.declared.instructions.Code.{Code}
use Rattle.iso_frames.specs.declared.frames.Work.{Work}
use Rattle.iso_frames.proofs.GoingLemmas.{remains_inside}
use Rattle.iso_machine.specs.Arithmetic.{StopsThere}
use Rattle.iso_machine.specs.Firsts.{GoesOn}
use Rattle.iso_machine.proofs.Moves.Arithmetic.{stops_read}
use Rattle.iso_machine.proofs.arithmetic.stops_there.Goals as goal

pub index-requires : goal.index-requires
index-requires c =
    let goes = subst (λ (w : Work). GoesOn w c.args.address) c.in-Clause.is c.requires in
    let below = subst (λ (x : Code). c.args.address < length x.body.items) (sym c.deref.ensures) (remains_inside goes.2) in
    let ok = c.deref.result.now.body.ok.0 in
    omega (arith, ok, below)

pub returns-in_default-index : goal.returns-in_default-index
returns-in_default-index c = λ yes.
    (let goes = subst (λ (w : Work). GoesOn w c.args.address) c.in-Clause.is c.requires in
    subst (λ (w : Work). StopsThere w c.args.address) (sym c.in-Clause.is)
    (stops_read c.in-Clause.code.value c.deref.result.now c.args.address c.index.result.now c.deref.ensures (remains_inside goes.2)
    c.index.ensures (λ is. c.in_default-index.not-Proceed is) (λ l is. c.in_default-index.not-Jump l is)))
