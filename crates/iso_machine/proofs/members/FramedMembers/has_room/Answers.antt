use Rattle.std.proofs.Common.{inl, arith}
use Rattle.std.proofs.lemmas.Bool.{ltb-false}
use Rattle.iso_machine.proofs.members.FramedMembers.has_room.Goals as goal

pub returns-clause-full : goal.returns-clause-full
returns-clause-full g c = λ full.
    (let e = c.args.search.now in
    let many = c.len.ensures in
    let ok = e.choices.ok.0 in
    let less = ltb-false c.len.result e.limit full in
    inl (omega (arith, less, many, ok)))
