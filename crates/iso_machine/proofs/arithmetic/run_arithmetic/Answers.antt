use Rattle.iso_machine.proofs.Moves.Arithmetic.{none_moved}
use Rattle.iso_machine.proofs.Moves.Went.{moved_came, moved_refused}
use Rattle.iso_machine.proofs.arithmetic.run_arithmetic.Goals as goal

pub returns-then-search-eq0 : goal.returns-then-search-eq0
returns-then-search-eq0 g c =
    none_moved g.S.Store g.S.Cells.atom_word c.args.search.now c.clear.new.self c.args.rest c.requires.now
    c.requires.there c.if-search-eq0.true c.clear.ensures.idle c.clear.ensures.now c.clear.ensures.stays

pub returns-in_err-compute : goal.returns-in_err-compute
returns-in_err-compute g c =
    moved_refused g.S.Store g.S.Cells.atom_word c.from_residual.result _ c.from_residual.ensures.0
    c.from_residual.ensures.1 (c.in_err-compute.ensures.came c.requires.stands.0 c.requires.stands.1)

pub returns : goal.returns
returns g c =
    moved_came g.S.Store g.S.Cells.atom_word
    (c.in_ok-compute.ensures.came c.requires.stands.0 c.requires.stands.1)

pub compute-requires-clause-stands : goal.compute-requires-clause-stands
compute-requires-clause-stands g c = (c.args.search.now.choices, c.requires.stands.0, c.requires.stands.1)
