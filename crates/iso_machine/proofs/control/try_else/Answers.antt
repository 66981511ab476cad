use Rattle.iso_machine.proofs.Moves.Instruction.{try_some, try_split}
use Rattle.iso_machine.proofs.control.try_else.Goals as goal

pub split-requires-clause-address : goal.split-requires-clause-address
split-requires-clause-address g c =
    try_some g.S.Store g.S.Cells.atom_word c.args.search.now c.args.rest c.requires.now c.args.other c.requires.there
    c.requires.stands.0 c.requires.stands.1

pub split-requires-clause-splits : goal.split-requires-clause-splits
split-requires-clause-splits g c = (
  c.args.search.now,
  c.requires.stands.0,
  c.requires.stands.1,
  try_split g.S.Store g.S.Cells.atom_word c.args.search.now c.args.rest c.requires.now c.args.other c.requires.there
      c.requires.stands.0 c.requires.stands.1,
)

pub returns : goal.returns
returns g c =
    c.split.ensures c.args.search.now c.requires.stands.0 c.requires.stands.1
    (try_split g.S.Store g.S.Cells.atom_word c.args.search.now c.args.rest c.requires.now c.args.other c.requires.there
    c.requires.stands.0 c.requires.stands.1)
