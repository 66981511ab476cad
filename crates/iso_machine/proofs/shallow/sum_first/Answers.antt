use Rattle.iso_machine.specs.Unpushed.{with_choices}
use Rattle.iso_machine.proofs.FirstGoals.{engine_stops}
use Rattle.iso_machine.proofs.shallow.sum_first.Goals as goal

pub act_there-requires : goal.act_there-requires
act_there-requires g c =
    rw c.as_slice.ensures.value (engine_stops g.S.Store g.S.Cells.atom_word
    (with_choices c.args.search.now c.requires.0) c.in_ok-rest.rest c.in_ok-rest.ensures c.requires.1 c.requires.2)
