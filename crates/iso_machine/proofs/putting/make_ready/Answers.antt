use Rattle.iso_writing.specs.Writing.{Adds}
use Rattle.iso_machine.specs.Engines.{framed}
use Rattle.iso_machine.proofs.AddedLemmas.{IsGrown}
use Rattle.iso_machine.proofs.Moves.Go.{known_grown, ready_ahead, ready_names, ready_put, ready_stays}
use Rattle.iso_machine.proofs.putting.make_ready.Given.{Over}
use Rattle.iso_machine.proofs.putting.make_ready.Goals as goal
use Rattle.iso_machine.proofs.putting.make_ready.Goals.{After-give_up}

pub give_up-requires : goal.give_up-requires
give_up-requires g c =
    let e = c.args.search.now in
    let known = c.know_atoms.ensures in (
      _,
      ready_ahead g.S.Store g.S.Cells.atom_word c.args.behind c.requires.more
          (known_grown g.S.Store g.S.Cells.atom_word e c.know_atoms.new.self known.names known.marks known.cells)
          (record { words = known.words; substitution = known.substitution; numbers = known.numbers })
          c.requires.stands.0 c.requires.stands.1,
    )

-- ---- atoms are known

grown : (g : Over) (c : After-give_up g)
    → IsGrown g.S.Store (framed g.S.Cells.atom_word) c.args.search.now c.know_atoms.new.self c.args.search.now.lists 0
grown g c =
    let known = c.know_atoms.ensures in
    known_grown g.S.Store g.S.Cells.atom_word c.args.search.now c.know_atoms.new.self known.names known.marks
    known.cells

adds : (g : Over) (c : After-give_up g)
    → Adds (g.S.Store.present c.args.search.now.store) (g.S.Store.present c.know_atoms.new.self)
adds g c =
    let known = c.know_atoms.ensures in
    record { words = known.words; substitution = known.substitution; numbers = known.numbers }

-- ---- what is left

pub returns-clause-ahead : goal.returns-clause-ahead
returns-clause-ahead g c = λ s ahead.
    c.give_up.ensures.ahead _ (ready_ahead g.S.Store g.S.Cells.atom_word c.args.behind c.requires.more (grown g c)
    (adds g c) s ahead)

pub returns-clause-put : goal.returns-clause-put
returns-clause-put g c =
    let store = c.know_atoms.new.self in
    let known = c.know_atoms.ensures.known c.args.name c.requires.name in
    ready_put g.S.Store g.S.Cells.atom_word c.args.behind c.requires.more (grown g c) (adds g c)
    c.give_up.ensures.same c.give_up.ensures.arguments c.args.name known
    (g.met.S.Cells.named store c.args.name known).1 c.requires.hold

pub returns-clause-names : goal.returns-clause-names
returns-clause-names g c =
    ready_names g.S.Store g.S.Cells.atom_word c.args.behind c.requires.more (grown g c) (adds g c)
    c.give_up.ensures.same c.give_up.ensures.arguments

pub returns-clause-stays : goal.returns-clause-stays
returns-clause-stays g c =
    ready_stays g.S.Store g.S.Cells.atom_word c.args.behind c.requires.more (grown g c) (adds g c)
    c.give_up.ensures.same c.give_up.ensures.arguments c.give_up.ensures.stays
