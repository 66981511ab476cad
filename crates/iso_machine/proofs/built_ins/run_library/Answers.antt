use Rattle.std.proofs.Common.{arith}
use Rattle.iso_atoms.specs.Texts.{text_at}
use Rattle.iso_machine.proofs.Moves.BuiltIn.{has_run, put_count}
use Rattle.iso_machine.proofs.built_ins.run_library.Goals as goal

pub builtin-answered-requires-clause-arguments : goal.builtin-answered-requires-clause-arguments
builtin-answered-requires-clause-arguments g c = rw (← c.as_slice.ensures) at c.requires.put.2.hold

pub builtin-answered-requires-clause-count : goal.builtin-answered-requires-clause-count
builtin-answered-requires-clause-count g c =
    let e = c.args.search.now in
    rw (← c.as_slice.ensures) at
    (put_count (g.S.Store.present e.store) e.lists.arguments.items (text_at (g.S.Store.names e.store) c.args.put.name)
    c.args.row c.requires.row)

pub builtin-answered-requires-clause-next : goal.builtin-answered-requires-clause-next
builtin-answered-requires-clause-next g c =
    let h = c.requires.put in
    let goes = (h.2.at h.3.0 h.3.1).at.ahead.goes in
    let room = goes.room in
    let next = goes.next in
    omega (arith, room, next)

pub builtin-answered-requires-clause-evaluables : goal.builtin-answered-requires-clause-evaluables
builtin-answered-requires-clause-evaluables g c =
    let h = c.requires.put in
    (h.2.at h.3.0 h.3.1).at.ahead.world.vocabulary_is.evaluables

pub go_on_from-requires : goal.go_on_from-requires
go_on_from-requires g c =
    let h = c.requires.put in (
      h.0,
      c.args.search.now,
      c.args.put.name,
      h.1,
      has_run g.S.Store g.S.Cells.atom_word h.2 c.requires.more c.args.row c.requires.row c.builtin-answered.result
          c.builtin-answered.new.store c.as_slice.result.now c.as_slice.ensures c.builtin-answered.ensures.replies
          c.builtin-answered.ensures.cells c.builtin-answered.ensures.rest c.builtin-answered.ensures.full,
      h.3,
    )

pub returns : goal.returns
returns g c = λ old room put.
    c.go_on_from.ensures old c.args.search.now c.args.put.name room
    (has_run g.S.Store g.S.Cells.atom_word put c.requires.more c.args.row c.requires.row c.builtin-answered.result
    c.builtin-answered.new.store c.as_slice.result.now c.as_slice.ensures c.builtin-answered.ensures.replies
    c.builtin-answered.ensures.cells c.builtin-answered.ensures.rest c.builtin-answered.ensures.full)
