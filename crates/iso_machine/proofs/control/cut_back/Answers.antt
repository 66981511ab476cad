use Rattle.std.proofs.Common.{ap, rules}
use Rattle.iso_search.proofs.AheadLemmas.{keeps_ahead}
use Rattle.iso_machine.specs.Engines.{Engine, framed}
use Rattle.iso_machine.proofs.Moves.Cut.{below, cut_at, cut_ahead, cut_moved}
use Rattle.iso_machine.proofs.control.cut_back.Goals as goal

pub height_at-height-requires : goal.height_at-height-requires
height_at-height-requires g c =
    let there = c.requires.there in
    let cut = cut_at g.S.Store g.S.Cells.atom_word c.args.search.now c.args.rest c.requires.now c.args.mark there
    c.requires.stands.0 c.requires.stands.1 in
    rw c.as_slice.ensures.value (there.frame, there.code, there.level, cut.kept, there.clause, cut.levels)

pub cut_to-requires : goal.cut_to-requires
cut_to-requires g c =
    let own = c.requires.stands.1.own in
    let cut = cut_at g.S.Store g.S.Cells.atom_word c.args.search.now c.args.rest c.requires.now c.args.mark
    c.requires.there c.requires.stands.0 c.requires.stands.1 in (
      own.world,
      own.stack,
      keeps_ahead g.S.Store (framed g.S.Cells.atom_word) c.args.search.now (record own { list = cut.behind })
          (below g.S.Store g.S.Cells.atom_word c.args.search.now c.args.rest c.requires.now c.args.mark
          c.requires.there)
          cut.ahead,
    )

pub overflow_sub-rest : goal.overflow_sub-rest
overflow_sub-rest g c =
    (cut_at g.S.Store g.S.Cells.atom_word c.args.search.now c.args.rest c.requires.now c.args.mark c.requires.there
    c.requires.stands.0 c.requires.stands.1).some

pub go_on-requires : goal.go_on-requires
go_on-requires g c =
    let there = c.requires.there in
    let heights = rw c.as_slice.ensures.value at c.height_at-height.ensures in
    let cut = cut_at g.S.Store g.S.Cells.atom_word c.args.search.now c.args.rest c.requires.now c.args.mark there
    c.requires.stands.0 c.requires.stands.1 in
    let ahead = cut_ahead g.S.Store g.S.Cells.atom_word c.args.search.now c.args.rest c.requires.now c.args.mark there
    c.cut_to.new.self c.height_at-height.result c.cut_to.ensures.cut
    (λ kept levels. heights there.frame there.code there.level kept there.clause levels) c.requires.stands.0
    c.requires.stands.1 in
    rw c.at.ensures (g.S.Store.present c.cut_to.new.self.store, cut.behind, ahead.chain)

pub returns-clause-moved : goal.returns-clause-moved
returns-clause-moved g c =
    let there = c.requires.there in
    let heights = rw c.as_slice.ensures.value at c.height_at-height.ensures in
    let comes = rw c.at.ensures at c.go_on.ensures.behind in
    let less = rw c.at.ensures at c.go_on.ensures.cost in
    cut_moved g.S.Store g.S.Cells.atom_word c.args.search.now c.args.rest c.requires.now c.args.mark there
    c.cut_to.new.self c.height_at-height.result c.cut_to.ensures.cut
    (λ kept levels. heights there.frame there.code there.level kept there.clause levels) c.cut_to.ensures.same
    c.cut_to.ensures.costs c.go_on.new.doing (comes (g.S.Store.present c.cut_to.new.self.store)) less c.go_on.ensures.awake (search rules)
    c.requires.stands.0 c.requires.stands.1

pub returns-clause-steps : goal.returns-clause-steps
returns-clause-steps g c = ap (λ (e : Engine _ _ _). e.steps) c.cut_to.ensures.same
