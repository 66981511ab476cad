use Rattle.std.proofs.Common.{◌≡◌, [], length, true, false, refl, subst, ◌∙◌}
use Rattle.iso_code.specs.Standing.{files}
use Rattle.iso_machine_core.specs.Entering.{head_operands}
use Rattle.iso_machine_core.specs.Heads.{MeetsHead}
use Rattle.iso_code.proofs.MarkLemmas.{marked_both}
use Rattle.iso_machine_core.specs.Filling.{AreFillers}
use Rattle.iso_machine_core.proofs.EntryLemmas.{entry_ready, entry_missed, entry_stands, entered}
use Rattle.iso_machine_core.proofs.entering.enter_clause.Goals as goal

pub returns-in_err-fill_compounds-clause-substitution : goal.returns-in_err-fill_compounds-clause-substitution
returns-in_err-fill_compounds-clause-substitution g c = g.met.S.Cells.settled c.fill_compounds.new.store

pub meet_head-requires-clause-ready : goal.meet_head-requires-clause-ready
meet_head-requires-clause-ready g c =
    let p = g.S.Store.present c.args.store.now in
    let p1 = g.S.Store.present c.reserve-first.new.self in
    let p2 = g.S.Store.present c.fill_compounds.new.store in
    let cs = c.as_mut_slice-compounds.result.now in
    let fill : AreFillers p2 cs = rw c.as_mut_slice-compounds.ensures.value c.in_ok-fill_compounds.ensures.fillers in
    let low = c.requires.code.0 in let met = c.requires.code.1 in let ts = c.requires.code.2 in let entry = c.requires.code.3 in (
      _,
      met,
      _,
      entry_ready p p1 p2 c.reserve-first.result (length c.args.environment.now) c.reserve-first.ensures.number c.reserve-first.ensures.words c.reserve-first.ensures.substitution c.reserve-first.ensures.numbers c.reserve-first.ensures.free c.in_ok-fill_compounds.ensures.adds (g.S.Store.names c.args.store.now) c.args.head.now c.args.fresh.now c.args.environment.now c.args.arguments.now cs low met ts entry refl c.requires.arguments fill,
      refl,
      (marked_both met (head_operands c.args.head.now) c.args.fresh.now entry.marked).0,
      entry.nexts,
    )

pub returns-in_err-meet_head-clause-substitution : goal.returns-in_err-meet_head-clause-substitution
returns-in_err-meet_head-clause-substitution g c = g.met.S.Cells.settled c.meet_head.new.store

pub returns-then-not-branch-clause-entered : goal.returns-then-not-branch-clause-entered
returns-then-not-branch-clause-entered g c f low met ts entry =
    let p = g.S.Store.present c.args.store.now in
    let p1 = g.S.Store.present c.reserve-first.new.self in
    let p2 = g.S.Store.present c.fill_compounds.new.store in
    let cs = c.as_mut_slice-compounds.result.now in
    let fill : AreFillers p2 cs = rw c.as_mut_slice-compounds.ensures.value c.in_ok-fill_compounds.ensures.fillers in
    let named : g.S.Store.names c.fill_compounds.new.store ≡ g.S.Store.names c.args.store.now = c.in_ok-fill_compounds.ensures.rest.names ∙ c.reserve-first.ensures.names in
    let there = rw c.if-not-branch.true at c.in_ok-meet_head.ensures.meets in
    let meets = subst (λ ns. MeetsHead ns c.args.head.now.gets.items c.args.head.now.blocks.items c.reserve-first.result p2 (g.S.Store.present c.meet_head.new.store)
    (files c.args.environment.now c.args.arguments.now cs) (files c.meet_head.new.environment c.args.arguments.now c.meet_head.new.compounds) false) named there in
    entry_missed p p1 p2 c.reserve-first.result (length c.args.environment.now) c.reserve-first.ensures.number c.reserve-first.ensures.words c.reserve-first.ensures.substitution c.reserve-first.ensures.numbers c.reserve-first.ensures.free c.in_ok-fill_compounds.ensures.adds (g.met.S.Store.untouched c.args.store.now) (g.met.S.Cells.unreserved c.args.store.now) (g.met.S.Cells.sorted c.args.store.now) (g.S.Store.names c.args.store.now) c.args.head.now c.args.fresh.now
    c.args.environment.now c.args.arguments.now cs low met ts entry refl c.requires.arguments fill f (g.S.Store.present c.meet_head.new.store) (files c.meet_head.new.environment c.args.arguments.now c.meet_head.new.compounds) meets

pub returns-then-not-branch-clause-substitution : goal.returns-then-not-branch-clause-substitution
returns-then-not-branch-clause-substitution g c = g.met.S.Cells.settled c.meet_head.new.store

pub make_variables-requires-clause-stands : goal.make_variables-requires-clause-stands
make_variables-requires-clause-stands g c =
    let p = g.S.Store.present c.args.store.now in
    let p1 = g.S.Store.present c.reserve-first.new.self in
    let p2 = g.S.Store.present c.fill_compounds.new.store in
    let cs = c.as_mut_slice-compounds.result.now in
    let fill : AreFillers p2 cs = rw c.as_mut_slice-compounds.ensures.value c.in_ok-fill_compounds.ensures.fillers in
    let low = c.requires.code.0 in let met = c.requires.code.1 in let ts = c.requires.code.2 in let entry = c.requires.code.3 in
    let named : g.S.Store.names c.fill_compounds.new.store ≡ g.S.Store.names c.args.store.now = c.in_ok-fill_compounds.ensures.rest.names ∙ c.reserve-first.ensures.names in
    let there = rw c.if-not-branch.false at c.in_ok-meet_head.ensures.meets in
    let meets = subst (λ ns. MeetsHead ns c.args.head.now.gets.items c.args.head.now.blocks.items c.reserve-first.result p2 (g.S.Store.present c.meet_head.new.store)
    (files c.args.environment.now c.args.arguments.now cs) (files c.meet_head.new.environment c.args.arguments.now c.meet_head.new.compounds) true) named there in
    entry_stands p p1 p2 c.reserve-first.result (length c.args.environment.now) c.reserve-first.ensures.number c.reserve-first.ensures.words c.reserve-first.ensures.substitution c.reserve-first.ensures.numbers c.reserve-first.ensures.free c.in_ok-fill_compounds.ensures.adds (g.met.S.Store.untouched c.args.store.now) (g.met.S.Cells.unreserved c.args.store.now) (g.met.S.Cells.sorted c.args.store.now) (g.S.Store.names c.args.store.now) c.args.head.now c.args.fresh.now
    c.args.environment.now c.args.arguments.now cs low met ts entry refl c.requires.arguments fill [] (g.S.Store.present c.meet_head.new.store) c.meet_head.new.environment c.meet_head.new.compounds meets

pub make_variables-requires-clause-inside : goal.make_variables-requires-clause-inside
make_variables-requires-clause-inside g c =
    (length (g.S.Store.names c.args.store.now), 0, rw c.meet_head.ensures.environment c.requires.code.3.inside)

pub returns-in_err-make_variables-clause-substitution : goal.returns-in_err-make_variables-clause-substitution
returns-in_err-make_variables-clause-substitution g c = g.met.S.Cells.settled c.make_variables.new.store

pub returns-clause-entered : goal.returns-clause-entered
returns-clause-entered g c f low met ts entry =
    let p = g.S.Store.present c.args.store.now in
    let p1 = g.S.Store.present c.reserve-first.new.self in
    let p2 = g.S.Store.present c.fill_compounds.new.store in
    let cs = c.as_mut_slice-compounds.result.now in
    let fill : AreFillers p2 cs = rw c.as_mut_slice-compounds.ensures.value c.in_ok-fill_compounds.ensures.fillers in
    let named : g.S.Store.names c.fill_compounds.new.store ≡ g.S.Store.names c.args.store.now = c.in_ok-fill_compounds.ensures.rest.names ∙ c.reserve-first.ensures.names in
    let there = rw c.if-not-branch.false at c.in_ok-meet_head.ensures.meets in
    let meets = subst (λ ns. MeetsHead ns c.args.head.now.gets.items c.args.head.now.blocks.items c.reserve-first.result p2 (g.S.Store.present c.meet_head.new.store)
    (files c.args.environment.now c.args.arguments.now cs) (files c.meet_head.new.environment c.args.arguments.now c.meet_head.new.compounds) true) named there in
    let carries = rw c.if-not-branch.false at c.in_ok-meet_head.ensures.carries in
    entered p p1 p2 c.reserve-first.result (length c.args.environment.now) c.reserve-first.ensures.number c.reserve-first.ensures.words c.reserve-first.ensures.substitution c.reserve-first.ensures.numbers c.reserve-first.ensures.free c.in_ok-fill_compounds.ensures.adds (g.met.S.Store.untouched c.args.store.now) (g.met.S.Cells.unreserved c.args.store.now) (g.met.S.Cells.sorted c.args.store.now) (g.S.Store.names c.args.store.now) c.args.head.now c.args.fresh.now
    c.args.environment.now c.args.arguments.now cs low met ts entry refl c.requires.arguments fill f (g.S.Store.present c.meet_head.new.store) c.meet_head.new.environment c.meet_head.new.compounds meets
    (g.S.Store.present c.make_variables.new.store) c.make_variables.new.environment (carries refl) c.in_ok-make_variables.ensures.widens c.in_ok-make_variables.ensures.makes
    (g.met.S.Store.untouched c.make_variables.new.store) (g.met.S.Cells.unreserved c.make_variables.new.store) (c.make_variables.ensures.count ∙ c.meet_head.ensures.environment)

pub returns-clause-substitution : goal.returns-clause-substitution
returns-clause-substitution g c = g.met.S.Cells.settled c.make_variables.new.store
